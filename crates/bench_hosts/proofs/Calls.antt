-- The calls for C, case by case: another length, line or dialect, or the call itself.
use Prim.Native.Nat.{ℕ, ◌*◌, ◌^◌, ◌≤◌}
use mathlib.Core.Bool.{Bool, true, false, not, ◌&&◌, and-false}
use mathlib.Core.List.{List}
use mathlib.Core.Logic.{◌≢◌}
use mathlib.Core.Path.{◌≡◌, refl, sym, ap, ap₂, ◌∙◌}
use native.Mathlib.Omega.{arith}
use lib.Dec.{eqb}
use lib.ListN.{length}
use borrow.Author.Tests.{eq-eqb, ne_eqb}
use Rattle.words.proofs.Choice.{chosen, passed}
use Rattle.windows.specs.rules.Map.{good_map, kept_of}
use Rattle.windows.specs.rules.Window.{sum_of}
use Rattle.windows.specs.declared.Window.{Window}
use Rattle.opcodes.specs.rules.Answers.{code_of}
use Rattle.opcodes.specs.declared.Dialect.{Dialect}
use Rattle.opcodes.specs.rules.Refusals.{Verdict}
use Rattle.opcodes.specs.rules.Refusals as refusal
use Rattle.sent.specs.declared.Bus.{Bus}
use Rattle.host_answers.specs.rules.Hosts.{heard, opened_by}
use Rattle.host.specs.rules.Turn.{turned}
use Rattle.host_answers.specs.declared.Host.{Host}
use Rattle.host_answers.specs.declared.Opened.{Opened}
use Rattle.host_answers.specs.declared.Turned.{Turned}
use Rattle.exchange.specs.rules.Exchange.{Talk, meeting, exchanged}
use Rattle.exchange.specs.rules.Standing.{outcome_of}
use Rattle.exchange.specs.declared.Exchanged.{Exchanged}
use Rattle.bench_sessions.specs.rules.Map.{windows_of, count_of}
use Rattle.bench_sessions.specs.rules.Numbers.{line_of, dialect_of}
use Rattle.bench_hosts.specs.rules.HostBytes.{host_bytes, flag_of, written_host, host_laid, read_host}
use Rattle.bench_hosts.specs.rules.HostCalls.{leaving, are_named, opened_into, host_opened, host_heard, turn_value, turned_into, host_turned}
use Rattle.bench_hosts.specs.rules.HostCalls.{exchange_value, exchanged_into, exchange_refused, exchange_session}
use Rattle.bench_hosts.proofs.Laying.{laid}

-- two that agree in both parts
pub same_call : {value value₁ : ℕ} {bytes bytes₁ : List ℕ} → value ≡ value₁ → bytes ≡ bytes₁ → leaving value bytes ≡ leaving value₁ bytes₁
same_call e f = rw (e, f) refl

module _ (host : List ℕ) (line dialect : ℕ) (image : List ℕ) (tries limit pings : ℕ) where
  pub not_a_host : length host ≢ host_bytes → leaving 19 host ≡ host_opened host line dialect image tries limit pings
  unfolding host_opened
  not_a_host other = sym (passed _ _ _ (ap (λ (t : Bool). t && are_named line dialect) (ne_eqb _ _ other)))

  pub not_named : are_named line dialect ≡ false → leaving 19 host ≡ host_opened host line dialect image tries limit pings
  unfolding host_opened
  not_named e = sym (passed _ _ _ (ap (λ (t : Bool). eqb (length host) host_bytes && t) e ∙ and-false (eqb (length host) host_bytes)))

  pub opens : length host ≡ host_bytes → are_named line dialect ≡ true
      → opened_into (opened_by (line_of line) (dialect_of dialect) image tries limit pings) ≡ host_opened host line dialect image tries limit pings
  unfolding host_opened
  opens long named = sym (chosen _ _ _ (ap₂ ◌&&◌ (eq-eqb (length host) host_bytes long) named))

module _ (host : List ℕ) where
  pub hears_nothing : (byte : ℕ) → length host ≢ host_bytes → leaving 19 host ≡ host_heard host byte
  unfolding host_heard
  hears_nothing byte other = sym (passed _ _ _ (ne_eqb _ _ other))

  pub hears : (byte : ℕ) → length host ≡ host_bytes → leaving 0 (written_host (heard (read_host host) byte)) ≡ host_heard host byte
  unfolding host_heard
  hears byte long = sym (chosen _ _ _ (eq-eqb _ _ long))

  pub no_turn : (image : List ℕ) → length host ≢ host_bytes → leaving (19 * 2 ^ 56) host ≡ host_turned host image
  unfolding host_turned
  no_turn image other = sym (passed _ _ _ (ne_eqb _ _ other))

  pub turns : (image : List ℕ) → length host ≡ host_bytes → turned_into (turned (read_host host) image) ≡ host_turned host image
  unfolding host_turned
  turns image long = sym (chosen _ _ _ (eq-eqb _ _ long))

-- why an exchange does not begin
module _ (line dialect : ℕ) (map : List ℕ) (lent : ℕ) where
  abbrev good : Bool
  good = good_map (count_of map) (windows_of map)

  abbrev sum : ℕ
  sum = sum_of (kept_of (count_of map) (windows_of map))

  pub barred_call : are_named line dialect ≡ false → refusal.Call ≡ exchange_refused line dialect map lent
  unfolding exchange_refused
  barred_call e = sym (chosen _ _ _ (ap not e))

  pub barred_map : are_named line dialect ≡ true → good ≡ false → refusal.Map ≡ exchange_refused line dialect map lent
  unfolding exchange_refused
  barred_map e f = sym (passed _ _ _ (ap not e) ∙ chosen _ _ _ (ap not f))

  pub barred_memory : are_named line dialect ≡ true → good ≡ true → lent ≢ sum → refusal.Memory ≡ exchange_refused line dialect map lent
  unfolding exchange_refused
  barred_memory e f g = sym (passed _ _ _ (ap not e) ∙ passed _ _ _ (ap not f) ∙ chosen _ _ _ (ap not (ne_eqb _ _ g)))

  pub barred_none : are_named line dialect ≡ true → good ≡ true → lent ≡ sum → refusal.None ≡ exchange_refused line dialect map lent
  unfolding exchange_refused
  barred_none e f g = sym (passed _ _ _ (ap not e) ∙ passed _ _ _ (ap not f) ∙ passed _ _ _ (ap not (eq-eqb _ _ g)))

module _ (line dialect : ℕ) (map memory image : List ℕ) (tries limit pings : ℕ) where
  abbrev barrier : Verdict
  barrier = exchange_refused line dialect map (length memory)

  pub bars : code_of barrier ≢ 0 → leaving (code_of barrier * 2 ^ 56) memory ≡ exchange_session line dialect map memory image tries limit pings
  unfolding exchange_session
  bars e = sym (passed _ _ _ (ne_eqb _ _ e))

  pub exchanges : code_of barrier ≡ 0
      → exchanged_into (exchanged (meeting (line_of line) (dialect_of dialect) (count_of map) (windows_of map) memory image tries limit pings) image)
      ≡ exchange_session line dialect map memory image tries limit pings
  unfolding exchange_session
  exchanges e = sym (chosen _ _ _ (eq-eqb _ _ e))

-- each call, by what the code has
module _ (host : List ℕ) where
  pub opened_call : (line dialect : ℕ) (image : List ℕ) (tries limit pings : ℕ) {bus : Bus} {family : Dialect} {o : Opened} {value : ℕ} {left : List ℕ}
      → length host ≡ host_bytes → are_named line dialect ≡ true → bus ≡ line_of line → family ≡ dialect_of dialect
      → o ≡ opened_by bus family image tries limit pings → value ≡ code_of o.refusal → left ≡ host_laid host o.host
      → leaving value left ≡ host_opened host line dialect image tries limit pings
  opened_call line dialect image tries limit pings long named b d e v l =
      let whole = e ∙ ap₂ (λ (x : Bus) (y : Dialect). opened_by x y image tries limit pings) b d in
      same_call (v ∙ ap (λ (x : Opened). code_of x.refusal) whole) (l ∙ laid host _ long ∙ ap (λ (x : Opened). written_host x.host) whole)
      ∙ opens host line dialect image tries limit pings long named

  pub heard_call : (byte : ℕ) {h next : Host} {left : List ℕ} → length host ≡ host_bytes → h ≡ read_host host → next ≡ heard h byte → left ≡ host_laid host next
      → leaving 0 left ≡ host_heard host byte
  heard_call byte long e f l =
      let whole = f ∙ ap (λ (x : Host). heard x byte) e in
      same_call refl (l ∙ laid host _ long ∙ ap written_host whole) ∙ hears host byte long

  pub turned_call : (image : List ℕ) {h : Host} {t : Turned} {value : ℕ} {left : List ℕ} → length host ≡ host_bytes → h ≡ read_host host → t ≡ turned h image
      → value ≡ turn_value t → left ≡ host_laid host t.host → leaving value left ≡ host_turned host image
  turned_call image long e f v l =
      let whole = f ∙ ap (λ (x : Host). turned x image) e in
      same_call (v ∙ ap turn_value whole) (l ∙ laid host _ long ∙ ap (λ (x : Turned). written_host x.host) whole) ∙ turns host image long

module _ (line dialect : ℕ) (map memory image : List ℕ) (tries limit pings : ℕ) where
  pub session_barred : {q : Verdict} {value : ℕ} → q ≡ exchange_refused line dialect map (length memory) → code_of q ≢ 0 → value ≡ code_of q * 2 ^ 56
      → leaving value memory ≡ exchange_session line dialect map memory image tries limit pings
  session_barred e some v =
      same_call (v ∙ ap (λ (x : Verdict). code_of x * 2 ^ 56) e) refl
      ∙ bars line dialect map memory image tries limit pings (λ none. some (ap code_of e ∙ none))

  pub exchanged_call : {q : Verdict} {bus : Bus} {family : Dialect} {count : ℕ} {windows : List Window} {e : Exchanged} {value : ℕ} {left : List ℕ}
      → q ≡ exchange_refused line dialect map (length memory) → code_of q ≡ 0
      → bus ≡ line_of line → family ≡ dialect_of dialect → count ≡ count_of map → windows ≡ windows_of map
      → e ≡ outcome_of 0 (exchanged (meeting bus family count windows memory image tries limit pings) image)
      → left ≡ (exchanged (meeting bus family count windows memory image tries limit pings) image).loader.memory
      → value ≡ exchange_value e
      → leaving value left ≡ exchange_session line dialect map memory image tries limit pings
  exchanged_call q none b d c w e l v =
      let whole = same_meeting b d c w in
      same_call (v ∙ ap exchange_value (e ∙ ap (λ (t : Talk). outcome_of 0 (exchanged t image)) whole))
      (l ∙ ap (λ (t : Talk). (exchanged t image).loader.memory) whole)
      ∙ exchanges line dialect map memory image tries limit pings (ap code_of (sym q) ∙ none)
    where
      same_meeting : {bus bus₁ : Bus} {family family₁ : Dialect} {count count₁ : ℕ} {windows windows₁ : List Window}
          → bus ≡ bus₁ → family ≡ family₁ → count ≡ count₁ → windows ≡ windows₁
          → meeting bus family count windows memory image tries limit pings ≡ meeting bus₁ family₁ count₁ windows₁ memory image tries limit pings
      same_meeting x y z u = rw (x, y, z, u) refl

-- a flag is 0 or 1
pub flag_small : (b : Bool) {n : ℕ} → n ≡ flag_of b → n ≤ 1
flag_small true e = omega arith
flag_small false e = omega arith
