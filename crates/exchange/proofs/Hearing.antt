-- Hearing and feeding piece by piece: what is left after one piece leads to the same end as before it.
use Rattle.opcodes.specs.declared.Refusal.{Refusal}
use Prim.Native.Nat.{ℕ, ◌+◌, ◌*◌, ◌/◌, ◌%◌, ◌^◌, ◌<◌}
use mathlib.Core.List.{List, [], ◌∷◌, ◌++◌}
use mathlib.Core.Logic.{◌≢◌}
use mathlib.Core.Path.{◌≡◌, refl, sym, ap, ap₂, ◌∙◌}
use native.Mathlib.Numerals.{add-one}
use native.Mathlib.Omega.{arith}
use denote.Enum.Bare.{sameb}
use mathlib.Core.Bool.{true, false, true≢false}
use lib.Dec.{eqb}
use lib.ListN.{length, get_or, drop}
use lib.Seq.{drop-cons, drop-length}
use borrow.Author.Tests.{eqb-true, eq-eqb, ne_eqb}
use Rattle.std.specs.Prelude.{Some}
use Rattle.std.specs.Prelude.{None as Nothing}
use Rattle.std.specs.Option.{option_or}
use Rattle.words.specs.rules.Bytes.{byte}
use Rattle.words.specs.rules.Choice.{pick}
use Rattle.words.proofs.Choice.{chosen, passed, by_test}
use Rattle.opcodes.specs.rules.Answers.{told}
use Rattle.opcodes.specs.declared.Event.{Event}
use Rattle.opcodes.specs.declared.Refusal.TheVariants as why
use Rattle.opcodes.specs.contracts.Refusal.{the_type}
use Rattle.opcodes.specs.rules.Refusals.{Verdict}
use Rattle.event_room.specs.rules.Room.{place_after, room_after}
use Rattle.event_room.proofs.Writing.{length_after, place_joined, room_joined}
use Rattle.sent.specs.rules.Bus.{start_unit, units_of, units_fed, halves_of}
use Rattle.sent.specs.rules.Feeding.{fed, answers, replied, events_heard}
use Rattle.sent.specs.rules.Line.{unit_step}
use Rattle.sent.specs.declared.Answer.{Answer}
use Rattle.sent.specs.declared.Bus.{Bus}
use Rattle.sent.specs.declared.Bus.TheVariants.{Bytes, Halves}
use Rattle.sent.specs.declared.Session.{Session}
use Rattle.sent.proofs.Units.{halves_count}
use Rattle.host_answers.specs.rules.Hosts.{heard_all}
use Rattle.host_answers.specs.rules.Hosts as hosts
use Rattle.host_answers.specs.declared.Host.{Host}
use Rattle.exchange.specs.rules.Exchange.{but_ended, first_but_ended}
use Rattle.exchange.specs.rules.Standing.{last_after, noted, standing_fed, memory_fed, room_fed}
use Rattle.exchange.specs.declared.Standing.{Standing}

-- hearing some bytes and then others
pub heard_append : (h : Host) (a b : List ℕ) → heard_all h (a ++ b) ≡ heard_all (heard_all h a) b
unfolding heard_all
heard_append h [] b = refl
heard_append h (x ∷ a) b = heard_append (hosts.heard h x) a b

-- one byte heard, and those after it left to hear
pub byte_turn : (h : Host) (bytes : List ℕ) (i : ℕ) → i < length bytes
    → heard_all (hosts.heard h (get_or bytes i 0)) (drop (i + 1) bytes) ≡ heard_all h (drop i bytes)
unfolding heard_all
byte_turn h bytes i inside = rw (add-one, drop-cons bytes i 0 inside)

-- no byte left to hear
pub all_heard : (h : Host) (i : ℕ) (bytes : List ℕ) → i ≡ length bytes → heard_all h (drop i bytes) ≡ h
unfolding heard_all
all_heard h i bytes e = rw (e, drop-length)

-- the last of some events and then of others
pub last_append : (e : Event) (a b : List Event) → last_after e (a ++ b) ≡ last_after (last_after e a) b
unfolding last_after
last_append e [] b = refl
last_append e (x ∷ a) b = last_append x a b

-- the first of three refusals, from either end
pub first_first : (a b c : Verdict) → option_or a (option_or b c) ≡ option_or (option_or a b) c
first_first Nothing b c = refl
first_first (Some q) b c = refl

pub first_none : (a : Verdict) → option_or a Nothing ≡ a
first_none Nothing = refl
first_none (Some q) = refl

-- every refusal but 14 counts, and where nothing is refused nothing does
pub counts : (q : Refusal) → sameb the_type q why.Ended ≡ false → but_ended (Some q) ≡ Some q
unfolding pick
counts why.Ended e = absurd (true≢false e)
counts why.Map e = refl
counts why.Memory e = refl
counts why.Image e = refl
counts why.Magic e = refl
counts why.Missing e = refl
counts why.Opcode e = refl
counts why.Range e = refl
counts why.TypeWord e = refl
counts why.Unaligned e = refl
counts why.Entry e = refl
counts why.Checksum e = refl
counts why.Seek e = refl
counts why.Retired e = refl
counts why.TooWide e = refl
counts why.Totals e = refl
counts why.Overflow e = refl
counts why.Call e = refl
counts why.Tries e = refl
counts why.Length e = refl
counts why.Digit e = refl
counts why.Room e = refl
counts why.Chosen e = refl
counts why.Number e = refl

pub ended_counts : (q : Refusal) → sameb the_type q why.Ended ≡ true → but_ended (Some q) ≡ Nothing
unfolding pick
ended_counts why.Ended e = refl
ended_counts why.Map e = absurd (true≢false (sym e))
ended_counts why.Memory e = absurd (true≢false (sym e))
ended_counts why.Image e = absurd (true≢false (sym e))
ended_counts why.Magic e = absurd (true≢false (sym e))
ended_counts why.Missing e = absurd (true≢false (sym e))
ended_counts why.Opcode e = absurd (true≢false (sym e))
ended_counts why.Range e = absurd (true≢false (sym e))
ended_counts why.TypeWord e = absurd (true≢false (sym e))
ended_counts why.Unaligned e = absurd (true≢false (sym e))
ended_counts why.Entry e = absurd (true≢false (sym e))
ended_counts why.Checksum e = absurd (true≢false (sym e))
ended_counts why.Seek e = absurd (true≢false (sym e))
ended_counts why.Retired e = absurd (true≢false (sym e))
ended_counts why.TooWide e = absurd (true≢false (sym e))
ended_counts why.Totals e = absurd (true≢false (sym e))
ended_counts why.Overflow e = absurd (true≢false (sym e))
ended_counts why.Call e = absurd (true≢false (sym e))
ended_counts why.Tries e = absurd (true≢false (sym e))
ended_counts why.Length e = absurd (true≢false (sym e))
ended_counts why.Digit e = absurd (true≢false (sym e))
ended_counts why.Room e = absurd (true≢false (sym e))
ended_counts why.Chosen e = absurd (true≢false (sym e))
ended_counts why.Number e = absurd (true≢false (sym e))

pub none_counts : (first q : Verdict) → ((r : Refusal) → q ≡ Some r → ⊥) → first ≡ option_or first (but_ended q)
unfolding pick
none_counts first Nothing e = sym (first_none first)
none_counts first (Some r) e = absurd (e r refl)

-- standings that agree in all parts
same_standing : {h h₁ : Host} {x : Session} {e e₁ : Event} {q r r₁ : Verdict} {p p₁ : ℕ} → h ≡ h₁ → e ≡ e₁ → r ≡ r₁ → p ≡ p₁
    → ◌≡◌ {A = Standing} (record { host = h; session = x; event = e; refusal = q; refused = r; told = p })
    (record { host = h₁; session = x; event = e₁; refusal = q; refused = r₁; told = p₁ })
same_standing a b c d = rw (a, b, c, d) refl

module _ (bus : Bus) (s : Standing) (m room units : List ℕ) (i : ℕ) (inside : i < length units) where
  abbrev u : ℕ
  u = get_or units i 0

  -- a unit fed, and those after it left to feed
  fed_turn : (size : ℕ)
      → standing_fed size bus (noted size s (unit_step bus s.session m u).answer) (unit_step bus s.session m u).memory (drop (i + 1) units)
      ≡ standing_fed size bus s m (drop i units)
  unfolding standing_fed fed answers replied events_heard first_but_ended
  fed_turn size =
      rw (add-one, drop-cons units i 0 inside)
      (same_standing (sym (heard_append s.host _ _)) (sym (last_append s.event _ _)) (sym (first_first s.refused _ _))
      (sym (place_joined size s.told _ _)))

  memory_turn : memory_fed bus (noted (length room) s (unit_step bus s.session m u).answer) (unit_step bus s.session m u).memory (drop (i + 1) units)
      ≡ memory_fed bus s m (drop i units)
  unfolding memory_fed fed
  memory_turn = rw (add-one, drop-cons units i 0 inside)

  room_turn : room_fed bus (noted (length room) s (unit_step bus s.session m u).answer) (unit_step bus s.session m u).memory
      (room_after room s.told (told (unit_step bus s.session m u).answer.event)) (drop (i + 1) units)
      ≡ room_fed bus s m room (drop i units)
  unfolding room_fed fed answers events_heard
  room_turn = rw (add-one, drop-cons units i 0 inside) (sym (room_joined room s.told _ _))

  -- all three, by what the code has
  pub feeds : {a : Answer} {next : Standing} {left laid : List ℕ} → a ≡ (unit_step bus s.session m u).answer → left ≡ (unit_step bus s.session m u).memory
      → (next ≡ noted (length room) s a) × (laid ≡ room_after room s.told (told a.event))
      → (standing_fed (length laid) bus next left (drop (i + 1) units) ≡ standing_fed (length room) bus s m (drop i units))
      × ((memory_fed bus next left (drop (i + 1) units) ≡ memory_fed bus s m (drop i units))
      × (room_fed bus next left laid (drop (i + 1) units) ≡ room_fed bus s m room (drop i units)))
  feeds {a} {next} {left} {laid} e f g =
      let rest = drop (i + 1) units in
      let answer = (unit_step bus s.session m u).answer in
      let after : next ≡ noted (length room) s answer = g.0 ∙ ap (λ (x : Answer). noted (length room) s x) e in
      let lent : laid ≡ room_after room s.told (told answer.event) = g.1 ∙ ap (λ (x : Answer). room_after room s.told (told x.event)) e in
      let size : length laid ≡ length room = ap length lent ∙ length_after room s.told (told answer.event) in (
        ap (λ (k : ℕ). standing_fed k bus next left rest) size
            ∙ ap₂ (λ (x : Standing) (l : List ℕ). standing_fed (length room) bus x l rest) after f
            ∙ fed_turn (length room),
        (
          ap₂ (λ (x : Standing) (l : List ℕ). memory_fed bus x l rest) after f ∙ memory_turn,
          ap (λ (l : List ℕ). room_fed bus next left l rest) lent
              ∙ ap₂ (λ (x : Standing) (l : List ℕ). room_fed bus x l (room_after room s.told (told answer.event)) rest) after f
              ∙ room_turn,
        ),
      )

-- nothing left to feed
pub all_fed : (size : ℕ) (bus : Bus) (s : Standing) (m units : List ℕ) (i : ℕ) → i ≡ length units → standing_fed size bus s m (drop i units) ≡ s
unfolding standing_fed fed answers replied events_heard first_but_ended heard_all last_after place_after
all_fed size bus s m units i e = rw (e, drop-length) (same_standing refl refl (first_none s.refused) refl)

pub all_laid : (bus : Bus) (s : Standing) (m units : List ℕ) (i : ℕ) → i ≡ length units → memory_fed bus s m (drop i units) ≡ m
unfolding memory_fed fed
all_laid bus s m units i e = rw (e, drop-length)

pub all_told : (bus : Bus) (s : Standing) (m room units : List ℕ) (i : ℕ) → i ≡ length units → room_fed bus s m room (drop i units) ≡ room
unfolding room_fed fed answers events_heard room_after
all_told bus s m room units i e = rw (e, drop-length)

-- what stands after some units, with the memory and the room
abbrev pub Fed : Bus → Standing → List ℕ → List ℕ → List ℕ → Standing → List ℕ → List ℕ → Type 0
Fed bus s m room units next left laid =
    (next ≡ standing_fed (length room) bus s m units) × ((left ≡ memory_fed bus s m units) × (laid ≡ room_fed bus s m room units))

-- no unit at all
pub none_fed : (bus : Bus) (s : Standing) (m room : List ℕ) → Fed bus s m room [] s m room
unfolding standing_fed memory_fed room_fed fed answers replied events_heard first_but_ended heard_all last_after place_after room_after
none_fed bus s m room = (same_standing refl refl (sym (first_none s.refused)) refl, (refl, refl))

-- the same units under another name
pub fed_as : (bus : Bus) (s : Standing) (m room : List ℕ) {units same left laid : List ℕ} {next : Standing} → units ≡ same
    → Fed bus s m room units next left laid → Fed bus s m room same next left laid
fed_as bus s m room e after = (
  after.0 ∙ ap (λ (l : List ℕ). standing_fed (length room) bus s m l) e,
  (after.1.0 ∙ ap (λ (l : List ℕ). memory_fed bus s m l) e, after.1.1 ∙ ap (λ (l : List ℕ). room_fed bus s m room l) e),
)

-- the start unit of a line that is known
pub start_fed : (s : Standing) (m room : List ℕ) {bus line : Bus} {left laid : List ℕ} {next : Standing} → bus ≡ line
    → Fed line s m room (start_unit line ∷ []) next left laid → Fed bus s m room (start_unit bus ∷ []) next left laid
start_fed s m room e after = rw e after

-- halves are two bytes each
pub half_count : (bytes : List ℕ) → length bytes / 2 ≡ length (units_fed Halves bytes)
half_count bytes = sym (halves_count bytes)

-- a word lent as its bytes
low_half : (w : ℕ) → byte w 0 + byte w 1 * 2 ^ 8 ≡ w % 2 ^ 16
unfolding byte
low_half w = omega arith

high_half : (w : ℕ) → w < 2 ^ 32 → byte w 2 + byte w 3 * 2 ^ 8 ≡ w / 2 ^ 16
unfolding byte
high_half w fits = omega arith

word_fed : (bus : Bus) (w : ℕ) → w < 2 ^ 32 → units_fed bus (byte w 0 ∷ byte w 1 ∷ byte w 2 ∷ byte w 3 ∷ []) ≡ units_of bus w
unfolding halves_of
word_fed Bytes w fits = refl
word_fed Halves w fits = ap₂ (λ (a b : ℕ). a ∷ b ∷ []) (low_half w) (high_half w fits)

pub word_lent : {a b c d : ℕ} (bus : Bus) (w : ℕ) → w < 2 ^ 32 → a ≡ byte w 0 → b ≡ byte w 1 → c ≡ byte w 2 → d ≡ byte w 3
    → units_fed bus (a ∷ b ∷ c ∷ d ∷ []) ≡ units_of bus w
word_lent bus w fits e f g h = rw (e, f, g, h) (word_fed bus w fits)
