-- What the totals come to, word by word: only the size word of a load and the last word of a fill count, only Start-Over takes back, only a Jump & Close
-- compares, and none of this touches anything else in AM17xx. By cases over the commands, then over the phases, the tests of a unit and the words or units.
use Rattle.opcodes.specs.declared.Refusal.{Refusal}
use Rattle.std.specs.Prelude.{Some, Ok, Err}
use Prim.Native.Nat.{ℕ, ◌-◌}
use mathlib.Core.Bool.{Bool, true, false}
use mathlib.Core.List.{List, [], ◌∷◌}
use mathlib.Core.Logic.{◌≢◌}
use mathlib.Core.Path.{◌≡◌, refl, sym, ap, ap₂, subst, ◌∙◌}
use native.Mathlib.Omega.{arith}
use lib.Dec.{eqb}
use borrow.Author.Tests.{ne_eqb, eqb-true}
use Rattle.std.specs.declared.result.Result.{Result}
use Rattle.std.specs.declared.result.Result.TheVariants.{Ok}
use Rattle.words.specs.rules.Bytes.{byte}
use Rattle.words.specs.rules.Choice.{pick}
use Rattle.words.proofs.Choice.{passed, of_choice}
use Rattle.opcodes.specs.rules.Answers.{code_of}
use Rattle.opcodes.specs.rules.Opcodes.{looked_up, with_words}
use Rattle.opcodes.specs.declared.Command.{Command}
use Rattle.opcodes.specs.declared.Command.TheVariants as command
use Rattle.opcodes.specs.declared.Dialect.{Dialect}
use Rattle.opcodes.specs.declared.Dialect.TheVariants.{Am17xx, Dm648}
use Rattle.opcodes.specs.declared.Event.{Event}
use Rattle.opcodes.specs.declared.Event.TheVariants as event
use Rattle.opcodes.specs.declared.Mode.TheVariants.{Sent}
use Rattle.opcodes.specs.declared.Refusal.TheVariants as why
use Rattle.opcodes.specs.rules.Refusals.{Verdict}
use Rattle.opcodes.specs.rules.Refusals as refusal
use Rattle.opcodes.proofs.Counts.{row_is, row-is}
use Rattle.opcodes.specs.declared.Known.{Known}
use Rattle.opcodes.proofs.Looked.{Looked, of_row, of_none, of_retired, looked}
use Rattle.ledger.specs.claims.Agreement.{Zero, plus}
use Rattle.ledger.specs.rules.Totals.{standing, at_opening, numbered_as, differs, counted, numbered, turned}
use Rattle.ledger.specs.declared.Standing.{Standing}
use Rattle.ledger.specs.declared.Totals.{Totals}
use Rattle.ledger.proofs.Agreement.{stays_zero}
use Rattle.ledger.proofs.Laws.{settled_now, turned_numbers, names_them, plus_none, plus_more, plus_one}
use Rattle.commands.specs.rules.Commands.{done_if, load_judged, fill_judged, fill_done, setting_judged, setting_done, entry_judged, close_done, Judged}
use Rattle.commands.specs.declared.Done.{Done}
use Rattle.commands.specs.declared.Wrote.{Wrote}
use Rattle.commands.proofs.Judging.{granted_before, load_passes, fill_passes}
use Rattle.machine.specs.claims.Counting.{WordsCount, size_of, kept_before, sizes_at, NoRetry, sizes_of, Entering}
use Rattle.machine_answers.specs.rules.Answers.{WordOutcome, tallied, quiet, writing, ◌leaving◌, after, entered}
use Rattle.machine_answers.specs.rules.Counts.{counted_on, out_of_numbers, overflowing}
use Rattle.machine_loads.specs.rules.Loads.{load_begun}
use Rattle.machine_commands.specs.rules.Performed.{none_kept, close_address, close_judged, performed}
use Rattle.machine.specs.rules.Machine.{toward, begun, acknowledging, opening, at_opcode, in_phase, word_step}
use Rattle.machine_answers.specs.rules.Replies.{one_word, farewell}
use Rattle.machine.specs.claims.Words.{after_words}
use Rattle.machine_answers.specs.declared.Core.{Core}
use Rattle.machine_answers.specs.declared.Kept.{Kept}
use Rattle.machine_answers.specs.declared.Phase.{Phase}
use Rattle.machine_answers.specs.declared.Phase.TheVariants as phase
use Rattle.machine_answers.specs.declared.Taken.{Taken}
use Rattle.machine.proofs.Every.{every_word}
use Rattle.machine_loads.proofs.Granted.{GrantedAt, numbers, section_numbered, section_counts, load_not_refused, done_not_refused}

-- what stands after a word
abbrev now_of : WordOutcome → Standing
now_of o = o.answer.core.tally.totals.now

-- what an acknowledgement leaves
ack_core : (opcode : ℕ) (t : Taken) → (acknowledging opcode t).core ≡ t.core
unfolding acknowledging
ack_core opcode t = of_choice (λ (x : Taken). x.core ≡ t.core) _ {b = t} (λ h. refl) (λ h. refl)

ack_refusal : (opcode : ℕ) (t : Taken) → (acknowledging opcode t).refusal ≡ t.refusal
unfolding acknowledging
ack_refusal opcode t = of_choice (λ (x : Taken). x.refusal ≡ t.refusal) _ {b = t} (λ h. refl) (λ h. refl)

ack_event : (opcode : ℕ) (t : Taken) → (acknowledging opcode t).event ≡ t.event
unfolding acknowledging
ack_event opcode t = of_choice (λ (x : Taken). x.event ≡ t.event) _ {b = t} (λ h. refl) (λ h. refl)

-- opcodes with no argument words are of no load and no fill
no_size : (d : Dialect) (c : Command) (words : ℕ) → row_is Sent d c words ≡ true → pick (eqb words 0) (size_of c none_kept 0) [] ≡ []
unfolding row_is
no_size d command.Load words row = passed _ _ _ (ne_eqb words 0 (λ e. omega (arith, e, eqb-true words 2 row)))
no_size d command.Fill words row = passed _ _ _ (ne_eqb words 0 (λ e. omega (arith, e, eqb-true words 4 row)))
no_size d command.BootTable words row = of_choice (λ (l : List ℕ). l ≡ []) _ (λ e. refl) (λ e. refl)
no_size d command.Enable words row = of_choice (λ (l : List ℕ). l ≡ []) _ (λ e. refl) (λ e. refl)
no_size d command.Disable words row = of_choice (λ (l : List ℕ). l ≡ []) _ (λ e. refl) (λ e. refl)
no_size d command.Request words row = of_choice (λ (l : List ℕ). l ≡ []) _ (λ e. refl) (λ e. refl)
no_size d command.StartOver words row = of_choice (λ (l : List ℕ). l ≡ []) _ (λ e. refl) (λ e. refl)
no_size d command.JumpAndClose words row = of_choice (λ (l : List ℕ). l ≡ []) _ (λ e. refl) (λ e. refl)
no_size d command.Ping words row = of_choice (λ (l : List ℕ). l ≡ []) _ (λ e. refl) (λ e. refl)
no_size d command.SequentialRead words row = of_choice (λ (l : List ℕ). l ≡ []) _ (λ e. refl) (λ e. refl)

-- an opcode that is no retry leaves what stands
turned_now : (c : Command) (t : Totals) → (c ≡ command.StartOver → ⊥) → (turned c t).now ≡ t.now
turned_now command.Load t other = settled_now t
turned_now command.Fill t other = settled_now t
turned_now command.BootTable t other = settled_now t
turned_now command.Enable t other = refl
turned_now command.Disable t other = settled_now t
turned_now command.Request t other = settled_now t
turned_now command.StartOver t other = absurd (other refl)
turned_now command.JumpAndClose t other = settled_now t
turned_now command.Ping t other = settled_now t
turned_now command.SequentialRead t other = settled_now t

-- a choice of two outcomes
pick_now : (t : Bool) (a b : WordOutcome) (now : Standing) (sizes : List ℕ) → (a.answer.refusal ≡ refusal.None → now_of a ≡ plus now sizes)
    → now_of b ≡ plus now []
    → (pick t a b).answer.refusal ≡ refusal.None → now_of (pick t a b) ≡ plus now (pick t sizes [])
unfolding pick
pick_now true a b now sizes held failed e = held e
pick_now false a b now sizes held failed e = failed

-- a command that the table has at an opcode that is no Start-Over
no_retry : {f : Result Known Refusal} (d : Dialect) (c : Command) (words : ℕ) → f ≡ Ok (with_words c words) → row_is Sent d c words ≡ true
    → f ≢ Ok (with_words command.StartOver 0)
    → c ≡ command.StartOver → ⊥
unfolding row_is
no_retry d c words known row other same =
    other (known ∙ ap₂ (λ (x : Command) (n : ℕ). Ok (with_words x n)) same (eqb-true words 0 (subst (λ (x : Command). row_is Sent d x words ≡ true) same row)))

-- no event, and a wait, are no entry
no_event : {e : Event} {entry : ℕ} → e ≡ event.Nothing → e ≡ event.Enter entry → ⊥
no_event none enters = let z : ◌≡◌ {A = ℕ} 0 1 = cc in omega arith

no_wait : {delay entry : ℕ} → event.Wait delay ≡ event.Enter entry → ⊥
no_wait e = let z : ◌≡◌ {A = ℕ} 0 1 = cc in omega arith

-- an AM17xx counts nothing
zero_counted : (k : Core) (size : ℕ) → k.dialect ≡ Am17xx → Zero k.tally.totals → Zero (counted_on k size)
zero_counted k size am zero = subst (λ (d : Dialect). Zero (numbered (counted d k.tally.totals size))) (sym am) zero

load_zero : (k : Core) (address size : ℕ) (judged : Judged) → k.dialect ≡ Am17xx → Zero k.tally.totals
    → Zero (load_begun k address size judged).core.tally.totals
load_zero k address size (Ok place) am zero = zero_counted k size am zero
load_zero k address size (Err q) am zero = zero

-- a command that was judged and done leaves the totals that it was given, or was refused
after_totals : (P : Totals → Type 0) (k : Core) (t : Totals) (done : Done) → P t → P k.tally.totals → P (after k t done).core.tally.totals
unfolding after
after_totals P k t done given kept = of_choice (λ (x : Taken). P x.core.tally.totals) _ (λ h. given) (λ h. kept)

entered_totals : (t : Taken) → (entered t).core.tally.totals ≡ t.core.tally.totals
unfolding entered
entered_totals t = of_choice (λ (x : Taken). x.core.tally.totals ≡ t.core.tally.totals) _ {b = t} (λ h. refl) (λ h. refl)

module _ (k : Core) (m : List ℕ) (dm : k.dialect ≡ Dm648) where
  abbrev now : Standing
  now = k.tally.totals.now

  load_now : (kept : Kept) (word : ℕ) → (performed command.Load k m kept word).answer.refusal ≡ refusal.None
      → now_of (performed command.Load k m kept word) ≡ plus now (word ∷ [])
  load_now kept word e =
      let judged : Judged = load_judged k.windows kept.third word in
      let g = load_not_refused k kept.third word (out_of_numbers k (overflowing k word judged))
      (section_numbered k word judged (load_passes _ numbers k.windows kept.third word)) e in
      ap (λ (j : Judged). (load_begun k kept.third word j).core.tally.totals.now) g.granted
      ∙ plus_one k.dialect k.tally.totals word dm (section_counts k word judged g.place g.granted).fits

  fill_now : (kept : Kept) (word : ℕ) → (performed command.Fill k m kept word).answer.refusal ≡ refusal.None
      → now_of (performed command.Fill k m kept word) ≡ plus now (kept.second ∷ [])
  unfolding after fill_done pick
  fill_now kept word e =
      let judged : Judged = fill_judged k.windows kept.first kept.second kept.third in
      let g =
      done_not_refused k (counted_on k kept.second) (out_of_numbers k (overflowing k kept.second judged)) _ _ _
      (section_numbered k kept.second judged (fill_passes _ numbers k.windows kept.first kept.second kept.third)) e in
      ap
      (λ (j : Judged). (after k (counted_on k kept.second)
      (fill_done j k.on k.tally.checksum kept.first kept.second kept.third word)).core.tally.totals.now)
      g.granted
      ∙ plus_one k.dialect k.tally.totals kept.second dm (section_counts k kept.second judged g.place g.granted).fits

  performed_now : (c : Command) (kept : Kept) (word : ℕ) → (performed c k m kept word).answer.refusal ≡ refusal.None
      → now_of (performed c k m kept word) ≡ plus now (size_of c kept word)
  performed_now command.Load kept word e = load_now kept word e
  performed_now command.Fill kept word e = fill_now kept word e
  performed_now command.BootTable kept word e = after_totals (λ (t : Totals). t.now ≡ plus now []) k _ _ (plus_none now) (plus_none now)
  performed_now command.Enable kept word e = plus_none now
  performed_now command.Disable kept word e = plus_none now
  performed_now command.Request kept word e = plus_none now
  performed_now command.StartOver kept word e = plus_none now
  performed_now command.JumpAndClose kept word e =
      ap (λ (t : Totals). t.now) (entered_totals _) ∙ after_totals (λ (t : Totals). t.now ≡ plus now []) k _ _ (plus_none now) (plus_none now)
  performed_now command.Ping kept word e = plus_none now
  performed_now command.SequentialRead kept word e = plus_none now

  toward_now : (c : Command) (left : ℕ) (kept : Kept) (word : ℕ) → (toward c left k m kept word).answer.refusal ≡ refusal.None
      → now_of (toward c left k m kept word) ≡ plus now (pick (eqb left 0) (size_of c kept word) [])
  toward_now c left kept word = pick_now (eqb left 0) _ _ now (size_of c kept word) (performed_now c kept word) (plus_none now)

module _ (k : Core) (m : List ℕ) (word : ℕ) (dm : k.dialect ≡ Dm648) where
  opcode_now : {f : Result Known Refusal} → Looked f → looked_up word Sent k.dialect ≡ f → looked_up word Sent k.dialect ≢ Ok (with_words command.StartOver 0)
      → (at_opcode k m word f).answer.refusal ≡ refusal.None → now_of (at_opcode k m word f) ≡ plus k.tally.totals.now []
  opcode_now of_none known other e = plus_none _
  opcode_now of_retired known other e = plus_none _
  opcode_now (of_row f) known other e =
      let row = row-is Sent k.dialect word f.command f.words known in
      let o : WordOutcome = toward f.command f.words (begun f.command k) m none_kept 0 in
      ap (λ (x : Core). x.tally.totals.now) (ack_core word o.answer)
      ∙ toward_now (begun f.command k) m dm f.command f.words none_kept 0 (sym (ack_refusal word o.answer) ∙ e)
      ∙ ap₂ plus (turned_now f.command k.tally.totals (no_retry k.dialect f.command f.words known row other)) (no_size k.dialect f.command f.words row)

  phase_now : (p : Phase) → (p ≡ phase.Opcode → looked_up word Sent k.dialect ≢ Ok (with_words command.StartOver 0))
      → (in_phase p k m word).answer.refusal ≡ refusal.None → now_of (in_phase p k m word) ≡ plus k.tally.totals.now (sizes_at p word)
  phase_now phase.Opcode other e = opcode_now (looked word Sent k.dialect) refl (other refl) e
  phase_now (phase.Argument c left kept) other e = toward_now k m dm c (left - 1) kept word e
  phase_now (phase.Data end left) other e = plus_none _
  phase_now (phase.Echo n) other e = plus_none _

  word_now : (k.stage.phase ≡ phase.Opcode → looked_up word Sent k.dialect ≢ Ok (with_words command.StartOver 0))
      → (word_step k m word).answer.refusal ≡ refusal.None → now_of (word_step k m word) ≡ plus k.tally.totals.now (sizes_at k.stage.phase word)
  unfolding word_step
  word_now other e = phase_now k.stage.phase other e

words_now : (words : List ℕ) (o : WordOutcome) → o.answer.core.dialect ≡ Dm648 → NoRetry o.answer.core o.memory words
    → now_of (after_words o words) ≡ plus (now_of o) (sizes_of o.answer.core o.memory words)
unfolding after_words NoRetry sizes_of
words_now [] o dm n = plus_none _
words_now (word ∷ words) o dm n =
    let k : Core = o.answer.core in
    let next : WordOutcome = word_step k o.memory word in
    words_now words next ((every_word k o.memory word).dialect ∙ dm) n.2
    ∙ ap (λ (now : Standing). plus now (sizes_of next.answer.core next.memory words)) (word_now k o.memory word dm n.1 n.0)
    ∙ plus_more (now_of o) (sizes_at k.stage.phase word) _

-- what enters: a command that was granted, with that event
refused_event : (k : Core) (t : Totals) (q : Verdict) (checksum : ℕ)
    → (after k t (record { refusal = q; event = event.Nothing; checksum = checksum })).event ≡ event.Nothing
unfolding after
refused_event k t q checksum = of_choice (λ (x : Taken). x.event ≡ event.Nothing) _ (λ h. refl) (λ h. refl)

done_enters : (k : Core) (t : Totals) (judged : Judged) (checksum : ℕ) (told : Event) (fed entry : ℕ)
    → (after k t (done_if judged checksum told fed)).event ≡ event.Enter entry → GrantedAt judged × (told ≡ event.Enter entry)
unfolding after pick
done_enters k t (Ok place) checksum told fed entry e = (record { place = place; granted = refl }, e)
done_enters k t (Err q) checksum told fed entry e = absurd (no_event (refused_event k t (Some q) checksum) e)

entered_event : (t : Taken) → (entered t).event ≡ t.event
unfolding entered
entered_event t = of_choice (λ (x : Taken). x.event ≡ t.event) _ {b = t} (λ h. refl) (λ h. refl)

-- that is a Jump & Close, and no other command
load_silent : (k : Core) (address size : ℕ) (judged : Judged) → (load_begun k address size judged).event ≡ event.Nothing
load_silent k address size (Ok place) = refl
load_silent k address size (Err q) = refl

closes : (c : Command) (k : Core) (m : List ℕ) (kept : Kept) (word entry : ℕ) → (performed c k m kept word).answer.event ≡ event.Enter entry
    → c ≡ command.JumpAndClose
unfolding fill_done setting_done
closes command.Load k m kept word entry e =
    absurd (no_event (load_silent k kept.third word (out_of_numbers k (overflowing k word (load_judged k.windows kept.third word)))) e)
closes command.Fill k m kept word entry e =
    let judged : Judged = out_of_numbers k (overflowing k kept.second (fill_judged k.windows kept.first kept.second kept.third)) in
    absurd (no_event refl (done_enters k (counted_on k kept.second) judged k.tally.checksum event.Nothing _ entry e).1)
closes command.BootTable k m kept word entry e =
    let judged : Judged = out_of_numbers k (setting_judged k.windows kept.first kept.second kept.third) in
    absurd (no_wait (done_enters k (numbered k.tally.totals) judged k.tally.checksum (event.Wait word) _ entry e).1)
closes command.Enable k m kept word entry e = absurd (no_event refl e)
closes command.Disable k m kept word entry e = absurd (no_event refl e)
closes command.Request k m kept word entry e = absurd (no_event refl e)
closes command.StartOver k m kept word entry e = absurd (no_event refl e)
closes command.JumpAndClose k m kept word entry e = refl
closes command.Ping k m kept word entry e = absurd (no_event refl e)
closes command.SequentialRead k m kept word entry e = absurd (no_event refl e)

-- what the two words were, and what is said
record Named (k : Core) (kept : Kept) (word : ℕ) (o : WordOutcome) : Type 0 where
  told : k.dialect ≡ Dm648 → k.tally.totals.now ≡ standing kept.third word
  reply : o.answer.reply ≡ farewell k.dialect

close_named : (k : Core) (m : List ℕ) (kept : Kept) (word entry : ℕ) → (performed command.JumpAndClose k m kept word).answer.event ≡ event.Enter entry
    → Named k kept word (performed command.JumpAndClose k m kept word)
unfolding entered after close_done pick
close_named k m kept word entry e =
    let address : ℕ = close_address k.dialect kept word in
    let named : Standing = standing kept.third word in
    let r : ℕ = k.tally.checksum in
    let g = (done_enters k k.tally.totals (close_judged k address (standing kept.third word)) r (event.Enter address) r entry
    (sym (entered_event (after k k.tally.totals (close_done (close_judged k address (standing kept.third word)) r address))) ∙ e)).0 in
    let same =
    (granted_before (differs k.dialect k.tally.totals named) why.Totals (entry_judged k.windows address) g.place g.granted).0 in
    record {
      told = λ dm. sym (names_them k.tally.totals.now named (sym (ap (λ (d : Dialect). differs d k.tally.totals named) dm) ∙ same));
      reply = ap (λ (j : Judged). (entered (after k k.tally.totals (close_done j r address))).reply) g.granted;
    }

toward_named : (c : Command) (left : ℕ) (k : Core) (m : List ℕ) (kept : Kept) (word entry : ℕ) → (toward c left k m kept word).answer.event ≡ event.Enter entry
    → (c ≡ command.JumpAndClose) × (eqb left 0 ≡ true) × Named k kept word (toward c left k m kept word)
toward_named c left k m kept word entry =
    of_choice
    (λ (o : WordOutcome). o.answer.event ≡ event.Enter entry → (c ≡ command.JumpAndClose) × (eqb left 0 ≡ true) × Named k kept word o) (eqb left 0)
    (λ last e.
    let same = closes c k m kept word entry e in (
      same,
      last,
      subst (λ (x : Command). (performed x k m kept word).answer.event ≡ event.Enter entry → Named k kept word (performed x k m kept word)) (sym same)
          (close_named k m kept word entry) e,
    ))
    (λ more e. absurd (no_event refl e))

-- at an opcode there is none, since Jump & Close has argument words
close_words : (d : Dialect) (words : ℕ) → row_is Sent d command.JumpAndClose words ≡ true → eqb words 0 ≡ true → ⊥
unfolding row_is
close_words Am17xx words row none = omega (arith, eqb-true words 1 row, eqb-true words 0 none)
close_words Dm648 words row none = omega (arith, eqb-true words 3 row, eqb-true words 0 none)

opcode_never : (k : Core) (m : List ℕ) (word entry : ℕ) {f : Result Known Refusal} → Looked f → looked_up word Sent k.dialect ≡ f
    → (at_opcode k m word f).answer.event ≡ event.Enter entry → ⊥
opcode_never k m word entry of_none known e = no_event refl e
opcode_never k m word entry of_retired known e = no_event refl e
opcode_never k m word entry (of_row f) known e =
    let o : WordOutcome = toward f.command f.words (begun f.command k) m none_kept 0 in
    let named = toward_named f.command f.words (begun f.command k) m none_kept 0 entry (sym (ack_event word o.answer) ∙ e) in
    close_words k.dialect f.words (subst (λ (x : Command). row_is Sent k.dialect x f.words ≡ true) named.0 (row-is Sent k.dialect word f.command f.words known))
    named.1

phase_named : (p : Phase) (k : Core) (m : List ℕ) (word entry : ℕ) → (in_phase p k m word).answer.event ≡ event.Enter entry
    → Named k (kept_before p) word (in_phase p k m word)
phase_named phase.Opcode k m word entry e = absurd (opcode_never k m word entry (looked word Sent k.dialect) refl e)
phase_named (phase.Argument c left kept) k m word entry e = (toward_named c (left - 1) k m kept word entry e).2
phase_named (phase.Data end left) k m word entry e = absurd (no_event refl e)
phase_named (phase.Echo n) k m word entry e = absurd (no_event refl e)

word_enters : (k : Core) (m : List ℕ) (word entry : ℕ) → (word_step k m word).answer.event ≡ event.Enter entry → Entering k m word
unfolding word_step
word_enters k m word entry e =
    let named = phase_named k.stage.phase k m word entry e in
    record { told = named.told; reply = named.reply }

-- AM17xx: a command counts nothing
performed_zero : (c : Command) (k : Core) (m : List ℕ) (kept : Kept) (word : ℕ) → k.dialect ≡ Am17xx → Zero k.tally.totals
    → Zero (performed c k m kept word).answer.core.tally.totals
performed_zero command.Load k m kept word am zero = load_zero k kept.third word
    (out_of_numbers k (overflowing k word (load_judged k.windows kept.third word))) am zero
performed_zero command.Fill k m kept word am zero = after_totals Zero k _ _ (zero_counted k kept.second am zero) zero
performed_zero command.BootTable k m kept word am zero = after_totals Zero k _ _ zero zero
performed_zero command.Enable k m kept word am zero = zero
performed_zero command.Disable k m kept word am zero = zero
performed_zero command.Request k m kept word am zero = zero
performed_zero command.StartOver k m kept word am zero = zero
performed_zero command.JumpAndClose k m kept word am zero = subst Zero (sym (entered_totals _)) (after_totals Zero k _ _ zero zero)
performed_zero command.Ping k m kept word am zero = zero
performed_zero command.SequentialRead k m kept word am zero = zero

toward_zero : (c : Command) (left : ℕ) (k : Core) (m : List ℕ) (kept : Kept) (word : ℕ) → k.dialect ≡ Am17xx → Zero k.tally.totals
    → Zero (toward c left k m kept word).answer.core.tally.totals
toward_zero c left k m kept word am zero =
    of_choice (λ (o : WordOutcome). Zero o.answer.core.tally.totals) (eqb left 0) (λ h. performed_zero c k m kept word am zero) (λ h. zero)

opcode_zero : (k : Core) (m : List ℕ) (word : ℕ) {f : Result Known Refusal} → Looked f → k.dialect ≡ Am17xx → Zero k.tally.totals
    → Zero (at_opcode k m word f).answer.core.tally.totals
opcode_zero k m word of_none am zero = zero
opcode_zero k m word of_retired am zero = zero
opcode_zero k m word (of_row f) am zero =
    subst Zero (sym (ap (λ (x : Core). x.tally.totals) (ack_core word _)))
    (toward_zero f.command f.words (begun f.command k) m none_kept 0 am (stays_zero.turning k.tally.totals f.command zero))

pub phase_zero : (p : Phase) (k : Core) (m : List ℕ) (word : ℕ) → k.dialect ≡ Am17xx → Zero k.tally.totals
    → Zero (in_phase p k m word).answer.core.tally.totals
phase_zero phase.Opcode k m word am zero = opcode_zero k m word (looked word Sent k.dialect) am zero
phase_zero (phase.Argument c left kept) k m word am zero = toward_zero c (left - 1) k m kept word am zero
phase_zero (phase.Data end left) k m word am zero = zero
phase_zero (phase.Echo n) k m word am zero = zero

-- a core of a dialect with some totals, and an answer without them
abbrev pub having : Dialect → Core → Totals → Core
having d k t =
    record {
      windows = k.windows;
      dialect = d;
      ended = k.ended;
      on = k.on;
      begun = k.begun;
      tally = tallied k.tally.checksum t;
      stage = k.stage;
    }

abbrev pub bare_taken : Taken → Taken
bare_taken t =
    record {
      refusal = t.refusal;
      reply = t.reply;
      event = t.event;
      core = having t.core.dialect t.core (numbered_as at_opening t.core.tally.totals);
      wrote = t.wrote;
    }

abbrev pub bare : WordOutcome → WordOutcome
bare o = bare_taken o.answer leaving o.memory

bare_choice : (t : Bool) (x y : Taken) → bare_taken (pick t x y) ≡ pick t (bare_taken x) (bare_taken y)
unfolding pick
bare_choice true x y = refl
bare_choice false x y = refl

same_choice : (t : Bool) (x y z w : WordOutcome) → bare x ≡ bare z → bare y ≡ bare w → bare (pick t x y) ≡ bare (pick t z w)
unfolding pick
same_choice true x y z w e f = e
same_choice false x y z w e f = f

opening_bare : (opcode : ℕ) (o : WordOutcome) → bare (opening opcode o) ≡ opening opcode (bare o)
unfolding acknowledging
opening_bare opcode o = ap (λ (t : Taken). t leaving o.memory) (bare_choice (eqb (code_of o.answer.refusal) 0) _ o.answer)

entered_bare : (t : Taken) → bare_taken (entered t) ≡ entered (bare_taken t)
unfolding entered
entered_bare t = bare_choice (eqb (code_of t.refusal) 0) _ t

-- two totals with the same numbers
module _ (k : Core) (a b by : Totals) where
  abbrev one : Core
  one = having Am17xx k (numbered_as a by)

  abbrev two : Core
  two = having Am17xx k (numbered_as b by)

  after_alike : (v w last : Totals) (done : Done) → bare_taken (after one (numbered_as v last) done) ≡ bare_taken (after two (numbered_as w last) done)
  unfolding after
  after_alike v w last done = bare_choice (eqb (code_of done.refusal) 0) _ _ ∙ sym (bare_choice (eqb (code_of done.refusal) 0) _ _)

  written_alike : (wrote : Wrote) (v w last : Totals) (done : Done)
      → bare_taken (writing wrote (after one (numbered_as v last) done)) ≡ bare_taken (writing wrote (after two (numbered_as w last) done))
  written_alike wrote v w last done = ap (writing wrote) (after_alike v w last done)

  load_alike : (address size : ℕ) (judged : Judged) → bare_taken (load_begun one address size judged) ≡ bare_taken (load_begun two address size judged)
  load_alike address size (Ok place) = refl
  load_alike address size (Err q) = refl

  module _ (m : List ℕ) (kept : Kept) (word : ℕ) where
    performed_alike : (c : Command) → bare (performed c one m kept word) ≡ bare (performed c two m kept word)
    performed_alike command.Load = ap (λ (x : Taken). x leaving m)
        (load_alike kept.third word (out_of_numbers one (overflowing one word (load_judged k.windows kept.third word))))
    performed_alike command.Fill =
        ap (λ (x : Taken). x leaving (performed command.Fill one m kept word).memory) (written_alike _ a b (numbered by) _)
    performed_alike command.BootTable =
        ap (λ (x : Taken). x leaving (performed command.BootTable one m kept word).memory) (written_alike _ a b (numbered by) _)
    performed_alike command.Enable = refl
    performed_alike command.Disable = refl
    performed_alike command.Request = refl
    performed_alike command.StartOver = refl
    performed_alike command.JumpAndClose =
        ap (λ (x : Taken). x leaving m) (entered_bare _ ∙ ap entered (after_alike a b by _) ∙ sym (entered_bare _))
    performed_alike command.Ping = refl
    performed_alike command.SequentialRead = refl

    toward_alike : (c : Command) (left : ℕ) → bare (toward c left one m kept word) ≡ bare (toward c left two m kept word)
    toward_alike c left = same_choice (eqb left 0) _ _ _ _ (performed_alike c) refl

opcode_alike : (k : Core) (a b by : Totals) (m : List ℕ) (word : ℕ) {f : Result Known Refusal} → Looked f
    → bare (at_opcode (having Am17xx k (numbered_as a by)) m word f) ≡ bare (at_opcode (having Am17xx k (numbered_as b by)) m word f)
opcode_alike k a b by m word of_none = refl
opcode_alike k a b by m word of_retired = refl
opcode_alike k a b by m word (of_row f) =
    let Reached : Totals → WordOutcome = λ t. toward f.command f.words (having Am17xx (begun f.command k) t) m none_kept 0 in
    opening_bare word (Reached (turned f.command (numbered_as a by)))
    ∙ ap (opening word)
    (ap (λ (t : Totals). bare (Reached t)) (turned_numbers f.command a by)
    ∙ toward_alike (begun f.command k) (turned f.command (numbered_as a by)) (turned f.command (numbered_as b by)) (turned f.command by) m none_kept 0
    f.command f.words
    ∙ sym (ap (λ (t : Totals). bare (Reached t)) (turned_numbers f.command b by)))
    ∙ sym (opening_bare word (Reached (turned f.command (numbered_as b by))))

phase_alike : (p : Phase) (k : Core) (a b by : Totals) (m : List ℕ) (word : ℕ)
    → bare (in_phase p (having Am17xx k (numbered_as a by)) m word) ≡ bare (in_phase p (having Am17xx k (numbered_as b by)) m word)
phase_alike phase.Opcode k a b by m word = opcode_alike k a b by m word (looked word Sent Am17xx)
phase_alike (phase.Argument c left kept) k a b by m word = toward_alike k a b by m kept word c (left - 1)
phase_alike (phase.Data end left) k a b by m word = refl
phase_alike (phase.Echo n) k a b by m word = refl

pub word_alike : (k : Core) (a b by : Totals) (m : List ℕ) (word : ℕ)
    → bare (word_step (having Am17xx k (numbered_as a by)) m word) ≡ bare (word_step (having Am17xx k (numbered_as b by)) m word)
unfolding word_step
word_alike k a b by m word = phase_alike k.stage.phase k a b by m word

pub words_count : WordsCount
unfolding byte one_word
words_count = record { counts = λ k m words dm n. words_now words (quiet k leaving m) dm n; enters = word_enters; says = (refl, refl) }
