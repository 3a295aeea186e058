-- What holds of every session that units of a line lead to. What every word keeps is known; so over the tests of a unit, and by induction over the units.
use Prim.Native.Nat.{ℕ}
use mathlib.Core.Bool.{Bool, true, false, true≢false}
use mathlib.Core.List.{List}
use mathlib.Core.Path.{◌≡◌, refl, sym, ap, subst, ◌∙◌}
use native.Mathlib.Omega.{arith}
use borrow.Author.Tests.{not-false}
use lib.ListN.{length}
use Rattle.words.specs.rules.Bytes.{AreBytes}
use Rattle.words.specs.rules.Choice.{pick}
use Rattle.words.proofs.Choice.{passed, by_test, of_choice}
use Rattle.windows.specs.declared.Window.{Window}
use Rattle.opcodes.specs.declared.Dialect.{Dialect}
use Rattle.ledger.specs.claims.Attempts.{Level}
use Rattle.ledger.specs.declared.Totals.{Totals}
use Rattle.machine_answers.specs.declared.Core.{Core}
use Rattle.machine_answers.specs.declared.Phase.TheVariants as phase
use Rattle.machine_answers.specs.declared.Tally.{Tally}
use Rattle.machine.specs.rules.Machine.{word_step}
use Rattle.machine.proofs.Every.{every_word}
use Rattle.sent.specs.rules.Line.{UnitOutcome, gathered, carried, unit_step}
use Rattle.sent.specs.rules.Opening.{opened_by, numbering_from}
use Rattle.sent.specs.declared.Bus.{Bus}
use Rattle.sent.specs.declared.Line.{Line}
use Rattle.sent.specs.declared.Opened.{Opened}
use Rattle.sent.specs.declared.Session.{Session}
use Rattle.sent_laws.specs.claims.Reached.{opened_to, Reached, opened, stepped, opening_of, Sound, StaysSound, KeepsMemory}

-- until an opcode is acknowledged checksum and totals are those of the opening and an opcode is awaited
abbrev Unbegun : Tally → Core → Type 0
Unbegun first k = k.begun ≡ false → (k.tally ≡ first) × (k.stage.phase ≡ phase.Opcode)

-- so it stays: a word that leaves none acknowledged leaves the core as it was, ended
word_unbegun : (first : Tally) (k : Core) (m : List ℕ) (word : ℕ) → Unbegun first k → Unbegun first (word_step k m word).answer.core
word_unbegun first k m word unbegun e =
    let every = every_word k m word in
    let before : k.begun ≡ false = by_test k.begun (λ t. absurd (true≢false (sym (every.begun t) ∙ e))) (λ f. f) in
    let was = unbegun before in
    let same = every.unbegun was.1 e in
    (ap (λ (c : Core). c.tally) same ∙ was.0, ap (λ (c : Core). c.stage.phase) same ∙ was.1)

module _ (first : Core) where
  -- a started line with other units gathered
  gathered_sound : (s : Session) (have word : ℕ) → Sound first s → (have ≡ 0 → word ≡ 0) → Sound first (gathered s true have word)
  gathered_sound s have word sound clear =
      record {
        same_windows = sound.same_windows;
        same_dialect = sound.same_dialect;
        gathered = clear;
        unstarted = λ e. absurd (true≢false e);
        unbegun = sound.unbegun;
      }

  -- a whole word, on the line
  carried_sound : (s : Session) (m : List ℕ) (word : ℕ) → Sound first s → s.line.started ≡ true
      → Sound first (carried s (word_step s.core m word)).answer.session
  unfolding carried
  carried_sound s m word sound since =
      let every = every_word s.core m word in
      let line = of_choice (λ (l : Line). (l.started ≡ true) × (l.have ≡ 0 → l.word ≡ 0)) _ (λ h. (since, λ z. refl)) (λ h. (since, sound.gathered)) in
      record {
        same_windows = every.windows ∙ sound.same_windows;
        same_dialect = every.dialect ∙ sound.same_dialect;
        gathered = line.1;
        unstarted = λ e. absurd (true≢false (sym line.0 ∙ e));
        unbegun = word_unbegun first.tally s.core m word sound.unbegun;
      }

  -- any unit, on either line, whatever memory is lent to it
  abbrev SoundAfter : UnitOutcome → Type 0
  SoundAfter o = Sound first o.answer.session

  unit_sound : (bus : Bus) (s : Session) (m : List ℕ) (u : ℕ) → Sound first s → SoundAfter (unit_step bus s m u)
  unfolding unit_step
  unit_sound bus s m u sound =
      of_choice SoundAfter _ (λ h. sound)
      (λ h. of_choice SoundAfter _ (λ h. sound)
      (λ h. of_choice SoundAfter _ (λ h. gathered_sound s _ _ sound sound.gathered)
      (λ h. of_choice SoundAfter _ (λ h. sound)
      (λ since. of_choice SoundAfter _ (λ h. gathered_sound s _ _ sound (λ z. absurd (omega (arith, z))))
      (λ h. carried_sound s m _ sound (not-false _ since))))))

-- a session at its opening, refused or not: nothing has come, the checksum is 0, and the totals and the next number stand at their mark
pub record Unused (s : Session) : Type 0 where
  pub unstarted : s.line.started ≡ false
  pub fresh : (s.line.have ≡ 0) × (s.line.word ≡ 0)
  pub unbegun : s.core.begun ≡ false
  pub opcode : s.core.stage.phase ≡ phase.Opcode
  pub checksum : s.core.tally.checksum ≡ 0
  pub unasked : s.core.tally.totals.asked ≡ false
  pub mark : s.core.tally.totals.now ≡ s.core.tally.totals.mark
  pub back : s.core.tally.totals.next ≡ s.core.tally.totals.back

unused_sound : (s : Session) → Unused s → Sound s.core s
unused_sound s unused =
    record {
      same_windows = refl;
      same_dialect = refl;
      gathered = λ e. unused.fresh.1;
      unstarted = λ e. (unused.fresh.0, unused.unbegun);
      unbegun = λ e. (refl, unused.opcode);
    }

-- where no Request stands, what is at the mark is level
pub unused_level : (s : Session) → Unused s → Level s.core.tally.totals
unused_level s unused =
    subst (λ (t : Totals). (t.now ≡ t.mark) × (t.next ≡ t.back)) (sym (passed _ _ _ unused.unasked)) (unused.mark, unused.back)

-- so is every opening
abbrev Opens : Opened → Type 0
Opens o = Unused o.session

opened_unused : (bus : Bus) (dialect : Dialect) (count : ℕ) (windows : List Window) → Opens (opened_by bus dialect count windows)
unfolding opened_by
opened_unused bus dialect count windows =
    of_choice Opens _
    (λ h. record { unstarted = refl; fresh = (refl, refl); unbegun = refl; opcode = refl; checksum = refl; unasked = refl; mark = refl; back = refl })
    (λ h. record { unstarted = refl; fresh = (refl, refl); unbegun = refl; opcode = refl; checksum = refl; unasked = refl; mark = refl; back = refl })

-- one that numbers too: its next number is 1, and so is that number's mark
numbering_unused : (o : Opened) → Opens o → Opens (numbering_from o)
unfolding numbering_from
numbering_unused o u =
    of_choice Opens _
    (λ h. record {
      unstarted = u.unstarted;
      fresh = u.fresh;
      unbegun = u.unbegun;
      opcode = u.opcode;
      checksum = u.checksum;
      unasked = u.unasked;
      mark = u.mark;
      back = refl;
    })
    (λ h. u)

opening_unused : (numbers : Bool) (bus : Bus) (dialect : Dialect) (count : ℕ) (windows : List Window) → Opens (opened_to numbers bus dialect count windows)
unfolding pick
opening_unused true bus dialect count windows = numbering_unused (opened_by bus dialect count windows) (opened_unused bus dialect count windows)
opening_unused false bus dialect count windows = opened_unused bus dialect count windows

pub reached_unused : {bus : Bus} {s : Session} (reached : Reached bus s) → Opens (opening_of reached)
reached_unused {bus} (opened numbers dialect count windows) = opening_unused numbers bus dialect count windows
reached_unused (stepped m u before) = reached_unused before

pub stays_sound : StaysSound
stays_sound bus t (opened numbers dialect count windows) = unused_sound _ (opening_unused numbers bus dialect count windows)
stays_sound bus t (stepped {s} m u before) = unit_sound (opening_of before).session.core bus s m u (stays_sound bus s before)

-- a unit that is no whole word leaves the memory
pub keeps_memory : KeepsMemory
unfolding unit_step carried
keeps_memory bus s m u =
    let Keeps : UnitOutcome → Type 0 = λ o. (length o.memory ≡ length m) × (AreBytes m → AreBytes o.memory) in
    of_choice Keeps _ (λ h. (refl, λ are. are))
    (λ h. of_choice Keeps _ (λ h. (refl, λ are. are))
    (λ h. of_choice Keeps _ (λ h. (refl, λ are. are))
    (λ h. of_choice Keeps _ (λ h. (refl, λ are. are))
    (λ h. of_choice Keeps _ (λ h. (refl, λ are. are))
    (λ h. ((every_word s.core m _).same_length, (every_word s.core m _).bytes))))))
