-- What the words of a sent session tell that they wrote (02, request 6): the data of a load the bits of the whole load, by the number that it took at its size
-- word; and any word that writes, the bits of its command by the number that it took.
use Rattle.std.specs.Prelude.{ℕ, ◌+◌, ◌-◌, ◌*◌, ◌/◌, ◌<◌, Bool, false, ◌||◌, List, [], ◌∷◌, ◌≢◌, ◌≡◌, length, Ok}
use Rattle.words.specs.rules.Bits.{within}
use Rattle.opcodes.specs.rules.Answers.{code_of}
use Rattle.ledger.specs.claims.Agreement.{HasNumbers}
use Rattle.ledger.specs.rules.Totals.{first_spent}
use Rattle.ledger.specs.declared.Totals.{Totals}
use Rattle.commands.specs.rules.Wrote.{none_wrote, bytes_wrote}
use Rattle.commands.specs.declared.Wrote.{Wrote}
use Rattle.machine_answers.specs.rules.Answers.{numbered_from_one, WordOutcome}
use Rattle.machine_loads.specs.rules.Loads.{awaited}
use Rattle.machine.specs.rules.Machine.{word_step}
use Rattle.machine_answers.specs.declared.Core.{Core}
use Rattle.machine_answers.specs.declared.Phase.{Phase}
use Rattle.machine_answers.specs.declared.Phase.TheVariants as phase

-- is bit p of memory among those that are told?
abbrev pub tells : Wrote → ℕ → Bool
tells w p = within (8 * w.place + w.start) w.count p

unfoldable pub some_tell : List Wrote → ℕ → Bool
some_tell [] p = false
some_tell (w ∷ ws) p = tells w p || some_tell ws p

-- all are told by one number
unfoldable pub AllBy : ℕ → List Wrote → Type 0
AllBy number [] = Unit {0}
AllBy number (w ∷ ws) = (w.number ≡ number) × AllBy number ws

-- what each of some words tells
unfoldable pub told_by : Core → List ℕ → List ℕ → List Wrote
told_by k m [] = []
told_by k m (word ∷ words) = (word_step k m word).answer.wrote ∷ told_by (word_step k m word).answer.core (word_step k m word).memory words

-- the data of a load, word by word, from a core that awaits them
pub record PiecesTellTheLoad : Type 0 where
  pub bits : (ws : List ℕ) (k : Core) (m : List ℕ) (place size : ℕ) → k.stage.phase ≡ awaited (place + size) size → length ws ≡ (size + 3) / 4
      → (p : ℕ) → some_tell (told_by k m ws) p ≡ tells (bytes_wrote (Ok place) size (k.tally.totals.next - 1)) p
  pub number : (ws : List ℕ) (k : Core) (m : List ℕ) (place size : ℕ) → k.stage.phase ≡ awaited (place + size) size → length ws ≡ (size + 3) / 4
      → AllBy (k.tally.totals.next - 1) (told_by k m ws)

-- has the load whose data are awaited taken a number, the next being this?
abbrev pub TookOne : Phase → ℕ → Type 0
TookOne phase.Opcode next = Unit {0}
TookOne (phase.Argument command left kept) next = Unit {0}
TookOne (phase.Data end left) next = 1 < next
TookOne (phase.Echo n) next = Unit {0}

-- the core of a session that numbers its commands
pub record KeepsNumbers (k : Core) : Type 0 where
  pub totals : HasNumbers k.tally.totals
  pub load : TookOne k.stage.phase k.tally.totals.next

-- by the last number that was taken
pub record ByLast (wrote : Wrote) (t : Totals) : Type 0 where
  pub some : 0 < wrote.number
  pub last : wrote.number + 1 ≡ t.next

-- what any word tells: nothing where it is refused, else bits by the number that its command took; and a session that numbers goes on so
pub record WordTells (k : Core) (o : WordOutcome) : Type 0 where
  pub refused : code_of o.answer.refusal ≢ 0 → o.answer.wrote ≡ none_wrote
  pub number : KeepsNumbers k → o.answer.wrote.count ≢ 0 → ByLast o.answer.wrote o.answer.core.tally.totals
  pub goes_on : KeepsNumbers k → KeepsNumbers o.answer.core

-- so from an opening that numbers on; its numbers are below the first that no command gets
pub record TellsByNumber : Type 0 where
  pub opens : (k : Core) → k.stage.phase ≡ phase.Opcode → KeepsNumbers (numbered_from_one k)
  pub words : (k : Core) (m : List ℕ) (word : ℕ) → WordTells k (word_step k m word)
  pub below : (k : Core) (m : List ℕ) (word : ℕ) → KeepsNumbers k → (word_step k m word).answer.wrote.count ≢ 0
      → (word_step k m word).answer.wrote.number < first_spent
