-- The sessions that an opening and any units of a line lead to, whatever memory is lent to each unit. What is said of sent sessions from an opening on is said
-- of these.
use Rattle.std.specs.Prelude.{ℕ, Bool, false, List, [], ◌∷◌, ◌≡◌, length}
use Rattle.words.specs.rules.Bytes.{AreBytes}
use Rattle.words.specs.rules.Choice.{pick}
use Rattle.windows.specs.declared.Window.{Window}
use Rattle.opcodes.specs.declared.Dialect.{Dialect}
use Rattle.machine_answers.specs.declared.Core.{Core}
use Rattle.machine_answers.specs.declared.Phase.TheVariants.{Opcode}
use Rattle.sent.specs.rules.Feeding.{State, next, fed}
use Rattle.sent.specs.rules.Line.{unit_step}
use Rattle.sent.specs.rules.Opening.{opened_by, numbering_from}
use Rattle.sent.specs.declared.Bus.{Bus}
use Rattle.sent.specs.declared.Opened.{Opened}
use Rattle.sent.specs.declared.Session.{Session}

-- an opening, of a session that numbers its commands or of one that does not
abbrev pub opened_to : Bool → Bus → Dialect → ℕ → List Window → Opened
opened_to numbers bus dialect count windows = pick numbers (numbering_from (opened_by bus dialect count windows)) (opened_by bus dialect count windows)

-- an opening, accepted or refused, and any units
pub data Reached (bus : Bus) : Session → Type 0 where
  opened : (numbers : Bool) (dialect : Dialect) (count : ℕ) (windows : List Window) → Reached bus (opened_to numbers bus dialect count windows).session
  stepped : {s : Session} (memory : List ℕ) (unit : ℕ) → Reached bus s → Reached bus (unit_step bus s memory unit).answer.session

-- the opening that it began with
abbrev pub opening_of : {bus : Bus} {s : Session} → Reached bus s → Opened
opening_of {bus} (opened numbers dialect count windows) = opened_to numbers bus dialect count windows
opening_of (stepped memory unit before) = opening_of before

-- was it to number its commands?
abbrev pub numbering : {bus : Bus} {s : Session} → Reached bus s → Bool
numbering (opened numbers dialect count windows) = numbers
numbering (stepped memory unit before) = numbering before

-- units that are all lent one memory lead on
unfoldable pub fed_reached : (bus : Bus) (x : State) (units : List ℕ) → Reached bus x.session → Reached bus (fed bus x units).session
unfolding fed
fed_reached bus x [] reached = reached
fed_reached bus x (u ∷ us) reached = fed_reached bus (next bus x u) us (stepped x.memory u reached)

-- what units keep, from an opening that gave this core
pub record Sound (first : Core) (s : Session) : Type 0 where
  pub same_windows : s.core.windows ≡ first.windows
  pub same_dialect : s.core.dialect ≡ first.dialect
  pub gathered : s.line.have ≡ 0 → s.line.word ≡ 0
  pub unstarted : s.line.started ≡ false → (s.line.have ≡ 0) × (s.core.begun ≡ false)
  pub unbegun : s.core.begun ≡ false → (s.core.tally ≡ first.tally) × (s.core.stage.phase ≡ Opcode)

-- every session that an opening leads to is sound
abbrev pub StaysSound : Type 0
StaysSound = (bus : Bus) (s : Session) (reached : Reached bus s) → Sound (opening_of reached).session.core s

-- a unit keeps the length of the memory that is lent to it, and bytes stay bytes, whatever the session
abbrev pub KeepsMemory : Type 0
KeepsMemory =
    (bus : Bus) (s : Session) (m : List ℕ) (u : ℕ)
    → (length (unit_step bus s m u).memory ≡ length m) × (AreBytes m → AreBytes (unit_step bus s m u).memory)
