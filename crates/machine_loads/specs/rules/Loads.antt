-- Load by line: its size word, and its data words.
use Rattle.std.specs.Prelude.{ℕ, ◌+◌, ◌-◌, ◌*◌, min, List, [], ◌∷◌, eqb, take, Some, Ok, Err}
use Rattle.words.specs.rules.Bytes.{byte}
use Rattle.words.specs.rules.Choice.{pick}
use Rattle.checksum.specs.rules.Checksum.{fed, fed_words}
use Rattle.commands.specs.rules.Commands.{load_judged, Judged}
use Rattle.stores.specs.rules.Stores.{loaded}
use Rattle.commands.specs.rules.Wrote.{bytes_wrote}
use Rattle.machine_answers.specs.rules.Answers.{tallied, await, with_checksum, refused, quiet, writing, WordOutcome, ◌leaving◌}
use Rattle.machine_answers.specs.rules.Counts.{counted_on, overflowing, out_of_numbers}
use Rattle.machine_answers.specs.declared.Core.{Core}
use Rattle.machine_answers.specs.declared.Phase.{Phase}
use Rattle.machine_answers.specs.declared.Phase.TheVariants as phase
use Rattle.machine_answers.specs.declared.Taken.{Taken}

-- the bytes that are left of a load's data, up to the place past its range
unfoldable pub awaited : ℕ → ℕ → Phase
awaited end left = pick (eqb left 0) phase.Opcode (phase.Data end left)

-- a load at its size word: 7, 18, 25, else address and size are fed, and it counts
abbrev pub load_begun : Core → ℕ → ℕ → Judged → Taken
load_begun k address size (Ok place) =
    quiet
    (await k (tallied (pick k.on (fed_words k.tally.checksum (address ∷ size ∷ [])) k.tally.checksum) (counted_on k size))
    (awaited (place + size) size))
load_begun k address size (Err q) = refused k (Some q)

-- Load, at its size word
abbrev pub load_taken : Core → List ℕ → ℕ → ℕ → WordOutcome
load_taken k m address size =
    load_begun k address size (out_of_numbers k (overflowing k size (load_judged k.windows address size))) leaving m

-- the bytes of a data word that belong to the load
abbrev pub data_bytes : ℕ → ℕ → List ℕ
data_bytes word left = take left (byte word 0 ∷ byte word 1 ∷ byte word 2 ∷ byte word 3 ∷ [])

-- a data word of a load; its bytes are written by the load's number, the last that was taken
abbrev pub data_taken : Core → List ℕ → ℕ → ℕ → ℕ → WordOutcome
data_taken k m end left word =
    writing (bytes_wrote (Ok (end - left)) (min left 4) (k.tally.totals.next - 1))
    (quiet (await k (with_checksum k (pick k.on (fed k.tally.checksum word (8 * min left 4)) k.tally.checksum)) (awaited end (left - 4))))
    leaving loaded m (end - left) (data_bytes word left)
