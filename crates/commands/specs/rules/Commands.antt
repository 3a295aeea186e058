-- What a command does once its words are known, in either mode (01, "Commands", as the requests of 02 amend it).
use Rattle.std.specs.Prelude.{ℕ, ◌+◌, ◌-◌, ◌*◌, ◌%◌, ◌^◌, Bool, true, false, not, ◌&&◌, List, [], ◌∷◌, ◌==◌, nat_le, nat_lt, Some, None, Option, Result, Ok, Err, ok_or}
use Rattle.words.specs.rules.Bytes.{byte, size_of, field_written}
use Rattle.words.specs.rules.Choice.{pick}
use Rattle.words.specs.declared.Unit.{Unit as UnitOf}
use Rattle.words.specs.declared.Unit.TheVariants.{One, Two, Four}
use Rattle.checksum.specs.rules.Checksum.{fed, fed_words}
use Rattle.stores.specs.rules.Stores.{filled}
use Rattle.windows.specs.rules.Window.{place_of}
use Rattle.windows.specs.declared.Window.{Window}
use Rattle.windows.specs.declared.Right.{Right}
use Rattle.windows.specs.declared.Right.TheVariants as right
use Rattle.opcodes.specs.rules.Answers.{number_of}
use Rattle.opcodes.specs.declared.Event.{Event}
use Rattle.opcodes.specs.declared.Event.TheVariants as event
use Rattle.opcodes.specs.declared.Refusal.{Refusal}
use Rattle.opcodes.specs.declared.Refusal.TheVariants as refusal
use Rattle.commands.specs.declared.Bits.{Bits}
use Rattle.commands.specs.declared.Done.{Done}

-- where in the lent memory a command is granted, or what it is refused with
abbrev pub Judged : Type 0
Judged = Result ℕ Refusal

-- where a seek leads, or what it is refused with
abbrev pub Sought : Type 0
Sought = Result ℕ Refusal

-- which bits a type word names, if any
abbrev pub Shape : Type 0
Shape = Option Bits

-- the number that a command or a seek is refused with, 0 where it is granted
abbrev pub judged_code : Judged → ℕ
judged_code (Ok place) = 0
judged_code (Err q) = number_of q

-- the number that a seek is refused with, 0 where it leads to an offset
abbrev pub sought_code : Sought → ℕ
sought_code (Ok offset) = 0
sought_code (Err q) = number_of q

-- is n a multiple of a unit?
unfoldable pub multiple : ℕ → ℕ → Bool
multiple n unit = n % unit == 0

-- a range that has a place is granted; one that has none, or not the right: 7
unfoldable pub range_judged : List Window → Right → ℕ → ℕ → Judged
range_judged windows wanted address size = ok_or (place_of windows wanted address size) refusal.Range

-- the answer to a command: its event and checksum where it is granted; no event and the checksum as it was where it is refused
abbrev pub done_if : Judged → ℕ → Event → ℕ → Done
done_if (Ok place) checksum told fed = record { refusal = None; event = told; checksum = fed }
done_if (Err q) checksum told fed = record { refusal = Some q; event = event.Nothing; checksum = checksum }

-- the memory after a command: written at its place where it is granted, as it was where it is refused
abbrev pub memory_if : Judged → (ℕ → List ℕ) → List ℕ → List ℕ
memory_if (Ok place) writing memory = writing place
memory_if (Err q) writing memory = memory

-- a number that comes after those of the judgement: a command that is granted gets it where its test holds
abbrev pub barred : Bool → Refusal → Judged → Judged
barred test q (Ok place) = pick test (Err q) (Ok place)
barred test q (Err first) = Err first

-- Load: needs load right
unfoldable pub load_judged : List Window → ℕ → ℕ → Judged
load_judged windows address size = range_judged windows right.Load address size

-- types 0, 1, 2 are units of 1, 2, 4 bytes
unfoldable pub unit_of : ℕ → Option UnitOf
unit_of kind = pick (kind == 0) (Some One) (pick (kind == 1) (Some Two) (pick (kind == 2) (Some Four) None))

-- whole units at an address: 9 address or size not a multiple of the unit, 7
unfoldable pub units_judged : List Window → Right → UnitOf → ℕ → ℕ → Judged
units_judged windows wanted unit address size =
    pick (not (multiple address (size_of unit) && multiple size (size_of unit))) (Err refusal.Unaligned)
    (range_judged windows wanted address size)

-- Fill: 8 another type, before them; needs load right
abbrev pub type_judged : List Window → ℕ → ℕ → Option UnitOf → Judged
type_judged windows address size None = Err refusal.TypeWord
type_judged windows address size (Some unit) = units_judged windows right.Load unit address size

unfoldable pub fill_judged : List Window → ℕ → ℕ → ℕ → Judged
fill_judged windows address size kind = type_judged windows address size (unit_of kind)

-- so of a type; another fills nothing
abbrev pub type_filled : List ℕ → ℕ → ℕ → Option UnitOf → ℕ → List ℕ
type_filled memory place size None pattern = memory
type_filled memory place size (Some unit) pattern = filled memory place size unit pattern

-- a fill, by its judgement: it feeds address, size, type, pattern while the checksum is on
unfoldable pub fill_done : Judged → Bool → ℕ → ℕ → ℕ → ℕ → ℕ → Done
fill_done judged on checksum address size kind pattern =
    done_if judged checksum event.Nothing (pick on (fed_words checksum (address ∷ size ∷ kind ∷ pattern ∷ [])) checksum)

unfoldable pub fill_memory : Judged → List ℕ → ℕ → ℕ → ℕ → List ℕ
fill_memory judged memory size kind pattern = memory_if judged (λ place. type_filled memory place size (unit_of kind) pattern) memory

-- Boot Table's type word: bits 0-7 the kind, 8-15 START, 16-23 STOP
abbrev pub start_of : ℕ → ℕ
start_of word = byte word 1

abbrev pub stop_of : ℕ → ℕ
stop_of word = byte word 2

-- how many bits a field has
abbrev pub width_of : ℕ → ℕ → ℕ
width_of start stop = stop - start + 1

-- a field of a word needs START ≤ STOP ≤ 31
unfoldable pub field_shape : ℕ → ℕ → Shape
field_shape start stop =
    pick (nat_le start stop && nat_le stop 31) (Some (record { unit = Four; start = start; width = width_of start stop; field = true })) None

-- all bits of a unit
abbrev pub whole : UnitOf → Bits
whole unit = record { unit = unit; start = 0; width = 8 * size_of unit; field = false }

-- which bits of which unit it sets, and whether they are a field: of a unit all, of kinds 3 and 4 a field
abbrev pub type_shape : ℕ → Option UnitOf → Shape
type_shape word (Some unit) = Some (whole unit)
type_shape word None = pick (nat_le (byte word 0) 4) (field_shape (start_of word) (stop_of word)) None

-- bits 24-31 are zero
unfoldable pub shape_of : ℕ → Shape
shape_of word = pick (not (byte word 3 == 0)) None (type_shape word (unit_of (byte word 0)))

-- has a value a bit at or above a width?
unfoldable pub too_wide : ℕ → ℕ → Bool
too_wide width value = nat_le (2 ^ width) value

-- 8, of a field 16 where the data are too wide, then 9 and 7 of the unit at the address; needs set right
abbrev pub shape_judged : List Window → Shape → ℕ → ℕ → Judged
shape_judged windows None address value = Err refusal.TypeWord
shape_judged windows (Some bits) address value =
    pick (bits.field && too_wide bits.width value) (Err refusal.TooWide) (units_judged windows right.Set bits.unit address (size_of bits.unit))

-- how Boot Table is judged, by its type word
abbrev pub setting_judged : List Window → ℕ → ℕ → ℕ → Judged
setting_judged windows word address value = shape_judged windows (shape_of word) address value

-- the bits of the shape become the low bits of the data, all other bits are kept
abbrev pub shape_set : List ℕ → ℕ → Shape → ℕ → List ℕ
shape_set memory place None value = memory
shape_set memory place (Some bits) value = field_written memory place bits.unit bits.start bits.width value

-- Boot Table, by its judgement: event wait; it feeds nothing
unfoldable pub setting_done : Judged → ℕ → ℕ → Done
setting_done judged checksum delay = done_if judged checksum (event.Wait delay) checksum

unfoldable pub setting_memory : Judged → List ℕ → ℕ → ℕ → List ℕ
setting_memory judged memory word value = memory_if judged (λ place. shape_set memory place (shape_of word) value) memory

-- an entry address: 10 where it is not a multiple of 4, or not in an entry window
unfoldable pub entry_judged : List Window → ℕ → Judged
entry_judged windows address =
    pick (not (multiple address 4)) (Err refusal.Entry) (ok_or (place_of windows right.Entry address 0) refusal.Entry)

-- Jump & Close, by its judgement: event enter
unfoldable pub close_done : Judged → ℕ → ℕ → Done
close_done judged checksum address = done_if judged checksum (event.Enter address) checksum

-- where a flash Request's seek leads: the seek is added modulo 2^32 to the offset after it, 12 bytes past the Request's opcode
unfoldable pub target : ℕ → ℕ → ℕ
target request seek = (request + 12 + seek) % 2 ^ 32

-- 12 unless it is a multiple of 4, at least 4, below the Request's own offset
unfoldable pub sought_from : ℕ → ℕ → Sought
sought_from request seek =
    pick (multiple (target request seek) 4 && nat_le 4 (target request seek) && nat_lt (target request seek) request)
    (Ok (target request seek)) (Err refusal.Seek)
