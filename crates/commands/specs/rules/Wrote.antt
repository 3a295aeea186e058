-- Which bits of memory a command writes (02, request 6): a load or a fill all bits of its bytes, a setting those of its shape and no others.
use Rattle.std.specs.Prelude.{ℕ, ◌+◌, ◌*◌, Some, None, Ok, Err}
use Rattle.commands.specs.rules.Commands.{shape_of, Judged, Shape}
use Rattle.commands.specs.declared.Wrote.{Wrote}

-- the first of the bits that were written, in one count over all memory
abbrev pub first_bit : Wrote → ℕ
first_bit w = 8 * w.place + w.start

-- so many bits from one on of the byte at a place, by a command's number
abbrev pub bits_wrote : ℕ → ℕ → ℕ → ℕ → Wrote
bits_wrote place start count number = record { place = place; start = start; count = count; number = number }

-- the same bits, by another number
abbrev pub renumbered : ℕ → Wrote → Wrote
renumbered n w = bits_wrote w.place w.start w.count n

-- no bits
abbrev pub none_wrote : Wrote
none_wrote = bits_wrote 0 0 0 0

-- a load or a fill of so many bytes, by its judgement
abbrev pub bytes_wrote : Judged → ℕ → ℕ → Wrote
bytes_wrote (Ok place) size number = bits_wrote place 0 (8 * size) number
bytes_wrote (Err q) size number = none_wrote

-- a setting of a shape at a place
abbrev pub shape_wrote : ℕ → Shape → ℕ → Wrote
shape_wrote place None number = none_wrote
shape_wrote place (Some bits) number = bits_wrote place bits.start bits.width number

-- a setting, by its judgement
abbrev pub setting_wrote : Judged → ℕ → ℕ → Wrote
setting_wrote (Ok place) word number = shape_wrote place (shape_of word) number
setting_wrote (Err q) word number = none_wrote
