-- What is said of a call: a refusal, or none.
use Rattle.std.specs.Prelude.{Option, Some, Result, Ok, Err}
use Rattle.std.specs.Prelude.{None as Nothing}
use Rattle.opcodes.specs.declared.Refusal.{Refusal}
use Rattle.opcodes.specs.declared.Refusal.TheVariants as why

abbrev pub Verdict : Type 0
Verdict = Option Refusal

-- a verdict that is all there is to answer
abbrev pub done_unless : Verdict → Result Unit Refusal
done_unless Nothing = Ok tt
done_unless (Some q) = Err q

-- nothing is refused
abbrev pub None : Verdict
None = Nothing

-- it is refused with a refusal
abbrev pub Map : Verdict
Map = Some why.Map

abbrev pub Memory : Verdict
Memory = Some why.Memory

abbrev pub Image : Verdict
Image = Some why.Image

abbrev pub Magic : Verdict
Magic = Some why.Magic

abbrev pub Missing : Verdict
Missing = Some why.Missing

abbrev pub Opcode : Verdict
Opcode = Some why.Opcode

abbrev pub Range : Verdict
Range = Some why.Range

abbrev pub TypeWord : Verdict
TypeWord = Some why.TypeWord

abbrev pub Unaligned : Verdict
Unaligned = Some why.Unaligned

abbrev pub Entry : Verdict
Entry = Some why.Entry

abbrev pub Checksum : Verdict
Checksum = Some why.Checksum

abbrev pub Seek : Verdict
Seek = Some why.Seek

abbrev pub Ended : Verdict
Ended = Some why.Ended

abbrev pub Retired : Verdict
Retired = Some why.Retired

abbrev pub TooWide : Verdict
TooWide = Some why.TooWide

abbrev pub Totals : Verdict
Totals = Some why.Totals

abbrev pub Overflow : Verdict
Overflow = Some why.Overflow

abbrev pub Call : Verdict
Call = Some why.Call

abbrev pub Tries : Verdict
Tries = Some why.Tries

abbrev pub Length : Verdict
Length = Some why.Length

abbrev pub Digit : Verdict
Digit = Some why.Digit

abbrev pub Room : Verdict
Room = Some why.Room

abbrev pub Chosen : Verdict
Chosen = Some why.Chosen

abbrev pub Number : Verdict
Number = Some why.Number
