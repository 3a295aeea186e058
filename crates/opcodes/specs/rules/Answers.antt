-- The numbers of refusals, and the kinds and values of events.
use Rattle.std.specs.Prelude.{ℕ, Bool, List, [], ◌∷◌, eqb, Some, None}
use Rattle.opcodes.specs.declared.Refusal.{Refusal}
use Rattle.opcodes.specs.declared.Refusal.TheVariants as refusal
use Rattle.opcodes.specs.rules.Refusals.{Verdict}
use Rattle.opcodes.specs.declared.Event.{Event}
use Rattle.opcodes.specs.declared.Event.TheVariants as event

-- a refusal's number in documents 01 and 02
abbrev pub number_of : Refusal → ℕ
number_of refusal.Map = 1
number_of refusal.Memory = 2
number_of refusal.Image = 3
number_of refusal.Magic = 4
number_of refusal.Missing = 5
number_of refusal.Opcode = 6
number_of refusal.Range = 7
number_of refusal.TypeWord = 8
number_of refusal.Unaligned = 9
number_of refusal.Entry = 10
number_of refusal.Checksum = 11
number_of refusal.Seek = 12
number_of refusal.Ended = 14
number_of refusal.Retired = 15
number_of refusal.TooWide = 16
number_of refusal.Totals = 17
number_of refusal.Overflow = 18
number_of refusal.Call = 19
number_of refusal.Tries = 20
number_of refusal.Length = 21
number_of refusal.Digit = 22
number_of refusal.Room = 23
number_of refusal.Chosen = 24
number_of refusal.Number = 25

-- the number of what is said of a call, 0 where nothing is refused
abbrev pub code_of : Verdict → ℕ
code_of None = 0
code_of (Some q) = number_of q

-- is nothing refused?
abbrev pub accepted : Verdict → Bool
accepted q = eqb (code_of q) 0

-- an event's kind: 0 nothing, 1 wait, 3 enter an address; 2 was a call, and stays unused
abbrev pub kind_of : Event → ℕ
kind_of event.Nothing = 0
kind_of (event.Wait cycles) = 1
kind_of (event.Enter address) = 3

-- the cycles or the address that an event names
abbrev pub value_of : Event → ℕ
value_of event.Nothing = 0
value_of (event.Wait cycles) = cycles
value_of (event.Enter address) = address

-- an event as a list of events: nothing is none
abbrev pub told : Event → List Event
told event.Nothing = []
told (event.Wait cycles) = event.Wait cycles ∷ []
told (event.Enter address) = event.Enter address ∷ []
