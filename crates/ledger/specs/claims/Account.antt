-- Who takes a number, what marks and what puts back (02, requests 5 and 6): the account of what a session has taken, in either mode. It knows no session and no
-- counter of one.
use Rattle.std.specs.Prelude.{ℕ, ◌+◌, Bool, true, false, not, List, [], ◌∷◌, ◌++◌}
use Rattle.words.specs.rules.Choice.{pick}

-- what is taken, as the account sees it
pub data Act : Type 0 where
  -- a load or a fill of so many bytes that is accepted
  section : ℕ → Act
  -- so a load by line, its data to come; and a word of these data
  load : ℕ → Act
  piece : Act
  -- a setting that is accepted
  setting : Act
  enable : Act
  -- a Request by line; in flash mode a Request that matches
  asked : Act
  matched : Act
  -- a Start-Over, or a flash seek
  retry : Act
  -- any other opcode
  other : Act

-- sections, bytes and numbers given
pub record Count : Type 0 where
  pub sections : ℕ
  pub bytes : ℕ
  pub numbers : ℕ

-- one more section of so many bytes, which takes a number; one more number
abbrev pub one_section : ℕ → Count → Count
one_section size c = record { sections = c.sections + 1; bytes = c.bytes + size; numbers = c.numbers + 1 }

abbrev pub one_number : Count → Count
one_number c = record { sections = c.sections; bytes = c.bytes; numbers = c.numbers + 1 }

-- loads and fills that are accepted count and take a number, settings take a number, and nothing else does either
abbrev pub adding : Act → Count → Count
adding (section size) c = one_section size c
adding (load size) c = one_section size c
adding piece c = c
adding setting c = one_number c
adding enable c = c
adding asked c = c
adding matched c = c
adding retry c = c
adding other c = c

-- a retry puts back, and nothing else does
abbrev pub puts_back : Act → Bool
puts_back (section size) = false
puts_back (load size) = false
puts_back piece = false
puts_back setting = false
puts_back enable = false
puts_back asked = false
puts_back matched = false
puts_back retry = true
puts_back other = false

-- the very next opcode is taken, and isn't Start-Over
abbrev pub settles : List Act → Bool
settles [] = false
settles (next ∷ later) = not (puts_back next)

-- an Enable marks, a flash Request that matches, and a Request by line once the next opcode settles it; nothing else does
abbrev pub marks : Act → List Act → Bool
marks (section size) later = false
marks (load size) later = false
marks piece later = false
marks setting later = false
marks enable later = true
marks asked later = settles later
marks matched later = true
marks retry later = false
marks other later = false

-- what is counted now, and what was at the mark
pub record Account : Type 0 where
  pub now : Count
  pub mark : Count

-- at an opening
abbrev pub opened : Account
opened =
    record { now = record { sections = 0; bytes = 0; numbers = 0 }; mark = record { sections = 0; bytes = 0; numbers = 0 } }

-- an account after an act, whatever is taken later being known
abbrev pub booked : Account → Act → List Act → Account
booked a act later =
    pick (puts_back act) (record { now = a.mark; mark = a.mark })
    (record { now = adding act a.now; mark = pick (marks act later) a.now a.mark })

-- after all that is taken, in its order
unfoldable pub account : Account → List Act → Account
account a [] = a
account a (act ∷ later) = account (booked a act later) later

-- the numbers by which an act's bits are told: what takes a number has the one after those given; the data of a load have that of the load, the last given
abbrev pub told_by : Act → Count → List ℕ
told_by (section size) c = (c.numbers + 1) ∷ []
told_by (load size) c = []
told_by piece c = c.numbers ∷ []
told_by setting c = (c.numbers + 1) ∷ []
told_by enable c = []
told_by asked c = []
told_by matched c = []
told_by retry c = []
told_by other c = []

-- those of all that is taken
unfoldable pub numbers_told : Account → List Act → List ℕ
numbers_told a [] = []
numbers_told a (act ∷ later) = told_by act a.now ++ numbers_told (booked a act later) later
