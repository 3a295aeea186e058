-- The running totals (02, request 5): what was loaded so far, what stood at the mark, and a Request that waits to be settled; with them the number of the next
-- command (request 6), which goes back as they do.
use Rattle.std.specs.Prelude.{ℕ, ◌+◌, ◌-◌, ◌%◌, ◌^◌, Bool, true, false, not, ◌&&◌, ◌||◌, ◌==◌, nat_le, nat_lt}
use Rattle.words.specs.rules.Choice.{pick}
use Rattle.opcodes.specs.declared.Command.{Command}
use Rattle.opcodes.specs.declared.Command.TheVariants as command
use Rattle.opcodes.specs.declared.Dialect.{Dialect}
use Rattle.opcodes.specs.declared.Dialect.TheVariants.{Am17xx, Dm648}
use Rattle.ledger.specs.declared.Happening.{Happening}
use Rattle.ledger.specs.declared.Happening.TheVariants as happening
use Rattle.ledger.specs.declared.Standing.{Standing}
use Rattle.ledger.specs.declared.Totals.{Totals}

-- so many sections, so many bytes
abbrev pub standing : ℕ → ℕ → Standing
standing sections bytes = record { sections = record { 0 = sections }; bytes = record { 0 = bytes } }

-- nothing is loaded
abbrev pub nothing : Standing
nothing = standing 0 0

-- at an opening that keeps no numbers
abbrev pub at_opening : Totals
at_opening = record { now = nothing; mark = nothing; asked = false; next = 0; back = 0 }

-- the same with the commands numbered from 1
abbrev pub from_one : Totals → Totals
from_one t = record { now = t.now; mark = t.mark; asked = t.asked; next = 1; back = 1 }

-- some totals with the numbers of others, and with a Request as theirs
abbrev pub numbered_as : Totals → Totals → Totals
numbered_as t u = record { now = t.now; mark = t.mark; asked = u.asked; next = u.next; back = u.back }

-- the largest total
abbrev pub most : ℕ
most = 2 ^ 32 - 1

-- 18: would a total pass it with one more section of so many bytes?
unfoldable pub is_past : Standing → ℕ → Bool
is_past now size = nat_lt most (now.sections.0 + 1) || nat_lt most (now.bytes.0 + size)

-- only a DM648 counts
abbrev pub would_pass : Dialect → Totals → ℕ → Bool
would_pass Am17xx t size = false
would_pass Dm648 t size = is_past t.now size

-- 17: is one total or the other not what is named?
unfoldable pub is_other : Standing → Standing → Bool
is_other now named = not (now.sections.0 == named.sections.0 && now.bytes.0 == named.bytes.0)

-- only a DM648 names them at its close
abbrev pub differs : Dialect → Totals → Standing → Bool
differs Am17xx t named = false
differs Dm648 t named = is_other t.now named

-- an accepted load or fill: one more section, and its size
abbrev pub one_more : Standing → ℕ → Standing
one_more now size = standing ((now.sections.0 + 1) % 2 ^ 32) ((now.bytes.0 + size) % 2 ^ 32)

abbrev pub with_now : Totals → Standing → Totals
with_now t now = record { now = now; mark = t.mark; asked = t.asked; next = t.next; back = t.back }

abbrev pub counted : Dialect → Totals → ℕ → Totals
counted Am17xx t size = t
counted Dm648 t size = with_now t (one_more t.now size)

-- the first number that no command gets
abbrev pub first_spent : ℕ
first_spent = 65536

-- 25: would the next command get it?
abbrev pub is_spent : Totals → Bool
is_spent t = nat_le first_spent t.next

-- the number after a number: none after none, and a spent one stays
unfoldable pub following : ℕ → ℕ
following n = pick (n == 0) 0 (pick (nat_le first_spent n) n (n + 1))

-- an accepted load, fill or setting takes the next number
abbrev pub numbered : Totals → Totals
numbered t = record { now = t.now; mark = t.mark; asked = t.asked; next = following t.next; back = t.back }

-- an Enable, or a flash Request that matches: the mark is now
abbrev pub marked : Totals → Totals
marked t = record { now = t.now; mark = t.now; asked = false; next = t.next; back = t.next }

-- the next opcode taken settles a Request, unless it is Start-Over
abbrev pub settled : Totals → Totals
settled t = pick t.asked (marked t) t

-- a sent Request, once taken, stands unsettled
abbrev pub asking : Totals → Totals
asking t = record { now = t.now; mark = t.mark; asked = true; next = t.next; back = t.back }

-- a Start-Over, or a flash seek: what stands now is what stood at the mark
abbrev pub put_back : Totals → Totals
put_back t = record { now = t.mark; mark = t.mark; asked = false; next = t.back; back = t.back }

-- an opcode that is taken in sent mode
abbrev pub turned : Command → Totals → Totals
turned command.Load t = settled t
turned command.Fill t = settled t
turned command.BootTable t = settled t
turned command.Enable t = marked t
turned command.Disable t = settled t
turned command.Request t = asking (settled t)
turned command.StartOver t = put_back t
turned command.JumpAndClose t = settled t
turned command.Ping t = settled t
turned command.SequentialRead t = settled t

-- a call that is accepted in flash mode, by what happened in it: a Request that matches marks, and a seek puts back
abbrev pub in_flash : Dialect → Totals → Happening → Totals
in_flash dialect t (happening.Section size) = numbered (counted dialect t size)
in_flash dialect t happening.Setting = numbered t
in_flash dialect t happening.Enable = marked t
in_flash dialect t happening.Passed = marked t
in_flash dialect t happening.Retried = put_back t
in_flash dialect t happening.Other = t
