-- Two results that meet one contract of the register coincide, and so do two rooms at exit, as for every other public function (`Uniqueness`).
use Rattle.field_lines.proofs.name_of.Reads as name_of
use Rattle.field_lines.proofs.no_line.Reads as no_line
use Rattle.field_lines.proofs.line_at.Reads as line_at_lem
use Rattle.field_lines.proofs.FieldLine.is_in_force.Reads as force
use Rattle.field_lines.proofs.FieldLine.has_bit.Reads as has-bit
use Rattle.field_lines.proofs.FieldLine.has_name.Reads as has-name
use Rattle.field_lines.proofs.FieldLine.clashes_with.Reads as clash
use Rattle.field_lines.proofs.find.Reads as find
use Rattle.commands.proofs.too_wide.Reads as too_wide
use Rattle.field_register.proofs.FieldRefusal.code.Reads as number
use Rattle.field_register.proofs.read.Reads as read
use Rattle.field_register.proofs.Register.empty.Reads as empty
use Rattle.field_register.proofs.ask.Reads as ask
use Rattle.field_register.proofs.field_of.Reads as field_of
use Rattle.field_register.proofs.line_of_name.Reads as line-of-name
use Rattle.field_register.proofs.stretch_from.Reads as stretch-from
use Rattle.field_register.proofs.command.Reads as command
use Rattle.bench.proofs.registers.ais_register_read.Reads as ais-register-read
use Rattle.bench.proofs.registers.ais_register_bit.Reads as ais-register-bit
use Rattle.bench.proofs.registers.ais_register_command.Reads as ais-register-command
use Rattle.claims.proofs.Uniqueness.{OneResult, OneResultAndMemory, same, both_same}

-- lines
pub name_of_unique : OneResult name_of.Post
name_of_unique κs a r s e f = same

pub no_line_unique : OneResult no_line.Post
no_line_unique κs a r s e f = same

pub line_at_unique : OneResult line_at_lem.Post
line_at_unique κs a r s e f = same

pub is_in_force_unique : OneResult force.Post
is_in_force_unique κs a r s e f = same

pub has_bit_unique : OneResult has-bit.Post
has_bit_unique κs a r s e f = same

pub has_name_unique : OneResult has-name.Post
has_name_unique κs a r s e f = same

pub clash_unique : OneResult clash.Post
clash_unique κs a r s e f = same

pub find_unique : OneResult find.Post
find_unique κs a r s e f = same

-- commands
pub too_wide_unique : OneResult too_wide.Post
too_wide_unique κs a r s e f = same

-- register
pub number_unique : OneResult number.Post
number_unique κs a r s e f = same

pub read_unique : OneResult read.Post
read_unique κs a r s e f = same

pub empty_unique : OneResult empty.Post
empty_unique κs a r s e f = same

pub ask_unique : OneResult ask.Post
ask_unique κs a r s e f = same

pub field_of_unique : OneResult field_of.Post
field_of_unique κs a r s e f = same

pub line_of_name_unique : OneResult line-of-name.Post
line_of_name_unique κs a r s e f = same

pub stretch_from_unique : OneResult stretch-from.Post
stretch_from_unique κs a r s e f = same

pub command_unique : OneResult command.Post
command_unique κs a r s e f = same

-- bench
pub register_read_unique : OneResult ais-register-read.Post
register_read_unique κs a r s e f = same

pub register_bit_unique : OneResultAndMemory ais-register-bit.Post (λ κs e. e.1.1.1.1.0.now)
register_bit_unique κs a r s e f = both_same

pub register_command_unique : OneResultAndMemory ais-register-command.Post (λ κs e. e.1.1.1.1.0.now)
register_command_unique κs a r s e f = both_same
