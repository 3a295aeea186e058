-- `bench::ais_hex_read` meets its contract: the number of the answer, and the room as it is left.
use mathlib.Core.Path.{sym, ap, ◌∙◌}
use Rattle.opcodes.specs.rules.Answers.{code_of}
use Rattle.hex_text.proofs.Concluding.{nothing_refused, refused_with}
use Rattle.bench.proofs.ais_hex_read.Goals as goal

pub returns-in-Ok : goal.returns-in-Ok
returns-in-Ok c =
    let told = c.in-Ok.ensures in
    record { value = sym (ap code_of (nothing_refused _ told.value)); image_after = told.room_after }

pub returns-in-Err : goal.returns-in-Err
returns-in-Err c =
    let told = c.in-Err.ensures in
    record { value = c.code.ensures ∙ sym (ap code_of (refused_with _ told.value)); image_after = told.room_after }
