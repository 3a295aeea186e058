-- `hex_text::write` meets its contract: its tests are those of the definition in their order, and the words are written only where both are passed.
use Rattle.std.proofs.Common.{ap, refl, ◌∙◌, arith}
use Rattle.opcodes.specs.rules.Refusals.{done_unless}
use Rattle.hex_text.specs.rules.Text.{text_of}
use Rattle.hex_text.proofs.Refusing.{left_refused, left_done, write_length, write_narrow, write_done}
use Rattle.hex_text.proofs.Turning.{text_length}
use Rattle.hex_text.proofs.write.Goals as goal

pub returns-then-image-ne0 : goal.returns-then-image-ne0
returns-then-image-ne0 c =
    let a = c.args in
    let done = left_refused (text_of a.image.now) a.room.now (write_length a.image.now a.room.now c.if-image-ne0.true) refl in
    record { value = ap done_unless done.0; room_after = done.1 }

pub returns-then-room-image : goal.returns-then-room-image
returns-then-room-image c =
    let a = c.args in
    let whole = text_length a.image.now in
    let done =
    left_refused (text_of a.image.now) a.room.now (write_narrow a.image.now a.room.now c.if-image-ne0.false (omega arith)) refl in
    record { value = ap done_unless done.0; room_after = done.1 }

pub write_words-requires : goal.write_words-requires
write_words-requires c =
    let whole = text_length c.args.image.now in
    omega arith

pub returns : goal.returns
returns c =
    let a = c.args in
    let whole = text_length a.image.now in
    let done = left_done (text_of a.image.now) a.room.now (write_done a.image.now a.room.now c.if-image-ne0.false (omega arith)) in
    record { value = ap done_unless done.0; room_after = c.write_words.ensures ∙ done.1 }
