-- `hex_text::read` meets its contract: its tests are those of the definition in their order, and the words are read only where all are passed.
use Rattle.std.proofs.Common.{sym, ap, refl, ◌∙◌, arith}
use Rattle.opcodes.specs.rules.Refusals.{done_unless}
use Rattle.hex_text.specs.rules.Text.{image_of}
use Rattle.hex_text.proofs.Refusing.{left_refused, left_done, read_length, read_strange, read_narrow, read_done}
use Rattle.hex_text.proofs.Turning.{image_length}
use Rattle.hex_text.proofs.read.Goals as goal

pub returns-then-text-ne0 : goal.returns-then-text-ne0
returns-then-text-ne0 c =
    let a = c.args in
    let done = left_refused (image_of a.text.now) a.room.now (read_length a.text.now a.room.now c.if-text-ne0.true) refl in
    record { value = ap done_unless done.0; room_after = done.1 }

pub returns-then-not-is_text : goal.returns-then-not-is_text
returns-then-not-is_text c =
    let a = c.args in
    let done =
    left_refused (image_of a.text.now) a.room.now
    (read_strange a.text.now a.room.now c.if-text-ne0.false (sym c.is_text.ensures ∙ c.if-not-is_text.true)) refl in
    record { value = ap done_unless done.0; room_after = done.1 }

pub returns-then-room-text : goal.returns-then-room-text
returns-then-room-text c =
    let a = c.args in
    let whole = image_length a.text.now in
    let done =
    left_refused (image_of a.text.now) a.room.now
    (read_narrow a.text.now a.room.now c.if-text-ne0.false
    (sym c.is_text.ensures ∙ c.if-not-is_text.false) (omega arith)) refl in
    record { value = ap done_unless done.0; room_after = done.1 }

pub read_words-requires : goal.read_words-requires
read_words-requires c =
    let whole = image_length c.args.text.now in
    (sym c.is_text.ensures ∙ c.if-not-is_text.false, omega arith)

pub returns : goal.returns
returns c =
    let a = c.args in
    let whole = image_length a.text.now in
    let done =
    left_done (image_of a.text.now) a.room.now
    (read_done a.text.now a.room.now c.if-text-ne0.false
    (sym c.is_text.ensures ∙ c.if-not-is_text.false) (omega arith)) in
    record { value = ap done_unless done.0; room_after = c.read_words.ensures ∙ done.1 }
