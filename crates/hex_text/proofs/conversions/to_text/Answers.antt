-- `hex_text::conversions::to_text` meets its contract: where the writing is done, the room holds two digits for each byte.
use Rattle.std.proofs.Common.{List, sym, ap, ◌∙◌, arith}
use Rattle.std.specs.Prelude.{Ok}
use Rattle.opcodes.specs.rules.Answers.{code_of}
use Rattle.opcodes.specs.rules.Refusals.{Verdict}
use Rattle.hex_text.specs.rules.Text.{text_of}
use Rattle.hex_text.specs.rules.Conversions.{concluded}
use Rattle.hex_text.proofs.Accepted.{text_fits}
use Rattle.hex_text.proofs.Concluding.{nothing_refused, is-part}
use Rattle.hex_text.proofs.conversions.to_text.Goals as goal

pub returns-clause-value : goal.returns-clause-value
returns-clause-value c =
    let a = c.args in
    let none = nothing_refused _ c.in_ok-write.ensures.value in
    let fits = text_fits a.image.now a.room.now (ap code_of none) in
    sym (ap (λ (q : Verdict). concluded q (text_of a.image.now)) none ∙ ap Ok fits.0)

pub returns-clause-part : goal.returns-clause-part
returns-clause-part c =
    let a = c.args in
    let fits = text_fits a.image.now a.room.now (ap code_of (nothing_refused _ c.in_ok-write.ensures.value)) in
    is-part _ _ (omega arith)
