-- `hex_text::conversions::to_image` meets its contract: where the file's text is read, the room holds a byte for every two digits.
use Rattle.std.proofs.Common.{◌/◌, length, sym, ap, ◌∙◌, arith, length-take-le}
use Rattle.std.specs.Prelude.{Ok}
use Rattle.opcodes.specs.rules.Answers.{code_of}
use Rattle.opcodes.specs.rules.Refusals.{Verdict}
use Rattle.hex_text.specs.rules.Text.{image_of}
use Rattle.hex_text.specs.rules.Conversions.{text_end, text_of_file, concluded}
use Rattle.hex_text.proofs.Accepted.{image_fits}
use Rattle.hex_text.proofs.Concluding.{nothing_refused, end_within, is-part}
use Rattle.hex_text.proofs.conversions.to_image.Goals as goal

pub slice_bounds-read-end : goal.slice_bounds-read-end
slice_bounds-read-end c =
    sym (length-take-le _ _ (omega (arith, c.text_end-end.ensures, end_within c.args.file.now)))

pub returns-clause-value : goal.returns-clause-value
returns-clause-value c =
    let a = c.args in
    let file = a.file.now in
    let told = rw c.text_end-end.ensures at c.in_ok-read.ensures in
    let none = nothing_refused _ told.value in
    let size = length-take-le (text_end file) file (end_within file) in
    let end = c.text_end-end.ensures in
    let fits = image_fits (text_of_file file) a.room.now (ap code_of none) in
    sym (ap (λ (q : Verdict). concluded q (image_of (text_of_file file))) none ∙ ap Ok (omega arith))

pub returns-clause-part : goal.returns-clause-part
returns-clause-part c =
    let a = c.args in
    let file = a.file.now in
    let told = rw c.text_end-end.ensures at c.in_ok-read.ensures in
    let size = length-take-le (text_end file) file (end_within file) in
    let end = c.text_end-end.ensures in
    let fits = image_fits (text_of_file file) a.room.now (ap code_of (nothing_refused _ told.value)) in
    is-part _ _ (omega arith)
