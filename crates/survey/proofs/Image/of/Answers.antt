-- `survey::Image::of` meets its contract: the image is opened as the check program opens it, and run from cleared memory.
use Rattle.checking.specs.rules.Report.{last_answer, report_of}
use Rattle.survey.specs.rules.Images.{memory_left, image_of}
use Rattle.survey.proofs.Image.of.Goals as goal

pub returns : goal.returns
unfolding last_answer report_of memory_left image_of
returns c =
    let run = rw c.open-opened.ensures at
    c.run_plain.ensures in
    rw (c.word_at.ensures, c.ended.ensures, c.from-report.ensures, run.value, run.memory_after)
