-- `hex_text::conversions::text_end` meets its contract: an empty file has no last character; else the last one is looked at.
use Rattle.std.proofs.Common.{sym, eq-eqb, ne_eqb}
use Rattle.words.proofs.Choice.{chosen, passed}
use Rattle.hex_text.specs.rules.Conversions.{text_end}
use Rattle.hex_text.proofs.Concluding.{empty_end}
use Rattle.hex_text.proofs.conversions.text_end.Goals as goal

pub returns-then-length-eq0 : goal.returns-then-length-eq0
returns-then-length-eq0 c = sym (empty_end c.args.file.now c.if-length-eq0.true)

pub returns-then-file-length-eq-LINE_FEED : goal.returns-then-file-length-eq-LINE_FEED
unfolding text_end
returns-then-file-length-eq-LINE_FEED c = sym (chosen _ _ _ (eq-eqb _ _ c.if-file-length-eq-LINE_FEED.true))

pub returns : goal.returns
unfolding text_end
returns c = sym (passed _ _ _ (ne_eqb _ _ c.if-file-length-eq-LINE_FEED.false))
