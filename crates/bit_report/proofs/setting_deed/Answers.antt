-- `bit_report::setting_deed` meets its contract: each word is what a call promises.
use Rattle.bit_report.specs.rules.Deeds.{setting_deed}
use Rattle.bit_report.proofs.setting_deed.Goals as goal

pub returns : goal.returns
unfolding setting_deed
returns c = rw (c.spread_on.ensures, c.wrote_setting.ensures, c.word_at-address.ensures, c.word_at-shape.ensures)
