-- `bit_report::bytes_deed` meets its contract: each word is what a call promises.
use Rattle.bit_report.specs.rules.Deeds.{bytes_deed}
use Rattle.bit_report.proofs.bytes_deed.Goals as goal

pub returns : goal.returns
unfolding bytes_deed
returns c = rw (c.spread_on.ensures, c.wrote_bytes.ensures, c.word_at-size.ensures, c.word_at-address.ensures)
