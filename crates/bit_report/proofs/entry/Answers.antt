-- `bit_report::entry` meets its contract: the low half of a word is two bytes.
use Rattle.bit_report.proofs.Entries.{entry_word}
use Rattle.bit_report.proofs.entry.Goals as goal

pub returns : goal.returns
returns c =
    let a = c.args in
    rw c.word_at.ensures (entry_word a.entries.now a.index a.bit)
