-- `bench_hosts::layout::put_word` meets its contract: the word fits.
use borrow.Author.Rules.{rules}
use mathlib.Core.Path.{◌∙◌}
use Rattle.event_room.proofs.Writing.{word_laid}
use Rattle.bench_hosts.proofs.layout.put_word.Goals as goal

pub returns : goal.returns
returns c =
    let a = c.args in
    c.write.ensures.m_after ∙ word_laid a.bytes.now a.at a.word (search rules)
