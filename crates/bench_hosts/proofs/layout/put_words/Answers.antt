-- `bench_hosts::layout::put_words` meets its contract: word by word.
use Rattle.bench_hosts.proofs.layout.put_words.Goals as goal

pub returns : goal.returns
returns c =
    rw (
      c.put_word-8.ensures,
      c.high_word.ensures,
      c.put_word-7.ensures,
      c.low_word.ensures,
      c.put_word-6.ensures,
      c.wait_value.ensures,
      c.put_word-5.ensures,
      c.put_word-4.ensures,
      c.put_word-3.ensures,
      c.put_word-2.ensures,
      c.put_word.ensures,
    )
