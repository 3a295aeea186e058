-- `machine::opening::reply_before` meets its contract: the bytes of the word, then the first four of the other reply.
use Rattle.machine_answers.specs.rules.Replies.{word_then}
use Rattle.machine.proofs.opening.reply_before.Goals as goal

pub returns : goal.returns
unfolding word_then
returns c =
    rw (
      c.four_at_most.ensures,
      c.byte_of-4.ensures,
      c.byte_of-3.ensures,
      c.byte_of-2.ensures,
      c.byte_of.ensures,
    )
