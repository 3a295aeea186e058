-- `sent::start_reply` meets its contract: its bytes are those of the unit that answers.
use mathlib.Core.Path.{sym, ap}
use Rattle.words.specs.rules.Bytes.{byte}
use Rattle.sent.specs.rules.Line.{start_answer}
use Rattle.sent.proofs.start_reply.Goals as goal

pub returns-in-Bytes : goal.returns-in-Bytes
unfolding start_answer byte
returns-in-Bytes c = sym (ap start_answer c.in-Bytes.is)

pub returns-in-Halves : goal.returns-in-Halves
unfolding start_answer byte
returns-in-Halves c = sym (ap start_answer c.in-Halves.is)
