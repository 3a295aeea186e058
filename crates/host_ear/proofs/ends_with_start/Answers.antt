-- `host_ear::ends_with_start` meets its contract: the bytes of the unit that answers make it.
use mathlib.Core.Path.{sym, ap, ◌∙◌}
use Rattle.words.specs.rules.Bits.{join}
use Rattle.words.specs.rules.Bytes.{byte, number}
use Rattle.sent.specs.declared.Bus.{Bus}
use Rattle.sent.specs.rules.Line.{start_answer}
use Rattle.host_ear.specs.rules.Ear.{ends_with}
use Rattle.host_ear.proofs.ends_with_start.Goals as goal

pub returns-in-Bytes : goal.returns-in-Bytes
unfolding ends_with start_answer byte number join
returns-in-Bytes c = c.ends_with.ensures ∙ sym (ap (λ (b : Bus). ends_with c.args.ear (start_answer b)) c.in-Bytes.is)

pub returns-in-Halves : goal.returns-in-Halves
unfolding ends_with start_answer byte number join
returns-in-Halves c = c.ends_with-in-Halves.ensures ∙ sym (ap (λ (b : Bus). ends_with c.args.ear (start_answer b)) c.in-Halves.is)
