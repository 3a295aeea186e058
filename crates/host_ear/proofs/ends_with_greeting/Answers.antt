-- `host_ear::ends_with_greeting` meets its contract: the bytes of BOOTME make its number, and those of no reply make 0.
use mathlib.Core.Path.{sym, ap, ◌∙◌}
use Rattle.words.specs.rules.Bits.{join}
use Rattle.words.specs.rules.Bytes.{number}
use Rattle.sent.specs.declared.Bus.{Bus}
use Rattle.sent.specs.rules.Opening.{greeting}
use Rattle.host_ear.specs.rules.Ear.{ends_with}
use Rattle.host_ear.proofs.ends_with_greeting.Goals as goal

pub returns-in-Bytes : goal.returns-in-Bytes
unfolding ends_with number join
returns-in-Bytes c = c.ends_with.ensures ∙ sym (ap (λ (b : Bus). ends_with c.args.ear (greeting b)) c.in-Bytes.is)

pub returns-in-Halves : goal.returns-in-Halves
unfolding ends_with number join
returns-in-Halves c = c.ends_with-in-Halves.ensures ∙ sym (ap (λ (b : Bus). ends_with c.args.ear (greeting b)) c.in-Halves.is)
