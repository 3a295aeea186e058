-- `host_answers::Host::hear` meets its contract: the byte is taken in by the ear.
use Rattle.host_answers.specs.rules.Hosts.{heard}
use Rattle.host_answers.proofs.Host.hear.Goals as goal

pub returns : goal.returns
unfolding heard
returns c = rw c.hear.ensures
