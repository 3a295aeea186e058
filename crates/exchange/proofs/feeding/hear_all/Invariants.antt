-- What each turn keeps: what is left of the reply, heard from where the loop stands, gives the same host.
use Rattle.std.proofs.Common.{◌≡◌, drop}
use Rattle.host_answers.specs.rules.Hosts.{heard_all}
use Rattle.exchange.proofs.feeding.hear_all.Given as goal

abbrev pub invariant-loop-byte : goal.invariant-loop-byte
invariant-loop-byte l = heard_all l.live (drop l.byte-index l.said) ≡ heard_all l.initial.live l.said
