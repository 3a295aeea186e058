-- What each turn keeps: what is left of the reply, stored from where the loop stands, gives the same room.
use Rattle.std.proofs.Common.{◌≡◌, ◌+◌, drop}
use Rattle.std.proofs.lemmas.List.Edits.{sets}
use Rattle.bench_sessions.proofs.put_reply.Given as goal

abbrev pub invariant-loop-i : goal.invariant-loop-i
invariant-loop-i l = sets l.room (l.at + l.i) (drop l.i l.said) ≡ sets l.initial.room l.at l.said
