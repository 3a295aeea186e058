-- `host_commands::send_words` meets its contract: the part is tested as in the definition; where it is there its start is at most its end.
use Prim.Native.Nat.{◌+◌}
use mathlib.Core.Path.{sym, ◌∙◌}
use native.Mathlib.Omega.{arith}
use Rattle.words.proofs.Choice.{chosen, passed}
use Rattle.host_commands.specs.rules.Commands.{words_to}
use Rattle.host_answers.proofs.Parts.{is_there}
use Rattle.host_commands.proofs.send_words.Goals as goal

pub overflow_cast-start : goal.overflow_cast-start
overflow_cast-start c =
    let a = c.args in
    omega (arith, (is_there a.image.now (a.host.offset + 4) a.end (sym c.is_part.ensures ∙ c.if-is_part.true)).0)

pub returns-then-is_part : goal.returns-then-is_part
unfolding words_to
returns-then-is_part c = c.send.ensures ∙ sym (chosen _ _ _ (sym c.is_part.ensures ∙ c.if-is_part.true))

pub returns : goal.returns
unfolding words_to
returns c = c.refuse.ensures ∙ sym (passed _ _ _ (sym c.is_part.ensures ∙ c.if-is_part.false))
