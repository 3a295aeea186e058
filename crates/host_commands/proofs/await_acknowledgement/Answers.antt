-- `host_commands::await_acknowledgement` meets its contract: each arm is one case of the command's role.
use mathlib.Core.Path.{sym, ◌∙◌}
use mathlib.Core.Logic.{inl, inr}
use Rattle.host_commands.proofs.Roles.{acknowledged_by}
use Rattle.host_commands.proofs.await_acknowledgement.Goals as goal

pub returns-in-Asks : goal.returns-in-Asks
returns-in-Asks c =
    let a = c.args in
    c.take_checksum.ensures ∙ sym (acknowledged_by a.host a.image.now a.command a.end _ c.in-Asks.ensures)

pub returns-in-Closes : goal.returns-in-Closes
returns-in-Closes c =
    let a = c.args in
    c.take_close.ensures ∙ sym (acknowledged_by a.host a.image.now a.command a.end _ c.in-Closes.ensures)

pub returns-in-Passed : goal.returns-in-Passed
returns-in-Passed c =
    let a = c.args in
    c.take_words.ensures
    ∙ elim c.in-Passed.is [
      | inl e ↦ sym (acknowledged_by a.host a.image.now a.command a.end _ (sym e ∙ c.role_of.ensures))
      | inr e ↦ sym (acknowledged_by a.host a.image.now a.command a.end _ (sym e ∙ c.role_of.ensures))
    ]
