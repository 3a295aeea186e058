-- `host::meeting::meet_to` meets its contract: each arm is one case of the command's role.
use mathlib.Core.Path.{sym, ◌∙◌}
use Rattle.host.proofs.MetByRole.{met_by, met_other}
use Rattle.host.proofs.meeting.meet_to.Goals as goal

pub returns-in-Passed : goal.returns-in-Passed
returns-in-Passed c =
    let a = c.args in
    rw (c.send.ensures, c.go_to.ensures)
    (sym (met_by a.host a.image.now a.command a.end _
    (sym c.in-Passed.is ∙ c.role_of-role.ensures)))

pub returns-in_default : goal.returns-in_default
returns-in_default c =
    let a = c.args in
    c.enter.ensures
    ∙ sym (met_other a.host a.image.now a.command a.end _ c.role_of-role.ensures c.in_default.not-Passed)
