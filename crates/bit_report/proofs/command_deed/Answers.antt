-- `bit_report::command_deed` meets its contract: each arm is one case of the definition.
use mathlib.Core.Path.{sym, ap, ◌∙◌}
use Rattle.opcodes.specs.declared.Command.{Command}
use Rattle.bit_report.specs.rules.Deeds.{command_deed}
use Rattle.bit_report.proofs.command_deed.Goals as goal

pub returns-in-Load : goal.returns-in-Load
returns-in-Load c =
    let a = c.args in
    c.bytes_deed.ensures ∙ sym (ap (λ (x : Command). command_deed x a.image.now a.at a.word) c.in-Load.is)

pub returns-in-Fill : goal.returns-in-Fill
returns-in-Fill c =
    let a = c.args in
    c.bytes_deed-in-Fill.ensures ∙ sym (ap (λ (x : Command). command_deed x a.image.now a.at a.word) c.in-Fill.is)

pub returns-in-BootTable : goal.returns-in-BootTable
returns-in-BootTable c =
    let a = c.args in
    c.setting_deed.ensures ∙ sym (ap (λ (x : Command). command_deed x a.image.now a.at a.word) c.in-BootTable.is)
