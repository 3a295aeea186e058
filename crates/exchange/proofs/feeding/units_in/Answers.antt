-- `exchange::feeding::units_in` meets its contract: a byte is a unit by itself, and two bytes are a half.
use mathlib.Core.Path.{sym, ap, ◌∙◌}
use lib.ListN.{length}
use Rattle.sent.specs.rules.Bus.{units_fed}
use Rattle.sent.specs.declared.Bus.{Bus}
use Rattle.exchange.proofs.Hearing.{half_count}
use Rattle.exchange.proofs.feeding.units_in.Goals as goal

pub returns-in-Bytes : goal.returns-in-Bytes
returns-in-Bytes c =
    let a = c.args in
    sym (ap (λ (bus : Bus). length (units_fed bus a.fed.now)) c.in-Bytes.is)

pub returns-in-Halves : goal.returns-in-Halves
returns-in-Halves c =
    let a = c.args in
    half_count a.fed.now ∙ sym (ap (λ (bus : Bus). length (units_fed bus a.fed.now)) c.in-Halves.is)
