-- A comparison is its three parts.
use mathlib.Core.Path.{◌≡◌}
use Rattle.exchange.specs.declared.Exchanged.{Exchanged}
use Rattle.agreement.specs.declared.Compared.{Compared}
use Rattle.agreement.specs.declared.Difference.{Difference}
use Rattle.agreement.specs.declared.FlashEnd.{FlashEnd}

pub same_compared : {c : Compared} {flash : FlashEnd} {line : Exchanged} {difference : Difference} → c.flash ≡ flash → c.line ≡ line
    → c.difference ≡ difference → c ≡ record { flash = flash; line = line; difference = difference }
same_compared e f g = λ i. record { flash = e i; line = f i; difference = g i }
