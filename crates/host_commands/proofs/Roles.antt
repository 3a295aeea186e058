-- A command by its role: a choice by the command is one by its role, and what an arm for all others tells.
use Prim.Native.Nat.{ℕ}
use mathlib.Core.List.{List}
use mathlib.Core.Path.{◌≡◌, refl, sym, ap, ◌∙◌}
use Rattle.opcodes.specs.declared.Command.{Command}
use Rattle.opcodes.specs.declared.Command.TheVariants.{Load, Fill, BootTable, Enable, Disable, Request, StartOver, JumpAndClose, Ping, SequentialRead}
use Rattle.host_commands.specs.rules.Commands.{by_role, acknowledged_as}
use Rattle.host_answers.specs.declared.Host.{Host}
use Rattle.host_commands.specs.declared.Role.{Role}
use Rattle.host_commands.specs.declared.Role.TheVariants.{Passed, Asks, Closes, Goes}

-- a choice by a role
abbrev pub choose : {A : Type 0} → Role → A → A → A → A → A
choose Passed passed asks closes goes = passed
choose Asks passed asks closes goes = asks
choose Closes passed asks closes goes = closes
choose Goes passed asks closes goes = goes

-- the role of a command
abbrev pub role_of : Command → Role
role_of k = by_role k Passed Asks Closes Goes

by_its_role : {A : Type 0} (k : Command) (passed asks closes goes : A) → by_role k passed asks closes goes ≡ choose (role_of k) passed asks closes goes
by_its_role Load passed asks closes goes = refl
by_its_role Fill passed asks closes goes = refl
by_its_role BootTable passed asks closes goes = refl
by_its_role Enable passed asks closes goes = refl
by_its_role Disable passed asks closes goes = refl
by_its_role Request passed asks closes goes = refl
by_its_role StartOver passed asks closes goes = refl
by_its_role JumpAndClose passed asks closes goes = refl
by_its_role Ping passed asks closes goes = refl
by_its_role SequentialRead passed asks closes goes = refl

pub as_role : {A : Type 0} (k : Command) (r : Role) (passed asks closes goes : A) → r ≡ role_of k
    → by_role k passed asks closes goes ≡ choose r passed asks closes goes
as_role k r passed asks closes goes e = by_its_role k passed asks closes goes ∙ ap (λ (x : Role). choose x passed asks closes goes) (sym e)

-- a role that is not the first
pub others : {A : Type 0} (r : Role) (passed other : A) → (r ≡ Passed → ⊥) → choose r passed other other other ≡ other
others Passed passed other not_passed = absurd (not_passed refl)
others Asks passed other not_passed = refl
others Closes passed other not_passed = refl
others Goes passed other not_passed = refl

-- how a command's acknowledgement is taken, by its role
pub acknowledged_by : (h : Host) (image : List ℕ) (k : Command) (end : ℕ) (r : Role) → r ≡ role_of k → acknowledged_as h image k end
    ≡ choose r (acknowledged_as h image Load end) (acknowledged_as h image Request end) (acknowledged_as h image JumpAndClose end)
    (acknowledged_as h image Load end)
acknowledged_by h image k end r known =
    as_role k r (acknowledged_as h image Load end) (acknowledged_as h image Request end) (acknowledged_as h image JumpAndClose end)
    (acknowledged_as h image Load end) known
