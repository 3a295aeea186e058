-- `windows::carries_on` meets its contract: where the end is reached, the windows that are left carry on.
use mathlib.Core.Path.{sym, ◌∙◌}
use Rattle.windows.proofs.Chains.{carries_here}
use Rattle.windows.proofs.carries_on.Goals as goal

pub returns-then-end-reached : goal.returns-then-end-reached
returns-then-end-reached c = sym (carries_here _ _ _ _ c.if-end-reached.true) ∙ c.loop-window.invariant
