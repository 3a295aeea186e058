-- A number inside a stretch: both tests hold.
use Prim.Native.Nat.{ℕ, ◌≤◌}
use mathlib.Core.Bool.{true, ◌&&◌}
use mathlib.Core.Path.{◌≡◌, ap₂}
use borrow.Author.Tests.{le-leb}
use Rattle.field_lines.specs.rules.Text.{between}

pub within : (first last b : ℕ) → first ≤ b → b ≤ last → between first last b ≡ true
within first last b low high = ap₂ ◌&&◌ (le-leb _ _ low) (le-leb _ _ high)
