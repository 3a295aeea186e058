-- Which types are no unit, and which bits a type word names. Each law takes the tests of the definition one after the other.
use Rattle.std.proofs.Common.{◌≡◌, ℕ, ◌<◌, not, ap, ◌∙◌, arith, eq-eqb, ne_eqb, None}
use Rattle.words.specs.rules.Bytes.{byte}
use Rattle.words.proofs.Choice.{passed}
use Rattle.commands.specs.rules.Commands.{unit_of, type_shape, shape_of}

pub unit_other : (kind : ℕ) → 2 < kind → unit_of kind ≡ None
unfolding unit_of
unit_other kind h =
    passed _ _ _ (ne_eqb kind 0 (omega arith)) ∙ passed _ _ _ (ne_eqb kind 1 (omega arith)) ∙ passed _ _ _ (ne_eqb kind 2 (omega arith))

pub shape_typed : (word : ℕ) → byte word 3 ≡ 0 → shape_of word ≡ type_shape word (unit_of (byte word 0))
unfolding shape_of
shape_typed word high = passed _ _ _ (ap not (eq-eqb _ _ high))
