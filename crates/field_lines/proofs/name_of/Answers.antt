-- `field_lines::name_of` meets its contract: the letters stand at the front of 16 zeros.
use mathlib.Core.Path.{sym, ◌∙◌}
use native.Mathlib.Omega.{arith}
use lib.ListN.{length-take}
use Rattle.words.proofs.Choice.{passed}
use Rattle.field_lines.specs.rules.Text.{name_of}
use Rattle.field_lines.proofs.Names.{name_length, name_kept}
use Rattle.field_lines.proofs.name_of.Goals as goal

pub returns-then-not-is_name : goal.returns-then-not-is_name
unfolding name_of
returns-then-not-is_name c = sym (passed _ _ _ (sym c.is_name.ensures ∙ c.if-not-is_name.true))

pub slice_bounds-name-end : goal.slice_bounds-name-end
slice_bounds-name-end c = (name_length _ (sym c.is_name.ensures ∙ c.if-not-is_name.false)).1

pub slice_bounds-copy_from_slice-end : goal.slice_bounds-copy_from_slice-end
slice_bounds-copy_from_slice-end c =
    let few = (name_length _ (sym c.is_name.ensures ∙ c.if-not-is_name.false)).1 in simp length-take (omega arith)

pub copy_from_slice-requires : goal.copy_from_slice-requires
copy_from_slice-requires c =
    let few = (name_length _ (sym c.is_name.ensures ∙ c.if-not-is_name.false)).1 in simp length-take (omega arith)

pub returns : goal.returns
returns c = rw c.copy_from_slice.ensures.after (name_kept c.args.s.now (sym c.is_name.ensures ∙ c.if-not-is_name.false))
