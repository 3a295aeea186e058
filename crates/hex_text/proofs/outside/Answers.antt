-- `hex_text::outside` meets its contract: how far a character lies past the first, counted round the end, is below the count inside the range alone.
use Rattle.std.proofs.Common.{◌≡◌, ◌<◌, false, sym, arith}
use native.Mathlib.Decide.{dec_lt}
use Rattle.words.specs.rules.Bits.{within}
use Rattle.words.proofs.Choice.{chosen, passed}
use Rattle.words.proofs.Ranges.{inside, below, above}
use Rattle.hex_text.proofs.outside.Goals as goal

pub returns-then-wrapping_sub_u8-count : goal.returns-then-wrapping_sub_u8-count
returns-then-wrapping_sub_u8-count c =
    let a = c.args in
    sym (chosen _ _ _ (inside a.first a.count a.character (omega (arith, c.requires)) (omega (arith, c.requires))))

pub returns-else-wrapping_sub_u8-count : goal.returns-else-wrapping_sub_u8-count
returns-else-wrapping_sub_u8-count c = sym (passed _ _ _ (by_side (dec_lt c.args.character c.args.first)))
  where
    by_side : Dec (c.args.character < c.args.first)
        → within c.args.first c.args.count c.args.character ≡ false
    by_side (yes h) = below _ _ _ h
    by_side (no h) = above c.args.first c.args.count c.args.character (omega arith)
