-- `field_lines::stands` meets its contract: a key that begins in the text is compared with as many bytes of it.
use Rattle.words.proofs.Numbers.{from_place}
use Rattle.field_lines.proofs.Values.{stands_past, stands_by}
use Rattle.field_lines.proofs.stands.Goals as goal

pub returns-then-text-at : goal.returns-then-text-at
returns-then-text-at c = stands_past _ _ _ c.if-text-at.true

pub returns : goal.returns
returns c = let e = from_place c.args.text.now c.args.at in
    stands_by _ _ _ _ c.if-text-at.false (rw e at c.starts_with.ensures.bound) (rw e at c.starts_with.ensures.value)
