-- `stores::feed_copied` meets its contract: where the bytes fit, those at their place are the bytes themselves.
use Prim.Native.Nat.{◌+◌, ◌-◌}
use mathlib.Core.Path.{◌≡◌, sym, ◌∙◌}
use native.Mathlib.Nat.{add-sub_cancel_left}
use borrow.Author.Tests.{leb-true}
use lib.ListN.{length, take, drop}
use Rattle.words.specs.rules.Bytes.{bytes_at}
use Rattle.stores.proofs.feed_copied.Goals as goal

pub returns-then-is_inside : goal.returns-then-is_inside
unfolding bytes_at
returns-then-is_inside c =
    let a = c.args in
    let there = leb-true _ _ (sym c.is_inside.ensures ∙ c.if-is_inside.true) in
    let same : take (a.place + length a.bytes.now - a.place) (drop a.place a.memory.now) ≡ a.bytes.now = rw add-sub_cancel_left
    (c.requires there) in
    rw same at c.feed_data.ensures
