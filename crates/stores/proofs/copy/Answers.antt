-- `stores::copy` meets its contract: after i turns the first i bytes are written, and those that would pass the end are none.
use Rattle.std.proofs.Common.{◌≡◌, ℕ, ◌-◌, min, length, get_or, sym, ap, ◌∙◌, arith}
use borrow.Author.Rules.{rules}
use Rattle.words.specs.rules.Bytes.{put}
use Rattle.words.proofs.Puts.{length_put, put_more, put_past, put_clamped}
use Rattle.stores.specs.rules.Stores.{loaded}
use Rattle.stores.proofs.copy.Goals as goal

pub returns-then-memory-place : goal.returns-then-memory-place
unfolding loaded
returns-then-memory-place c = sym (put_past _ _ _ _ c.if-memory-place.true)

pub loop-i-init : goal.loop-i-init
unfolding put
loop-i-init c = search rules

pub loop-i-preserved : goal.loop-i-preserved
loop-i-preserved c = rw (put_more, ← c.loop-i.invariant)

pub returns : goal.returns
unfolding loaded
returns c =
    let a = c.args in
    let all : c.loop-i.i ≡ min (length a.bytes.now) (length a.memory.now - a.place) = omega arith in
    c.loop-i.invariant ∙ ap (λ (k : ℕ). put a.memory.now a.place k (λ (i : ℕ). get_or a.bytes.now i 0)) all
    ∙ sym (put_clamped a.memory.now a.place (length a.bytes.now) (λ (i : ℕ). get_or a.bytes.now i 0))
