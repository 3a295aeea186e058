-- `machine_loads::put_data` meets its contract: after i turns the first i bytes are written; a place past the end takes none.
use borrow.Author.Rules.{rules}
use Prim.Native.Nat.{◌<◌, min}
use mathlib.Core.Path.{◌≡◌, sym}
use native.Mathlib.Omega.{arith}
use lib.ListN.{length}
use Rattle.words.specs.rules.Bytes.{put}
use Rattle.words.proofs.Puts.{put_more, put_past}
use Rattle.stores.specs.rules.Stores.{loaded}
use Rattle.machine_loads.specs.rules.Loads.{data_bytes}
use Rattle.machine_loads.proofs.Laws.{data_byte, data_length}
use Rattle.machine_loads.proofs.put_data.Goals as goal

pub returns-then-memory-at : goal.returns-then-memory-at
unfolding loaded
returns-then-memory-at c = sym (put_past _ _ _ _ c.if-memory-at.true)

pub loop-i-init : goal.loop-i-init
unfolding put
loop-i-init c = search rules

pub loop-i-preserved : goal.loop-i-preserved
loop-i-preserved c =
    let a = c.args in
    let h : c.loop-i.i < min a.left 4 = omega arith in
    rw (put_more, data_byte a.word a.left _ h, ← c.loop-i.invariant, ← c.byte_of.ensures) c.put_byte.ensures

pub returns : goal.returns
unfolding loaded
returns c =
    let all : length (data_bytes c.args.word c.args.left) ≡ c.loop-i.i = omega (arith, data_length c.args.word c.args.left) in
    rw all c.loop-i.invariant
