-- `bit_report::part_from` meets its contract: a part has a bit at least, and ends in the word.
use borrow.Author.Rules.{rules}
use Prim.Native.Nat.{◌%◌, ◌<◌, ◌≤◌}
use native.Mathlib.Omega.{arith}
use Rattle.bit_report.specs.rules.Parts.{part_from}
use Rattle.bit_report.proofs.Laws.{part_laws}
use Rattle.bit_report.proofs.part_from.Goals as goal

pub overflow_sub-result : goal.overflow_sub-result
overflow_sub-result c =
    let a = c.args in
    let laws = part_laws a.numbers.now a.offsets.now a.names a.word (a.bit % 32) in
    let some : a.bit % 32 < c.part_end-end.result = rw c.part_end-end.ensures laws.not_empty in
    let most : c.part_end-end.result ≤ 32 = rw c.part_end-end.ensures (laws.in_word (omega arith)) in
    search rules

pub overflow_sub-end : goal.overflow_sub-end
overflow_sub-end c =
    let a = c.args in
    let laws = part_laws a.numbers.now a.offsets.now a.names a.word (a.bit % 32) in
    let some : a.bit % 32 < c.part_end-end.result = rw c.part_end-end.ensures laws.not_empty in
    let most : c.part_end-end.result ≤ 32 = rw c.part_end-end.ensures (laws.in_word (omega arith)) in
    search rules

pub value_of-requires : goal.value_of-requires
value_of-requires c =
    let a = c.args in
    let laws = part_laws a.numbers.now a.offsets.now a.names a.word (a.bit % 32) in
    let some : a.bit % 32 < c.part_end-end.result = rw c.part_end-end.ensures laws.not_empty in
    let most : c.part_end-end.result ≤ 32 = rw c.part_end-end.ensures (laws.in_word (omega arith)) in
    search rules

pub returns : goal.returns
unfolding part_from
returns c = rw (c.value_of.ensures, c.told_of-told.ensures, c.part_end-end.ensures)
