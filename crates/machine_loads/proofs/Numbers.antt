-- A load that is accepted was granted and found a number, so the next number after it is one more than its own.
use Rattle.opcodes.specs.rules.Answers.{accepted}
use Prim.Native.Nat.{ℕ, ◌+◌, ◌<◌}
use mathlib.Core.List.{List}
use mathlib.Core.Path.{◌≡◌, refl, ap, ◌∙◌}
use native.Mathlib.Omega.{arith}
use Rattle.opcodes.specs.declared.Dialect.{Dialect}
use Rattle.opcodes.specs.declared.Dialect.TheVariants.{Am17xx, Dm648}
use Rattle.opcodes.specs.rules.Refusals.{None}
use Rattle.ledger.specs.rules.Totals.{counted, following}
use Rattle.ledger.specs.declared.Totals.{Totals}
use Rattle.ledger.proofs.Laws.{numbers_on}
use Rattle.commands.specs.rules.Commands.{load_judged, Judged}
use Rattle.commands.proofs.Judging.{load_passes}
use Rattle.machine_loads.specs.rules.Loads.{load_begun, load_taken}
use Rattle.machine_loads.specs.claims.Numbers.{DataByTheLoad}
use Rattle.machine_answers.specs.rules.Counts.{out_of_numbers, overflowing}
use Rattle.machine_answers.specs.declared.Core.{Core}
use Rattle.machine_loads.proofs.Granted.{numbers, section_numbered, section_counts, load_not_refused}

-- counting leaves the number
pub counted_next : (dialect : Dialect) (t : Totals) (size : ℕ) → (counted dialect t size).next ≡ t.next
counted_next Am17xx t size = refl
counted_next Dm648 t size = refl

next_after : (k : Core) (m : List ℕ) (address size : ℕ) → 0 < k.tally.totals.next → (load_taken k m address size).answer.refusal ≡ None
    → (load_taken k m address size).answer.core.tally.totals.next ≡ k.tally.totals.next + 1
next_after k m address size kept accepted =
    let judged : Judged = load_judged k.windows address size in
    let g =
    load_not_refused k address size (out_of_numbers k (overflowing k size judged))
    (section_numbered k size judged (load_passes _ numbers k.windows address size)) accepted in
    ap (λ (j : Judged). (load_begun k address size j).core.tally.totals.next) g.granted
    ∙ ap following (counted_next k.dialect k.tally.totals size)
    ∙ numbers_on.one_more k.tally.totals (λ e. omega (arith, kept, e)) (section_counts k size judged g.place g.granted).unspent

pub data_by_the_load : DataByTheLoad
data_by_the_load =
    record {
      first = λ k m address size kept accepted lent end left word. omega (arith, next_after k m address size kept accepted);
      later = λ k m end left word. refl;
    }
