-- An AM17xx goes by no totals (02, request 5), whatever units it is fed; and DONE as the units of either line.
use Rattle.std.specs.Prelude.{ℕ, List, [], ◌∷◌, ◌≡◌}
use Rattle.opcodes.specs.declared.Dialect.TheVariants.{Am17xx}
use Rattle.ledger.specs.claims.Agreement.{Zero}
use Rattle.ledger.specs.rules.Totals.{at_opening, numbered_as}
use Rattle.ledger.specs.declared.Totals.{Totals}
use Rattle.sent.specs.rules.Bus.{units_of}
use Rattle.sent.specs.rules.Feeding.{State, totals, fed, answers}
use Rattle.machine_answers.specs.rules.Answers.{tallied, changed}
use Rattle.machine_answers.specs.rules.Replies.{done_word}
use Rattle.sent.specs.declared.Bus.{Bus}
use Rattle.sent.specs.declared.Bus.TheVariants.{Bytes, Halves}
use Rattle.machine_answers.specs.declared.Core.{Core}

-- a state with other totals, its numbers as they are
abbrev pub with_totals : Totals → State → State
with_totals t x =
    let k : Core = x.session.core in
    record {
      session = record {
        core = changed k k.ended k.on k.begun (tallied k.tally.checksum (numbered_as t k.tally.totals)) k.stage.phase;
        line = x.session.line;
      };
      memory = x.memory;
    }

-- two states agree in all but the totals, after some units and in what is heard of them
pub record ButTotals (bus : Bus) (x y : State) (units : List ℕ) : Type 0 where
  pub same_answers : answers bus x units ≡ answers bus y units
  pub same_rest : with_totals at_opening (fed bus x units) ≡ with_totals at_opening (fed bus y units)

pub record UnitsCount : Type 0 where
  -- in AM17xx the totals stay 0, and no answer, byte of memory or end depends on them
  pub stays_zero : (bus : Bus) (x : State) (units : List ℕ) → x.session.core.dialect ≡ Am17xx → Zero (totals x) → Zero (totals (fed bus x units))
  pub unneeded : (bus : Bus) (x : State) (t : Totals) (units : List ℕ) → x.session.core.dialect ≡ Am17xx → ButTotals bus (with_totals t x) x units
  -- DONE, by bytes and by halves
  pub in_bytes : units_of Bytes done_word ≡ 0x44 ∷ 0x4F ∷ 0x4E ∷ 0x45 ∷ []
  pub in_halves : units_of Halves done_word ≡ 0x4F44 ∷ 0x454E ∷ []
