-- A load by line as a whole (02, request 6). It is listed as its data come; all its words together say of each bit what the whole load says, by the number that
-- it took at its size word, and they give memory its bytes and nothing else.
use Rattle.std.specs.Prelude.{ℕ, ◌+◌, ◌/◌, ◌^◌, ◌<◌, true, false, List, [], ◌∷◌, ◌≡◌, length, get_or, replicate, take, Ok}
use Rattle.words.specs.rules.Bytes.{words_bytes}
use Rattle.windows.specs.rules.Map.{zero_window}
use Rattle.windows.specs.rules.Window.{sum_of}
use Rattle.opcodes.specs.rules.Answers.{code_of}
use Rattle.opcodes.specs.declared.Command.TheVariants as command
use Rattle.opcodes.specs.declared.Dialect.TheVariants.{Am17xx}
use Rattle.ledger.specs.rules.Totals.{at_opening, from_one}
use Rattle.commands.specs.rules.Commands.{load_judged}
use Rattle.law_effects.specs.claims.Effects.{Effect, load_effect, DoesInside}
use Rattle.machine_answers.specs.rules.Answers.{tallied}
use Rattle.machine_answers.specs.declared.Core.{Core}
use Rattle.machine_answers.specs.declared.Kept.{Kept}
use Rattle.machine_answers.specs.declared.Phase.TheVariants as phase
use Rattle.machine.specs.rules.Machine.{word_step}
use Rattle.sent.specs.claims.Lift.{at_word}
use Rattle.sent.specs.rules.Bus.{all_units}
use Rattle.sent.specs.rules.Feeding.{fed}
use Rattle.sent.specs.declared.Bus.{Bus}
use Rattle.bit_history.specs.claims.Accepted.{one}
use Rattle.bit_history.specs.claims.History.{SaySame}
use Rattle.bit_history.specs.claims.UnitHistory.{history}

-- a running session at the size word of a load, which is not refused, and all words of its data; the memory has the map's length
pub record AtLoad (k : Core) (m : List ℕ) (size place : ℕ) (words : List ℕ) : Type 0 where
  pub kept : Kept
  pub awaits : k.stage.phase ≡ phase.Argument command.Load 1 kept
  pub running : k.ended ≡ false
  pub begun : k.begun ≡ true
  pub lent : length m ≡ sum_of k.windows
  pub granted : load_judged k.windows kept.third size ≡ Ok place
  pub taken : code_of (word_step k m size).answer.refusal ≡ 0
  pub complete : length words ≡ (size + 3) / 4
  pub small : (i : ℕ) → get_or (size ∷ words) i 0 < 2 ^ 32

-- the effect of the whole load
abbrev pub whole_load : ℕ → ℕ → List ℕ → Effect
whole_load place size words = load_effect place (take size (words_bytes words))

-- what its units list, and the memory that they leave
pub record AsWhole (bus : Bus) (k : Core) (m : List ℕ) (size place : ℕ) (words : List ℕ) : Type 0 where
  pub listed : SaySame (history bus (at_word k m) (all_units bus (size ∷ words))) (one k.tally.totals.next (whole_load place size words))
  pub given : DoesInside (whole_load place size words) m (fed bus (at_word k m) (all_units bus (size ∷ words))).memory

-- a load of five bytes at the front of a window of eight, the first command that is numbered, at its size word
abbrev pub five_bytes : Core
five_bytes =
    record {
      windows = record { first = 0x80000000; length = 8; rights = 1 } ∷ replicate 7 zero_window;
      dialect = Am17xx;
      ended = false;
      on = false;
      begun = true;
      tally = tallied 0 (from_one at_opening);
      stage = record { phase = phase.Argument command.Load 1 (record { first = 0; second = 0; third = 0x80000000 }) };
    }

pub record LoadsTell : Type 0 where
  pub whole : (bus : Bus) (k : Core) (m : List ℕ) (size place : ℕ) (words : List ℕ) → AtLoad k m size place words → AsWhole bus k m size place words
  -- there is such a load
  pub met : AtLoad five_bytes (replicate 8 0) 5 0 (0x04030201 ∷ 0xFFFFFF05 ∷ [])
