-- The claim: each mode by its own file, and an ended session answers 14 to anything.
use mathlib.Core.Path.{refl, sym, subst}
use Rattle.opcodes.specs.rules.Refusals.{Ended}
use Rattle.flash_session.specs.rules.Sessions.{CallOutcome}
use Rattle.flash.proofs.Cases.{call_ended}
use Rattle.field_commands.specs.claims.CarriedOut.{of_call, NotSet, CommandsCarriedOut}
use Rattle.field_commands.proofs.Calls.{by_call}
use Rattle.field_commands.proofs.Words.{by_words, by_units, units_over}

pub commands_carried_out : CommandsCarriedOut
commands_carried_out =
    record {
      by_call = by_call;
      by_words = by_words;
      by_units = λ text name release value words made bus k m awaits running. by_units text name release value words made k m awaits bus running;
      call_over = λ s m image over.
          subst (λ (o : CallOutcome). NotSet Ended m (of_call o)) (sym (call_ended s m image over))
          (record { refused = refl; no_event = refl; none_told = refl; kept = refl });
      units_over = units_over;
    }
