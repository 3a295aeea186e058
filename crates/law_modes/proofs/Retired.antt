-- Where Jump stands both modes refuse it with 15: the look-up answers retired before any row is asked, and so before an argument is looked for.
use mathlib.Core.Path.{ap, ◌∙◌}
use Rattle.std.specs.declared.result.Result.{Result}
use Rattle.opcodes.specs.declared.Mode.TheVariants.{Flash, Sent}
use Rattle.opcodes.specs.rules.Opcodes.{looked_up}
use Rattle.opcodes.proofs.Retired.{exactly_jump}
use Rattle.opcodes.specs.declared.Known.{Known}
use Rattle.opcodes.specs.declared.Refusal.{Refusal}
use Rattle.reading.specs.rules.Reading.{read_as}
use Rattle.reading.proofs.Reading.{read_row}
use Rattle.flash.specs.rules.Step.{followed}
use Rattle.flash.proofs.Cases.{call_read}
use Rattle.machine.specs.rules.Machine.{at_opcode, in_phase, word_step}
use Rattle.machine_answers.specs.declared.Phase.{Phase}
use Rattle.law_modes.specs.claims.Retired.{JumpRefused}
use Prim.Native.Nat.{ℕ}

pub jump_refused : JumpRefused
unfolding word_step
jump_refused =
    record {
      called = λ s m image running lent sound present jump.
          call_read s m image running lent sound
          ∙ ap (followed s m image)
          (read_row image s.offset s.dialect present
          ∙ ap (λ (word : ℕ). read_as image s.offset (looked_up word Flash s.dialect)) jump
          ∙ ap (read_as image s.offset) (exactly_jump.retired Flash s.dialect));
      sent = λ k m awaits.
          ap (λ (p : Phase). in_phase p k m 0x58535905) awaits
          ∙ ap (λ (f : Result Known Refusal). at_opcode k m 0x58535905 f) (exactly_jump.retired Sent k.dialect);
    }
