-- The law of a call, by the cases of the rules: what each command does, and a load; what is refused before one is read.
use Prim.Native.Nat.{ℕ, ◌+◌}
use mathlib.Core.Bool.{true, false, true≢false}
use mathlib.Core.List.{List}
use mathlib.Core.Path.{◌≡◌, refl, sym, ap, ◌∙◌}
use native.Mathlib.Omega.{arith}
use lib.ListN.{length}
use borrow.Author.Tests.{eqb-true, not-false}
use Rattle.std.specs.declared.result.Result.{Result}
use Rattle.words.proofs.Choice.{both, of_choice}
use Rattle.opcodes.specs.declared.Command.{Command}
use Rattle.opcodes.specs.declared.Command.TheVariants as command
use Rattle.opcodes.specs.declared.Mode.TheVariants.{Flash}
use Rattle.opcodes.specs.rules.Refusals as refusal
use Rattle.opcodes.proofs.Counts.{row_is, row-is}
use Rattle.opcodes.specs.declared.Known.{Known}
use Rattle.reading.specs.rules.Reading.{words_from, past_words}
use Rattle.reading.proofs.Reading.{Reads as ReadsAs, no_opcode, unknown, retired, cut_short, whole, reads as how-read}
use Rattle.reading.specs.declared.Unread.{Unread}
use Rattle.flash_commands.specs.claims.Ways.{Call}
use Rattle.flash_commands.specs.claims.Commands.{Ready}
use Rattle.flash_laws.specs.claims.Calls.{EveryCall}
use Rattle.flash_session.specs.rules.Opening.{good_length}
use Rattle.flash_session.specs.rules.Sessions.{CallOutcome, counted_on, fetching}
use Rattle.flash.specs.rules.Step.{performed, followed, step_of}
use Rattle.flash_session.specs.declared.Session.{Session}
use Rattle.flash_commands.proofs.Verdicts.{ends}
use Rattle.flash_commands.proofs.Ways.{spared, met_none, met_found, stops, every_command}
use Rattle.flash.proofs.Loads.{every_load}

-- each command whose argument words are there
module _ (s : Session) (m image : List ℕ) where
  -- what holds of an outcome holds of its answer
  abbrev Answered : CallOutcome → Type 0
  Answered o = Call s image o.answer

  performed_call : (c : Command) (n : ℕ) → row_is Flash s.dialect c n ≡ true → Ready s image c n
      → Answered (performed c (past_words s.offset n) (fetching (1 + n) s) m image)
  unfolding row_is
  performed_call command.Load n row ready = every_load s m image n ready
  performed_call command.Fill n row ready = (every_command s m image n).fill ready _ _ _
  performed_call command.BootTable n row ready = (every_command s m image n).setting ready _ _ _ _
  performed_call command.Enable n row ready = (every_command s m image n).enable ready
  performed_call command.Disable n row ready = (every_command s m image n).disable ready
  performed_call command.Request n row ready = (every_command s m image n).request ready _ _
  performed_call command.StartOver n row ready = absurd (true≢false (sym row))
  performed_call command.JumpAndClose n row ready = (every_command s m image n).close ready _
  performed_call command.Ping n row ready = absurd (true≢false (sym row))
  performed_call command.SequentialRead n row ready = (every_command s m image n).pass_over ready

  followed_call : {r : Result Known Unread} → s.ended ≡ false → length image ≡ s.length → ReadsAs image s.offset s.dialect r → Answered (followed s m image r)
  unfolding words_from
  followed_call standing same (no_opcode short) =
      stops s image standing refusal.Missing (ends refusal.Missing refl) (ap (counted_on s.fetched) (sym (met_none s image short)))
  followed_call standing same (unknown here e) =
      stops s image standing refusal.Opcode (ends refusal.Opcode refl) (ap (counted_on s.fetched) (sym (met_found s image e ∙ omega arith)))
  followed_call standing same (retired here e) =
      stops s image standing refusal.Retired (ends refusal.Retired refl) (ap (counted_on s.fetched) (sym (met_found s image e ∙ omega arith)))
  followed_call standing same (cut_short here e short) =
      stops s image standing refusal.Missing (ends refusal.Missing refl) (ap (counted_on s.fetched) (sym (met_found s image e ∙ omega arith)))
  followed_call standing same (whole e there) =
      performed_call _ _ (row-is Flash s.dialect _ _ _ e) (record { running = standing; lent = same; row = e; there = there })

  every_way : Answered (step_of s m image)
  unfolding step_of
  every_way =
      of_choice Answered _ (λ over. spared s image refusal.Ended refl (λ z. omega arith) (sym over))
      (λ standing. of_choice Answered _ (λ e. spared s image refusal.Memory refl (λ z. omega arith) (sym standing))
      (λ e. of_choice Answered _ (λ e. spared s image refusal.Image refl (λ z. omega arith) (sym standing))
      (λ sound. followed_call standing (eqb-true _ _ (both (good_length (length image)) _ (not-false _ sound)).1)
      (how-read image s.offset s.dialect))))

pub every_call : EveryCall
every_call s m image = every_way s m image
