-- What the last word of a command answers, whatever was judged: refused it ends the session; accepted it goes on at an opcode and says nothing, or it is a
-- close, which ends the session and says the farewell. By the definition of each command.
use Rattle.std.specs.Prelude.{Ok, Err}
use Prim.Native.Nat.{ℕ}
use mathlib.Core.Bool.{Bool, true, false, true≢false}
use mathlib.Core.List.{List, [], ◌∷◌}
use mathlib.Core.Logic.{◌≢◌}
use mathlib.Core.Path.{◌≡◌, refl, sym, subst}
use native.Mathlib.Omega.{arith}
use Rattle.words.specs.rules.Choice.{pick}
use Rattle.words.proofs.Choice.{passed, of_choice}
use Rattle.opcodes.specs.rules.Answers.{code_of, accepted, kind_of}
use Rattle.opcodes.specs.declared.Command.{Command}
use Rattle.opcodes.specs.declared.Command.TheVariants as command
use Rattle.opcodes.specs.declared.Dialect.{Dialect}
use Rattle.opcodes.specs.declared.Event.{Event}
use Rattle.opcodes.specs.declared.Event.TheVariants as event
use Rattle.opcodes.specs.rules.Refusals.{Verdict}
use Rattle.opcodes.specs.rules.Refusals.{None}
use Rattle.ledger.specs.declared.Totals.{Totals}
use Rattle.commands.specs.rules.Commands.{done_if, fill_done, setting_done, Judged}
use Rattle.commands.specs.rules.Wrote.{none_wrote}
use Rattle.commands.specs.declared.Done.{Done}
use Rattle.commands.specs.declared.Wrote.{Wrote}
use Rattle.machine_answers.specs.rules.Answers.{WordOutcome, await, refused, writing, ◌leaving◌, after, entered}
use Rattle.machine_commands.specs.rules.Performed.{performed}
use Rattle.machine.specs.rules.Machine.{keeping}
use Rattle.machine_answers.specs.rules.Replies.{silence, farewell, sent_bytes}
use Rattle.machine.specs.claims.Words.{asking, done_at_last}
use Rattle.machine_answers.specs.declared.Core.{Core}
use Rattle.machine_answers.specs.declared.Kept.{Kept}
use Rattle.machine_answers.specs.declared.Phase.TheVariants.{Opcode}
use Rattle.machine_answers.specs.declared.Taken.{Taken}
use Rattle.machine_answers.specs.declared.Tally.{Tally}

-- what the last word of a command says: nothing and no entering, or the farewell where it is accepted, and then the session is ended
pub data Says (dialect : Dialect) (o : WordOutcome) : Type 0 where
  silently : sent_bytes o.answer.reply ≡ [] → kind_of o.answer.event ≢ 3 → Says dialect o
  closing : (code_of o.answer.refusal ≡ 0 → (o.answer.core.ended ≡ true) × (o.answer.reply ≡ farewell dialect))
      → (kind_of o.answer.event ≡ 3 → code_of o.answer.refusal ≡ 0) → Says dialect o

-- and where it goes on, an opcode is awaited
pub record Answered (dialect : Dialect) (o : WordOutcome) : Type 0 where
  pub awaits : code_of o.answer.refusal ≡ 0 → o.answer.core.ended ≡ false → o.answer.core.stage.phase ≡ Opcode
  pub says : Says dialect o

-- a refused word
pub refused_answered : (dialect : Dialect) (wrote : Wrote) (k : Core) (q : Verdict) (m : List ℕ) → Answered dialect (writing wrote (refused k q) leaving m)
refused_answered dialect wrote k q m =
    record { awaits = λ e running. absurd (true≢false running); says = silently refl (λ z. omega arith) }

-- a command that was judged and done, and a close
after_answered : (dialect : Dialect) (wrote : Wrote) (k : Core) (totals : Totals) (done : Done) (m : List ℕ) → kind_of done.event ≢ 3
    → Answered dialect (writing wrote (after k totals done) leaving m)
unfolding after
after_answered dialect wrote k totals done m other =
    of_choice (λ (t : Taken). Answered dialect (writing wrote t leaving m)) _
    (λ e. record { awaits = λ e running. refl; says = silently refl other }) (λ e. refused_answered dialect wrote k done.refusal m)

entered_answered : (k : Core) (tally : Tally) (told : Event) (m : List ℕ)
    → Answered k.dialect
    (entered (record { refusal = None; reply = silence; event = told; core = await k tally Opcode; wrote = none_wrote }) leaving m)
unfolding entered pick
entered_answered k tally told m =
    record { awaits = λ e running. absurd (true≢false running); says = closing (λ e. (refl, refl)) (λ e. refl) }

kept_out_answered : (k : Core) (q : Verdict) (m : List ℕ) → accepted q ≡ false → Answered k.dialect (entered (refused k q) leaving m)
unfolding entered
kept_out_answered k q m e =
    subst (λ (t : Taken). Answered k.dialect (t leaving m)) (sym (passed _ _ _ e)) (refused_answered k.dialect none_wrote k q m)

close_answered : (k : Core) (totals : Totals) (done : Done) (m : List ℕ) → Answered k.dialect (entered (after k totals done) leaving m)
unfolding after
close_answered k totals done m =
    of_choice (λ (t : Taken). Answered k.dialect (entered t leaving m)) _ (λ e. entered_answered k _ done.event m)
    (λ e. kept_out_answered k done.refusal m e)

-- no fill and no setting enters
done_kind : (j : Judged) (checksum fed : ℕ) (told : Event) → kind_of told ≢ 3 → kind_of (done_if j checksum told fed).event ≢ 3
done_kind (Ok place) checksum fed told other = other
done_kind (Err q) checksum fed told other = λ z. omega arith

fill_kind : (j : Judged) (on : Bool) (checksum address size kind pattern : ℕ) → kind_of (fill_done j on checksum address size kind pattern).event ≢ 3
unfolding fill_done
fill_kind j on checksum address size kind pattern = done_kind j checksum _ event.Nothing (λ z. omega arith)

setting_kind : (j : Judged) (checksum delay : ℕ) → kind_of (setting_done j checksum delay).event ≢ 3
unfolding setting_done
setting_kind j checksum delay = done_kind j checksum checksum (event.Wait delay) (λ z. omega arith)

-- the commands that have words and no data
module _ (k : Core) (m : List ℕ) (kept : Kept) (word : ℕ) where
  pub fill_answered : Answered k.dialect (performed command.Fill k m kept word)
  fill_answered = after_answered k.dialect _ k _ _ _ (fill_kind _ _ _ _ _ _ _)

  pub setting_answered : Answered k.dialect (performed command.BootTable k m kept word)
  setting_answered = after_answered k.dialect _ k _ _ _ (setting_kind _ _ _)

  pub closed_answered : Answered k.dialect (performed command.JumpAndClose k m kept word)
  closed_answered = close_answered k _ _ m

-- the last of its argument words performs the command
pub last_performs : (P : WordOutcome → Type 0) (c : Command) (k : Core) (m : List ℕ)
    → ((kept : Kept) (word : ℕ) → P (performed c (asking k c 1 kept) m kept word)) → (rest : List ℕ) (kept : Kept) (word : ℕ)
    → P (done_at_last c k m kept word rest)
unfolding done_at_last
last_performs P c k m each [] kept word = each kept word
last_performs P c k m each (next ∷ rest) kept word = last_performs P c k m each rest (keeping kept word) next
