-- What stands at the session's offset decides: a command by its row, a Request, Sequential Read, or nothing that can be sent.
use Prim.Native.Nat.{ℕ, suc, ◌≤◌}
use mathlib.Core.Bool.{true, false, true≢false}
use mathlib.Core.List.{List}
use mathlib.Core.Logic.{◌≢◌}
use mathlib.Core.Path.{◌≡◌, refl, sym, ap, subst, ◌∙◌}
use native.Mathlib.Omega.{arith}
use lib.ListN.{length}
use borrow.Author.Tests.{eqb-true}
use Rattle.std.specs.declared.result.Result.TheVariants.{Ok}
use Rattle.opcodes.specs.rules.Opcodes.{with_words, by_writing}
use Rattle.opcodes.specs.declared.Command.{Command}
use Rattle.opcodes.specs.declared.Command.TheVariants as command
use Rattle.opcodes.specs.declared.Dialect.{Dialect}
use Rattle.opcodes.specs.declared.Dialect.TheVariants.{Am17xx, Dm648}
use Rattle.opcodes.specs.declared.Mode.TheVariants.{Flash}
use Rattle.opcodes.proofs.Counts.{row_is, row-is}
use Rattle.reading.specs.rules.Reading.{past_data}
use Rattle.reading.proofs.Reading.{whole_there}
use Rattle.flash_session.specs.declared.Session.{Session}
use Rattle.machine.specs.rules.Machine.{begun}
use Rattle.machine.specs.claims.Words.{asking}
use Rattle.machine_answers.specs.declared.Core.{Core}
use Rattle.sent.specs.declared.Bus.{Bus}
use Rattle.law_line.specs.claims.Line.{Standing, CommandSent, OnTheLine, Stretches}
use Rattle.law_line.proofs.Answers.{fill_answered, setting_answered, closed_answered}
use Rattle.law_line.proofs.Calls.{known_row, call_keeps, nothing_read, no_data, over_read}
use Rattle.law_line.proofs.Checksum.{checksum_small}
use Rattle.law_line.proofs.Commands.{Sendable, running, wordless_sent, worded_sent}
use Rattle.law_line.proofs.Loads.{load_sent}
use Rattle.law_line.proofs.Requests.{request-sent}
use Rattle.law_line.proofs.Rows.{sent_row}
use Rattle.law_line.proofs.Stretch.{word_small, stretch_units}

-- a command that writes no load is none
no_load : (c : Command) → by_writing c true false false false ≡ false → c ≢ command.Load
no_load c h e = true≢false (sym (ap (λ (x : Command). by_writing x true false false false) e) ∙ h)

-- Jump & Close has words in either dialect
close_words : (dialect : Dialect) (words : ℕ) → row_is Flash dialect command.JumpAndClose words ≡ true → (left : ℕ) × (words ≡ suc left)
unfolding row_is
close_words Am17xx words row = (0, eqb-true words 1 row)
close_words Dm648 words row = (2, eqb-true words 3 row)

module _ (bus : Bus) {s : Session} {m image : List ℕ} {k : Core} (standing : Standing s m image k) where
  -- a command with as many words as its row has
  abbrev AtCount : Command → ℕ → Type 0
  AtCount c n = Sendable s image c n → past_data c n image s.offset ≤ length image → CommandSent bus s m image k c n

  by_command : (c : Command) (words : ℕ) → row_is Flash s.dialect c words ≡ true → AtCount c words
  unfolding row_is
  by_command command.Load words known = subst (AtCount command.Load) (sym (eqb-true words 2 known)) (load_sent bus standing)
  by_command command.Fill words known =
      subst (AtCount command.Fill) (sym (eqb-true words 4 known))
      (λ row there. worded_sent bus standing 3 row (λ kept last. fill_answered (asking (begun command.Fill k) command.Fill 1 kept) m kept last)
      (no_load command.Fill refl) refl (omega arith))
  by_command command.BootTable words known =
      subst (AtCount command.BootTable) (sym (eqb-true words 4 known))
      (λ row there. worded_sent bus standing 3 row
      (λ kept last. setting_answered (asking (begun command.BootTable k) command.BootTable 1 kept) m kept last)
      (no_load command.BootTable refl) refl (omega arith))
  by_command command.Enable words known =
      subst (AtCount command.Enable) (sym (eqb-true words 0 known))
      (λ row there. wordless_sent bus standing row _ refl (running bus standing) refl refl refl (no_load command.Enable refl) refl (omega arith))
  by_command command.Disable words known =
      subst (AtCount command.Disable) (sym (eqb-true words 0 known))
      (λ row there. wordless_sent bus standing row _ refl (running bus standing) refl refl refl (no_load command.Disable refl) refl (omega arith))
  by_command command.Request words known = λ row there. absurd (row.no_request refl)
  by_command command.StartOver words known = absurd (true≢false (sym known))
  by_command command.JumpAndClose words known =
      let count = close_words s.dialect words known in
      subst (AtCount command.JumpAndClose) (sym count.1)
      (λ row there. worded_sent bus standing count.0 row
      (λ kept last. closed_answered (asking (begun command.JumpAndClose k) command.JumpAndClose 1 kept) m kept last)
      (no_load command.JumpAndClose refl) refl (omega arith))
  by_command command.Ping words known = absurd (true≢false (sym known))
  by_command command.SequentialRead words known = λ row there. absurd (row.no_read refl)

pub on_the_line : OnTheLine
unfolding row_is
on_the_line =
    record {
      commands = λ bus s m image k standing c words e no_request no_read there.
          let known = known_row image s.offset s.dialect e in
          by_command bus standing c words (row-is Flash s.dialect _ c words known) (record {
            known = known;
            no_request = no_request;
            no_read = no_read;
          }) there;
      requests = λ bus s m image k standing words e.
          let known = known_row image s.offset s.dialect e in
          let two : words ≡ 2 = eqb-true words 2 (row-is Flash s.dialect _ command.Request words known) in
          let there = whole_there image s.offset s.dialect e in
          request-sent bus standing (known ∙ ap (λ (n : ℕ). Ok (with_words command.Request n)) two) (omega arith);
      passed_over = λ bus s m image k standing words e. record { no_words = (over_read standing words e).0; goes = (over_read standing words e).1 };
      not_read = λ s m image k standing q fetched e. nothing_read standing q fetched e;
      data_missing = λ s m image k standing words e short. no_data standing words e short;
      keeps = call_keeps;
      checksum = checksum_small;
    }

pub stretches : Stretches
stretches =
    record {
      units = stretch_units;
      word = λ image at bytes. word_small image at;
      row = sent_row;
    }
