-- The worked instance, by computing and by the theorem; and the counterexample, by computing.
use Prim.Native.Nat.{ℕ, ◌<◌, ◌^◌}
use mathlib.Core.Bool.{Bool, true, false, ◌||◌}
use mathlib.Core.List.{List, [], ◌++◌, map, append-nil}
use mathlib.Core.Path.{◌≡◌, refl, sym, ap, ◌∙◌}
use lib.Dec.{lit<}
use lib.ListN.{length, replicate}
use borrow.Author.Tests.{eqb-false}
use Rattle.words.specs.rules.Bits.{bit, join, with_field, within}
use Rattle.words.specs.rules.Bytes.{byte, number, bytes_at, put, fits, field_fits, field_written}
use Rattle.words.specs.rules.Choice.{pick}
use Rattle.law_effects.specs.claims.Effects.{some_writes}
use Rattle.checksum.specs.rules.Checksum as feeding
use Rattle.windows.specs.rules.Map.{sound_window, all_sound, rising, good_map, kept_of}
use Rattle.windows.specs.rules.Window.{has_right, inside, grants_range, place_from, place_of, sum_of}
use Rattle.opcodes.specs.rules.Opcodes.{rows, row_serves, found_in, looked_up}
use Rattle.opcodes.specs.declared.Dialect.{Dialect}
use Rattle.opcodes.specs.declared.Dialect.TheVariants.{Am17xx, Dm648}
use Rattle.opcodes.specs.rules.Refusals.{Verdict}
use Rattle.opcodes.specs.rules.Refusals.{None}
use Rattle.ledger.specs.rules.Totals.{is_past, following}
use Rattle.commands.specs.rules.Commands.{multiple, range_judged, unit_of, units_judged, field_shape, shape_of, too_wide, setting_done, setting_memory}
use Rattle.bit_stamps.specs.rules.Stamps.{is_told, stamped_from, entry_at}
use Rattle.sent.specs.rules.Bus.{all_units, pushed}
use Rattle.sent.specs.rules.Feeding.{State, Heard, fed, answers}
use Rattle.sent.specs.rules.Line.{carried, is_start, unit_step}
use Rattle.machine_answers.specs.rules.Answers.{after as after_command}
use Rattle.machine.specs.rules.Machine.{acknowledging, word_step}
use Rattle.sent.specs.rules.Opening.{opened_by, numbering_from}
use Rattle.sent.specs.declared.Bus.{Bus}
use Rattle.sent.specs.declared.Bus.TheVariants.{Bytes, Halves}
use Rattle.sent.proofs.Feeding.{none_refused_by}
use Rattle.law_retries.specs.claims.Example.{start_to, start}
use Rattle.law_retries.specs.claims.Pieces.{all_words, AllSendable, effect_of, any_writes}
use Rattle.law_retries.specs.claims.Retries.{after, Begins, NotAlone, attempt_words, Accepted, Retried}
use Rattle.law_retries.proofs.Beginnings.{beginnings}
use Rattle.law_retries.proofs.Instance.{start_after, start_whole}
use Rattle.bit_watch.specs.rules.Watched.{entries_after}
use Rattle.law_retries.specs.claims.EntryExample.{chosen, none, entry_of, swapped, settings_from, meant, missing, NumbersAgain, KeepsItsNumber}
use Rattle.law_retries.proofs.Entries.{retries_leave_no_entry}

-- what is refused of some words, and no refusal
abbrev refusals : Bus → State → List ℕ → List Verdict
refusals bus x words = map (λ (h : Heard). h.refusal) (answers bus x (all_units bus words))

abbrev quiet : Bus → List ℕ → List Verdict
quiet bus words = replicate (length (all_units bus words)) None

-- all that is computed
record Computed (bus : Bus) (dialect : Dialect) : Type 0 where
  tried : refusals bus (start bus dialect) (attempt_words swapped) ≡ quiet bus (attempt_words swapped)
  after_meant : refusals bus (after bus (start bus dialect) (attempt_words swapped)) (all_words meant) ≡ quiet bus (all_words meant)
  after_missing : refusals bus (after bus (start bus dialect) (attempt_words swapped)) (all_words missing) ≡ quiet bus (all_words missing)
  attempt_bits : (p : ℕ) → any_writes (start bus dialect).session.core.windows swapped.pieces p ≡ (within 8 4 p || (within 4 3 p || false))
  meant_bits : (p : ℕ) → any_writes (start bus dialect).session.core.windows meant p ≡ (within 4 3 p || (within 8 4 p || false))
  attempt_low : entry_of bus dialect (attempt_words swapped) 6 ≡ 2
  attempt_high : entry_of bus dialect (attempt_words swapped) 8 ≡ 1
  low : entry_of bus dialect (attempt_words swapped ++ all_words meant) 6 ≡ 1
  high : entry_of bus dialect (attempt_words swapped ++ all_words meant) 8 ≡ 2
  unwritten : entry_of bus dialect (attempt_words swapped ++ all_words meant) 7 ≡ 0
  kept : entry_of bus dialect (attempt_words swapped ++ all_words missing) 6 ≡ 2
  gone : entry_of bus dialect (attempt_words swapped ++ all_words missing) 8 ≡ 2
  never_tried : entry_of bus dialect (all_words missing) 6 ≡ 0
  never_gone : entry_of bus dialect (all_words missing) 8 ≡ 2

computed : (bus : Bus) (dialect : Dialect) → Computed bus dialect
unfolding bit join with_field within byte number bytes_at put fits field_fits field_written pick feeding.shifted feeding.fed_bit feeding.fed
    feeding.fed_words has_right inside grants_range place_from place_of sum_of sound_window all_sound rising good_map kept_of rows row_serves found_in
    looked_up multiple range_judged unit_of units_judged field_shape shape_of too_wide setting_done setting_memory is_past following is_told stamped_from
    entry_at pushed
    carried is_start unit_step after_command acknowledging word_step opened_by numbering_from start_to fed all_words answers effect_of some_writes entries_after
computed Bytes Am17xx = search
computed Bytes Dm648 = search
computed Halves Am17xx = search
computed Halves Dm648 = search

-- what is sent can be sent
attempt_sendable : AllSendable swapped.pieces
unfolding AllSendable
attempt_sendable = (
  ((lit< tt, (lit< tt, (lit< tt, (lit< tt, (lit< tt, tt))))), tt),
  (((lit< tt, (lit< tt, (lit< tt, (lit< tt, (lit< tt, tt))))), tt), tt),
)

settings_sendable : (field : ℕ) → field < 2 ^ 32 → AllSendable (settings_from field)
unfolding AllSendable
settings_sendable field field< = (
  ((lit< tt, (field<, (lit< tt, (lit< tt, (lit< tt, tt))))), tt),
  (((lit< tt, (lit< tt, (lit< tt, (lit< tt, (lit< tt, tt))))), tt), tt),
)

begins : (bus : Bus) (dialect : Dialect) → Begins (start bus dialect)
begins bus dialect = (beginnings bus).begins (start bus dialect) (start_after true bus dialect) (start_whole true bus dialect)

-- its first word is that of a setting
not_alone : (bus : Bus) (dialect : Dialect) → NotAlone (start bus dialect) (attempt_words swapped)
unfolding all_words
not_alone bus dialect stands = eqb-false _ _ refl

-- either order writes the same bits
swap : (a b : Bool) → (a || (b || false)) ≡ (b || (a || false))
swap true true = refl
swap true false = refl
swap false true = refl
swap false false = refl

-- what is sent is accepted
accepted : (bus : Bus) (dialect : Dialect) (field : ℕ) → field < 2 ^ 32
    → refusals bus (after bus (start bus dialect) (attempt_words swapped)) (all_words (settings_from field)) ≡ quiet bus (all_words (settings_from field))
    → Accepted bus (start bus dialect) (attempt_words swapped) swapped.pieces (settings_from field)
accepted bus dialect field field< none =
    record {
      sendable = (attempt_sendable, settings_sendable field field<);
      attempt_accepted = none_refused_by bus (start bus dialect) (all_units bus (attempt_words swapped)) (computed bus dialect).tried;
      following_accepted = none_refused_by bus (after bus (start bus dialect) (attempt_words swapped)) (all_units bus (all_words (settings_from field))) none;
    }

retried : (bus : Bus) (dialect : Dialect) → Retried bus (start bus dialect) (attempt_words swapped) swapped.pieces meant
retried bus dialect =
    record {
      begins = begins bus dialect;
      not_alone = not_alone bus dialect;
      accepted = accepted bus dialect 0x00060403 (lit< tt) (computed bus dialect).after_meant;
      covered = λ p h. (computed bus dialect).meant_bits p ∙ swap (within 4 3 p) (within 8 4 p) ∙ sym ((computed bus dialect).attempt_bits p) ∙ h;
    }

pub numbers_again : (bus : Bus) (dialect : Dialect) → NumbersAgain bus dialect
numbers_again bus dialect =
    record {
      retried = retried bus dialect;
      no_entry = retries_leave_no_entry bus (start bus dialect) swapped _ _ (retried bus dialect);
      attempt_low = (computed bus dialect).attempt_low;
      attempt_high = (computed bus dialect).attempt_high;
      low = (computed bus dialect).low;
      high = (computed bus dialect).high;
      unwritten = (computed bus dialect).unwritten;
    }

-- the entry of bit 6 of the chosen word, after units
abbrev sixth : Bus → Dialect → List ℕ → ℕ
sixth bus dialect units = entry_at (entries_after bus chosen none (start bus dialect) units) 0 6

pub keeps_its_number : (bus : Bus) (dialect : Dialect) → KeepsItsNumber bus dialect
keeps_its_number bus dialect =
    record {
      begins = begins bus dialect;
      not_alone = not_alone bus dialect;
      accepted = accepted bus dialect 0x00050403 (lit< tt) (computed bus dialect).after_missing;
      kept = (computed bus dialect).kept;
      gone = (computed bus dialect).gone;
      never_tried = (computed bus dialect).never_tried;
      never_gone = (computed bus dialect).never_gone;
      trace = λ same.
          eqb-false 2 0 refl
          (sym (computed bus dialect).kept ∙ ap (sixth bus dialect) (sym (append-nil (all_units bus (attempt_words swapped ++ all_words missing))))
          ∙ ap (λ (es : List ℕ). entry_at es 0 6) (same chosen none [])
          ∙ ap (sixth bus dialect) (append-nil (all_units bus (all_words missing))) ∙ (computed bus dialect).never_tried);
    }
