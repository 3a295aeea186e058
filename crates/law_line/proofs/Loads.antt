-- A load: refused at its size word it ends the loader, which absorbs the data; granted, each data word is taken in silence, and at the last the load is done.
use Rattle.std.specs.Prelude.{Some, Ok, Err}
use Prim.Native.Nat.{ℕ, suc, ◌+◌, ◌-◌, ◌*◌, ◌/◌, ◌≤◌, min}
use mathlib.Core.List.{List, [], ◌∷◌, ◌++◌}
use mathlib.Core.Path.{◌≡◌, refl, sym, ap, subst, ◌∙◌}
use native.Mathlib.Omega.{arith}
use lib.ListN.{length}
use Rattle.words.specs.rules.Bytes.{word_at}
use Rattle.words.proofs.Choice.{by_test}
use Rattle.opcodes.specs.rules.Answers.{kind_of, accepted}
use Rattle.opcodes.specs.declared.Command.TheVariants as command
use Rattle.opcodes.specs.declared.Refusal.TheVariants as why
use Rattle.opcodes.specs.rules.Refusals.{Verdict}
use Rattle.opcodes.specs.rules.Refusals as refusal
use Rattle.ledger.specs.rules.Totals.{would_pass, is_spent}
use Rattle.reading.specs.rules.Reading.{past_words, argument, data_words, past_data}
use Rattle.commands.specs.rules.Commands.{barred, load_judged, Judged}
use Rattle.commands.specs.rules.Wrote.{none_wrote}
use Rattle.commands.proofs.Judging.{unbarred, bars}
use Rattle.flash.specs.rules.Step.{step_of}
use Rattle.flash_session.specs.declared.Session.{Session}
use Rattle.machine_answers.specs.rules.Answers.{WordOutcome, refused, ◌leaving◌}
use Rattle.machine_answers.specs.rules.Counts.{overflowing, out_of_numbers}
use Rattle.machine_loads.specs.rules.Loads.{awaited, load_begun}
use Rattle.machine_commands.specs.rules.Performed.{none_kept}
use Rattle.machine.specs.rules.Machine.{keeping, begun}
use Rattle.machine_answers.specs.rules.Replies.{sent_bytes}
use Rattle.machine.specs.claims.Words.{after_words, asking, done_at_last}
use Rattle.machine_answers.specs.declared.Core.{Core}
use Rattle.machine_answers.specs.declared.Kept.{Kept}
use Rattle.machine.proofs.ByTheTable.{after_append}
use Rattle.machine.proofs.Laws.{data_step, unwritten, load_in_pieces}
use Rattle.sent.specs.rules.Bus.{units_fed, all_units}
use Rattle.sent.specs.declared.Bus.{Bus}
use Rattle.sent.proofs.Feeding.{units_append}
use Rattle.law_modes.specs.claims.Modes.{Same, words_at, sent_with, load_is, SameLoad}
use Rattle.law_modes.proofs.ImageWords.{words_length}
use Rattle.law_modes.proofs.Modes.{both_modes}
use Rattle.law_line.specs.claims.Line.{Standing, rest_here, CommandSent}
use Rattle.law_line.proofs.Answers.{silently, Answered, refused_answered}
use Rattle.law_line.proofs.Commands.{Sendable, ArgumentsSent, running, before, sent_by, rest_units, rows, arguments_sent}
use Rattle.law_line.proofs.Stretch.{words_small}
use Rattle.law_line.proofs.Words.{Comes, Quiet, proper_after, Lasting, words_come, absorbs}

-- the data of a load are taken in silence, up to the last of them
data_last : (ws : List ℕ) (o : WordOutcome) (place left : ℕ) → Quiet o → o.answer.core.stage.phase ≡ awaited (place + left) left
    → length ws ≡ (left + 3) / 4 → Lasting o ws
unfolding Lasting
data_last [] o place left q at whole = tt
data_last (w ∷ ws) o place left q at whole =
    let step = data_step o.answer.core o.memory place left w (omega arith) at in
    let end : place + left ≡ place + min left 4 + (left - 4) = omega arith in (
      q,
      data_last ws _ (place + min left 4) (left - 4)
          (subst Quiet (sym step) (record { accepted = refl; running = q.running; silent = refl; no_event = refl }))
          (ap (λ (x : WordOutcome). x.answer.core.stage.phase) step ∙ ap (λ (e : ℕ). awaited e (left - 4)) end)
          (omega arith),
    )

-- two words and those after them
words_split : (image : List ℕ) (at next d : ℕ) → next ≡ at + 8
    → words_at image at (2 + d) ≡ words_at image at 2 ++ words_at image next d
unfolding words_at
words_split image at next d past =
    let two : 2 + d ≡ suc (suc d) = omega arith in
    let there : at + 4 + 4 ≡ next = omega arith in
    ap (words_at image at) two ∙ ap (λ (p : ℕ). word_at image at ∷ word_at image (at + 4) ∷ words_at image p d) there

module _ (bus : Bus) {s : Session} {m image : List ℕ} {k : Core} (standing : Standing s m image k) (row : Sendable s image command.Load 2)
    (there : past_data command.Load 2 image s.offset ≤ length image) where
  -- the load's words, in the image and as the loader has them
  abbrev address : ℕ
  address = word_at image (s.offset + 4)

  abbrev size : ℕ
  size = word_at image (s.offset + 4 + 4)

  address_is : address ≡ argument image s.offset 0
  unfolding argument
  address_is = let same : s.offset + 4 ≡ s.offset + 4 + 4 * 0 = omega arith in ap (word_at image) same

  size_is : size ≡ argument image s.offset 1
  unfolding argument
  size_is = refl

  abbrev two-words : List ℕ
  two-words = words_at image (s.offset + 4) 2

  -- its data
  abbrev count : ℕ
  count = data_words (argument image s.offset 1)

  abbrev data-words : List ℕ
  data-words = words_at image (past_words s.offset 2) count

  data_length : length data-words ≡ (size + 3) / 4
  data_length = words_length image count (past_words s.offset 2) ∙ ap data_words (sym size_is)

  -- the core at the size word, the words sent, and the outcome there
  abbrev kept : Kept
  kept = keeping none_kept address

  abbrev sized : Core
  sized = asking (begun command.Load k) command.Load 1 kept

  sent : ArgumentsSent bus s m image k command.Load two-words
  sent = arguments_sent bus standing 1 row

  abbrev reached : WordOutcome
  reached = sent_with s m image k two-words

  abbrev judged : Judged
  judged = overflowing sized size (load_judged k.windows address size)

  reached_is : reached ≡ (load_begun sized address size (out_of_numbers sized judged) leaving m)
  unfolding words_at done_at_last
  reached_is = sent.done

  -- it is judged as in flash mode
  judged_same : judged ≡ load_is s m image k
  judged_same =
      λ i. barred (would_pass (sym standing.alike.dialect i) (sym standing.alike.totals i) (size_is i)) why.Overflow
      (load_judged (sym standing.alike.windows i) (address_is i) (size_is i))

  spent_same : is_spent sized.tally.totals ≡ is_spent s.totals
  spent_same = ap is_spent (sym standing.alike.totals)

  both_same : SameLoad s m image k
  both_same = both_modes.load s m image k (before bus standing (omega arith)) (rows bus standing row) (omega arith)

  -- the units of the rest: those of two words, and of the data
  rest_is : units_fed bus (rest_here bus s m image k command.Load 2) ≡ all_units bus two-words ++ all_units bus data-words
  rest_is =
      rest_units bus standing row (2 + count) refl there
      ∙ ap (all_units bus) (words_split image (s.offset + 4) (past_words s.offset 2) count (omega arith))
      ∙ units_append bus two-words data-words

  -- refused at the size word
  refused_sent : (q : Verdict) → reached ≡ (refused sized q leaving m) → Same (step_of s m image) reached → CommandSent bus s m image k command.Load 2
  refused_sent q is same =
      sent_by bus standing row sent.opcode
      (subst (λ (us : List ℕ). Comes bus sent.between us reached) (sym rest_is)
      (absorbs sent.comes (ap (λ (o : WordOutcome). o.answer.core.ended) is) (all_units bus data-words)))
      same sent.proper (subst (Answered k.dialect) (sym is) (refused_answered k.dialect none_wrote sized q m))

  -- granted
  module _ (place : ℕ) (granted : out_of_numbers sized judged ≡ Ok place) where
    begins : Quiet reached × (reached.answer.core.stage.phase ≡ awaited (place + size) size)
    begins =
        let is = reached_is ∙ ap (λ (j : Judged). load_begun sized address size j leaving m) granted in (
          subst Quiet (sym is) (record { accepted = refl; running = running bus standing; silent = refl; no_event = refl }),
          ap (λ (o : WordOutcome). o.answer.core.stage.phase) is,
        )

    data_answered : Answered k.dialect (after_words reached data-words)
    data_answered =
        let whole = ap (λ (o : WordOutcome). unwritten (after_words o data-words)) reached_is
        ∙ load_in_pieces sized m kept size place data-words granted data_length in
        record {
          awaits = λ e running. ap (λ (o : WordOutcome). o.answer.core.stage.phase) whole;
          says = silently (ap (λ (o : WordOutcome). sent_bytes o.answer.reply) whole)
              (λ z. omega (arith, ap (λ (o : WordOutcome). kind_of o.answer.event) whole));
        }

    granted_sent : Same (step_of s m image) (after_words reached data-words) → CommandSent bus s m image k command.Load 2
    granted_sent same =
        sent_by bus standing row sent.opcode
        (subst (λ (us : List ℕ). Comes bus sent.between us (after_words reached data-words)) (sym rest_is)
        (words_come data-words sent.comes sent.proper (words_small image count (past_words s.offset 2))
        (data_last data-words reached place size begins.0 begins.1 data_length)))
        same (proper_after data-words sent.proper) data_answered

  -- by the judgement
  by_judged : (j : Judged) → load_is s m image k ≡ j → CommandSent bus s m image k command.Load 2
  by_judged (Err q) is =
      refused_sent (Some q)
      (reached_is ∙ ap (λ (j : Judged). load_begun sized address size (out_of_numbers sized j) leaving m) (judged_same ∙ is))
      (both_same.refused q is)
  by_judged (Ok place) is =
      by_test (is_spent s.totals)
      (λ spent. refused_sent refusal.Number
      (reached_is
      ∙ ap (λ (j : Judged). load_begun sized address size j leaving m)
      (ap (out_of_numbers sized) (judged_same ∙ is) ∙ bars _ _ place (spent_same ∙ spent)))
      (both_same.spent place is spent there))
      (λ unspent. granted_sent place (unbarred _ _ _ (spent_same ∙ unspent) ∙ judged_same ∙ is)
      (subst (Same (step_of s m image)) (after_append _ two-words data-words) (both_same.granted place is unspent there)))

  pub load_sent : CommandSent bus s m image k command.Load 2
  load_sent = by_judged (load_is s m image k) refl
