-- The ways of a call, by the cases of the rules: the words that the table gives a command are those that it passes and fetches, and a command that was judged
-- is accepted or ends the session.
use Prim.Native.Nat.{ℕ, ◌+◌, ◌*◌, ◌≤◌, ◌<◌, min}
use mathlib.Core.Bool.{Bool, true, false, ◌||◌, true≢false}
use mathlib.Core.List.{List}
use mathlib.Core.Logic.{◌≢◌}
use mathlib.Core.Path.{◌≡◌, refl, sym, ap, subst, ◌∙◌}
use native.Mathlib.Omega.{arith}
use lib.Dec.{eqb}
use lib.ListN.{length}
use borrow.Author.Tests.{leb-false, eq-eqb, ne_eqb}
use Rattle.std.specs.declared.result.Result.{Result}
use Rattle.words.specs.rules.Bytes.{word_at}
use Rattle.words.specs.rules.Choice.{pick}
use Rattle.words.proofs.Choice.{chosen, passed, of_choice}
use Rattle.opcodes.specs.rules.Answers.{code_of, kind_of, accepted}
use Rattle.opcodes.specs.rules.Opcodes.{looked_up}
use Rattle.opcodes.specs.declared.Command.{Command}
use Rattle.opcodes.specs.declared.Command.TheVariants as command
use Rattle.opcodes.specs.declared.Event.{Event}
use Rattle.opcodes.specs.declared.Mode.TheVariants.{Flash}
use Rattle.opcodes.specs.rules.Refusals.{Verdict}
use Rattle.opcodes.specs.rules.Refusals as refusal
use Rattle.opcodes.specs.declared.Refusal.{Refusal}
use Rattle.opcodes.specs.declared.Known.{Known}
use Rattle.ledger.specs.claims.Booked.{Room}
use Rattle.ledger.specs.rules.Totals.{differs, is_spent}
use Rattle.ledger.specs.declared.Happening.{Happening}
use Rattle.ledger.specs.declared.Happening.TheVariants as happened
use Rattle.ledger.specs.declared.Totals.{Totals}
use Rattle.reading.specs.rules.Reading.{words_from, argument}
use Rattle.commands.specs.rules.Commands.{judged_code, Judged, Sought}
use Rattle.commands.specs.declared.Done.{Done}
use Rattle.commands.specs.rules.Wrote.{none_wrote}
use Rattle.commands.specs.declared.Wrote.{Wrote}
use Rattle.flash_commands.specs.claims.Ways.{data_words_of, named, happening, argument_words, met, Reads, spares, Way, forward, back, kept, Call}
use Rattle.flash_commands.specs.claims.Commands.{Ready, EveryCommand}
use Rattle.flash_session.specs.rules.Sessions.{changed, counted_on, fetching, unchanged, stopped, accepted_as, after}
use Rattle.flash_commands.specs.rules.Commands.{overflowing, out_of_numbers, sought_as, requested, entered}
use Rattle.flash_session.specs.declared.Called.{Called}
use Rattle.flash_session.specs.declared.Session.{Session}
use Rattle.flash_commands.proofs.Verdicts.{Ending, ends, Judges, fill_judges, setting_judges, entry_judges, barred_judges, granted_first}
use Rattle.flash_commands.proofs.Verdicts.{test_failed, fill_number, setting_number, close_number, Answers, accepts, rejects, fill_answers}
use Rattle.flash_commands.proofs.Verdicts.{setting_answers, close_answers, Leads, leads, astray, seek_leads}

-- a count with none more, and with more in two parts
pub counted_none : (fetched : ℕ) → fetched ≡ counted_on fetched 0
unfolding counted_on
counted_none fetched = omega arith

pub counted_both : (fetched first second : ℕ) → counted_on (counted_on fetched first) second ≡ counted_on fetched (first + second)
unfolding counted_on
counted_both fetched first second = omega arith

-- a refusal that ends the session is not 14
pub not_over : (q : Verdict) → spares q ≡ false → eqb (code_of q) 14 ≡ false
not_over q = last (eqb (code_of q) 2 || eqb (code_of q) 3) (eqb (code_of q) 14)
  where
    last : (a b : Bool) → (a || b) ≡ false → b ≡ false
    last true b e = absurd (true≢false e)
    last false b e = e

module _ (s : Session) (image : List ℕ) where
  -- an answer with what a call may change of the session
  answered : {q : Verdict} {told : Event} {at : ℕ} {over switch : Bool} {checksum offset retries fetched : ℕ} {totals : Totals} {wrote : Wrote}
      → Way s image (record { refusal = q; event = told; at = at; session = changed s over switch checksum offset retries fetched totals; wrote = wrote })
      → eqb (code_of q) 14 ≡ s.ended → at ≡ pick (spares q) 0 s.offset
      → Call s image (record { refusal = q; event = told; at = at; session = changed s over switch checksum offset retries fetched totals; wrote = wrote })
  answered way over at =
      record { way = way; same_windows = refl; same_length = refl; same_limit = refl; same_dialect = refl; over = over; at = at }

  -- refused, the session spared
  pub spared : (q : Verdict) → spares q ≡ true → code_of q ≢ 0 → eqb (code_of q) 14 ≡ s.ended → Call s image (unchanged q s)
  spared q spare low over =
      answered
      (kept
      (record {
        refused = low;
        offset = refl;
        retries = refl;
        totals = refl;
        no_event = refl;
        spared = λ e. refl;
        fetched = λ e. absurd (true≢false (sym spare ∙ e));
        ended = λ e. absurd (true≢false (sym spare ∙ e));
      }))
      over (sym (chosen _ _ _ spare))

  -- what is met where no opcode is there, and where the table says something of it
  pub met_none : length image < s.offset + 4 → met s image ≡ 0
  unfolding met words_from
  met_none h = omega arith

  pub met_found : {found : Result Known Refusal} → looked_up (word_at image s.offset) Flash s.dialect ≡ found
      → met s image ≡ min (1 + argument_words found) (words_from image s.offset)
  unfolding met
  met_found e = rw e

  -- what a command is to the totals where it goes forward
  abbrev what : Command → Happening
  what c = happening c (argument image s.offset 1)

  module _ (standing : s.ended ≡ false) where
    -- refused, the session ended
    pub stops : (q : Verdict) {switch : Bool} {checksum fetched : ℕ} → Ending q → fetched ≡ counted_on s.fetched (met s image)
        → Call s image (stopped q (changed s s.ended switch checksum s.offset s.retries fetched s.totals))
    stops q e all =
        answered
        (kept
        (record {
          refused = e.refused;
          offset = refl;
          retries = refl;
          totals = refl;
          no_event = refl;
          spared = λ spare. absurd (true≢false (sym spare ∙ e.unspared));
          fetched = λ e. all;
          ended = λ e. refl;
        }))
        (not_over q e.unspared ∙ sym standing) (sym (passed _ _ _ e.unspared))

    -- accepted, past the words of the command
    passes : {c : Command} {words : ℕ} {told : Event} {over switch : Bool} {checksum offset fetched : ℕ} {wrote : Wrote} → Reads s image c words
        → offset ≡ s.offset + 4 * words → fetched ≡ counted_on s.fetched words → Room s.dialect s.totals (what c) → over ≡ eqb (kind_of told) 3
        → (kind_of told ≡ 3 → (c ≡ command.JumpAndClose) × (differs s.dialect s.totals (named s image) ≡ false))
        → Call s image (accepted_as s (what c) wrote told (changed s over switch checksum offset s.retries fetched s.totals))
    passes {c} {words} reads past all fits ended entering =
        answered
        (forward
        (record {
          command = c;
          words = words;
          reads = reads;
          accepted = refl;
          offset = past;
          fetched = all;
          retries = refl;
          totals = refl;
          fits = fits;
          ended = ended;
          entering = λ e. (entering e).0;
          naming = λ e. (entering e).1;
        }))
        (sym standing) (sym (passed _ _ _ refl))

    -- accepted with no event of entering, and going on
    pub goes_on : {c : Command} {words : ℕ} {told : Event} {switch : Bool} {checksum offset fetched : ℕ} {wrote : Wrote} → kind_of told ≢ 3
        → Reads s image c words → offset ≡ s.offset + 4 * words → fetched ≡ counted_on s.fetched words → Room s.dialect s.totals (what c)
        → Call s image (accepted_as s (what c) wrote told (changed s s.ended switch checksum offset s.retries fetched s.totals))
    goes_on other reads past all fits = passes reads past all fits (standing ∙ sym (ne_eqb _ _ other)) (λ e. absurd (other e))

    -- a command whose opcode and argument words were met, and fetched
    module _ (n : ℕ) (whole : met s image ≡ n) where
      abbrev fetched : Session
      fetched = fetching n s

      -- refused it has fetched these
      pub denied : (q : Verdict) {switch : Bool} {checksum : ℕ} → Ending q
          → Call s image (stopped q (changed fetched s.ended switch checksum s.offset s.retries fetched.fetched s.totals))
      denied q e = stops q e (ap (counted_on s.fetched) (sym whole))

      -- that was judged
      after_call : {c : Command} {kind : ℕ} {done : Done} (wrote : Wrote) → kind ≢ 3 → Answers kind done → Reads s image c n
          → (code_of done.refusal ≡ 0 → Room s.dialect s.totals (what c)) → Call s image (after fetched (what c) wrote done (s.offset + 4 * n))
      unfolding after
      after_call wrote other (accepts e k) reads fits =
          subst (Call s image) (sym (chosen _ _ _ (eq-eqb _ _ e))) (goes_on (λ z. other (sym k ∙ z)) reads refl refl (fits e))
      after_call wrote other (rejects e) reads fits = subst (Call s image) (sym (passed _ _ _ (ne_eqb _ _ e.refused))) (denied _ e)

      entered_call : {done : Done} → Answers 3 done → Reads s image command.JumpAndClose n
          → (code_of done.refusal ≡ 0 → differs s.dialect s.totals (named s image) ≡ false)
          → Call s image (entered (after fetched happened.Other none_wrote done (s.offset + 4 * n)))
      unfolding after
      entered_call (accepts e k) reads same =
          subst (λ (a : Called). Call s image (entered a)) (sym (chosen _ _ _ (eq-eqb _ _ e)))
          (passes reads refl refl tt (sym (eq-eqb _ _ k)) (λ z. (refl, same e)))
      entered_call (rejects e) reads same =
          subst (λ (a : Called). Call s image (entered a)) (sym (passed _ _ _ (ne_eqb _ _ e.refused))) (denied _ e)

      module _ (reads : Reads s image command.Request n) where
        sought_call : {led : Sought} → Leads s.offset led → s.retries < s.limit → Call s image (sought_as fetched led)
        sought_call (leads aligned low below) left =
            answered
            (back
            (record {
              words = n;
              reads = reads;
              accepted = refl;
              aligned = aligned;
              low = low;
              below = below;
              left = left;
              fetched = refl;
              counted = refl;
              totals = refl;
              no_event = refl;
              running = standing;
            }))
            (sym standing) (sym (passed _ _ _ refl))
        sought_call (astray e) left = denied _ e

        request_call : (expected seek : ℕ) → Call s image (requested fetched (s.offset + 4 * n) expected seek)
        unfolding requested
        request_call expected seek =
            of_choice (Call s image) _ (λ e. goes_on (λ z. omega arith) reads refl refl tt)
            (λ e. of_choice (Call s image) _ (λ e. denied refusal.Checksum (ends refusal.Checksum refl))
            (λ e. sought_call (seek_leads s.offset seek) (leb-false _ _ e)))

  -- 18 follows what judges a section, 25 what judges a command that is numbered, and 17 what judges an entry
  pub section_judges : {j : Judged} (size : ℕ) → Judges j → Judges (overflowing s size j)
  section_judges size judges = barred_judges _ (ends refusal.Overflow refl) judges

  numbered_judges : {j : Judged} → Judges j → Judges (out_of_numbers s j)
  numbered_judges judges = barred_judges _ (ends refusal.Number refl) judges

  -- what 25 did not refuse was granted before it, and found a number
  numbered_passed : {j : Judged} → Judges j → judged_code (out_of_numbers s j) ≡ 0 → (judged_code j ≡ 0) × (is_spent s.totals ≡ false)
  numbered_passed judges e = (granted_first _ (ends refusal.Number refl) judges e, test_failed _ (ends refusal.Number refl) judges e)

  -- a command that is ready: its words are read, and its opcode and argument words met
  module _ {c : Command} {n : ℕ} (ready : Ready s image c n) where
    pub read : (words : ℕ) → words ≡ 1 + n + data_words_of c s image → s.offset + 4 * words ≤ length image → Reads s image c words
    read words count present = record { arguments = n; row = ready.row; count = count; present = present; lent = ready.lent }

    pub all_met : met s image ≡ 1 + n
    unfolding words_from
    all_met = met_found ready.row ∙ omega (arith, ready.there)

    -- one with no data
    bare : 1 + n ≡ 1 + n + data_words_of c s image → Reads s image c (1 + n)
    bare count = read (1 + n) count (omega (arith, ready.there))

pub every_command : EveryCommand
every_command s m image n =
    record {
      fill = λ ready address kind pattern.
          let judges = fill_judges s.windows address (argument image s.offset 1) kind in
          after_call s image ready.running (1 + n) (all_met s image ready) _ (λ z. omega arith)
          (fill_answers (numbered_judges s image (section_judges s image _ judges)) _ _ _ _ _ _) (bare s image ready (omega arith))
          (λ e.
          let first = numbered_passed s image (section_judges s image _ judges) (sym (fill_number _ _ _ _ _ _ _) ∙ e) in
          (test_failed _ (ends refusal.Overflow refl) judges first.0, first.1));
      setting = λ ready word address value delay.
          let judges = setting_judges s.windows word address value in
          after_call s image ready.running (1 + n) (all_met s image ready) _ (λ z. omega arith)
          (setting_answers (numbered_judges s image judges) _ _) (bare s image ready (omega arith))
          (λ e. (numbered_passed s image judges (sym (setting_number _ _ _) ∙ e)).1);
      enable = λ ready. goes_on s image ready.running (λ z. omega arith) (bare s image ready (omega arith)) refl refl tt;
      disable = λ ready. goes_on s image ready.running (λ z. omega arith) (bare s image ready (omega arith)) refl refl tt;
      request = λ ready expected seek.
          request_call s image ready.running (1 + n) (all_met s image ready) (bare s image ready (omega arith)) expected seek;
      close = λ ready address.
          let judges = entry_judges s.windows address in
          entered_call s image ready.running (1 + n) (all_met s image ready)
          (close_answers (barred_judges _ (ends refusal.Totals refl) judges) _ _) (bare s image ready (omega arith))
          (λ e. test_failed _ (ends refusal.Totals refl) judges (sym (close_number _ _ _) ∙ e));
      pass_over = λ ready. goes_on s image ready.running (λ z. omega arith) (bare s image ready (omega arith)) refl refl tt;
    }
