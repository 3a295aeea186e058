-- Units of a sent session: one that ends a word is the word, any other writes nothing. So the entries, and the bits of memory, are what the history says, unit
-- by unit.
use Prim.Native.Nat.{ℕ, ◌+◌, ◌-◌, ◌*◌}
use mathlib.Core.Bool.{Bool, true, false, not, ◌&&◌}
use mathlib.Core.List.{List, [], ◌∷◌, ◌++◌, append_assoc, append-nil}
use mathlib.Core.Path.{◌≡◌, refl, sym, ap, ◌∙◌}
use native.Mathlib.Omega.{arith}
use borrow.Author.Tests.{eqb-true}
use lib.Dec.{ltb, eqb}
use lib.ListN.{length, replicate}
use Rattle.words.specs.rules.Choice.{pick}
use Rattle.words.proofs.Choice.{of_choice}
use Rattle.windows.specs.rules.Window.{sum_of}
use Rattle.windows.specs.declared.Window.{Window}
use Rattle.opcodes.specs.declared.Dialect.{Dialect}
use Rattle.opcodes.specs.rules.Refusals.{Verdict}
use Rattle.opcodes.specs.rules.Refusals as refusal
use Rattle.bit_stamps.specs.rules.Stamps.{entry_at}
use Rattle.bit_history.specs.claims.History.{Numbered, LeftBy, numbers_fit, stamped_all}
use Rattle.bit_history.proofs.History.{history_laws}
use Rattle.sent.specs.rules.Bus.{units_in_word, pushed}
use Rattle.sent.specs.rules.Feeding.{State, next, fed}
use Rattle.sent.specs.rules.Line.{UnitOutcome, plainly, gathered, carried, is_start, unit_step}
use Rattle.machine.specs.rules.Machine.{word_step}
use Rattle.sent.specs.rules.Opening.{opened_by, numbering_from}
use Rattle.machine_answers.specs.rules.Replies.{silence}
use Rattle.sent.specs.rules.Line.{start_answer}
use Rattle.sent.specs.declared.Bus.{Bus}
use Rattle.sent.specs.declared.Opened.{Opened}
use Rattle.machine_answers.specs.declared.Reply.{Reply}
use Rattle.sent.specs.declared.Session.{Session}
use Rattle.sent_laws.specs.claims.Reached.{opened_to, Reached, opened, stepped, fed_reached}
use Rattle.bit_watch.specs.rules.Watched.{unit_entries, entries_after}
use Rattle.bit_history.specs.claims.UnitHistory.{word_history, ends_word, unit_history, history, history_of, entries_of, UnitsTell}
use Rattle.bit_history.proofs.Agreeing.{Agrees, Told, Given, Inside, agrees_told, left_given, listed, fit_both}
use Rattle.bit_history.proofs.Words.{Sound, word_shown}

module _ (bus : Bus) (s : Session) (m : List ℕ) (u : ℕ) where
  -- what is shown of a unit with an outcome and a history
  record Shown (o : UnitOutcome) (cs : List Numbered) : Type 0 where
    told : Told cs o.answer.wrote
    fits : Sound s.core → numbers_fit cs ≡ true
    given : Given cs m o.memory
    inside : Sound s.core → Inside cs m
    sound : Sound s.core → Sound o.answer.session.core

  -- a unit that is no whole word
  plain_shown : (q : Verdict) (reply : Reply) (t : Session) → (Sound s.core → Sound t.core) → Shown (plainly q reply t m) []
  unfolding numbers_fit
  plain_shown q reply t keeps =
      record { told = refl; fits = λ h. refl; given = refl; inside = λ h. tt; sound = keeps }

  abbrev word : ℕ
  word = pushed bus s.line.word u

  -- the unit by its five tests
  abbrev tested : Bool → Bool → Bool → Bool → Bool → UnitOutcome
  tested ended right start started short =
      pick ended (plainly refusal.Ended silence s m)
      (pick (not right) (plainly refusal.Memory silence s m)
      (pick start (plainly refusal.None (start_answer bus) (gathered s true s.line.have s.line.word) m)
      (pick (not started) (plainly refusal.None silence s m)
      (pick short (plainly refusal.None silence (gathered s true (s.line.have + 1) word) m)
      (carried s (word_step s.core m word))))))

  by_tests : (ended right start started short : Bool) → (right ≡ true → length m ≡ sum_of s.core.windows)
      → Shown (tested ended right start started short)
      (pick (not ended && right && not start && started && not short) (word_history s.core m word) [])
  unfolding pick carried
  by_tests true right start started short lent = plain_shown refusal.Ended silence s (λ h. h)
  by_tests false false start started short lent = plain_shown refusal.Memory silence s (λ h. h)
  by_tests false true true started short lent =
      plain_shown refusal.None (start_answer bus) (gathered s true s.line.have s.line.word) (λ h. h)
  by_tests false true false false short lent = plain_shown refusal.None silence s (λ h. h)
  by_tests false true false true true lent = plain_shown refusal.None silence (gathered s true (s.line.have + 1) word) (λ h. h)
  by_tests false true false true false lent =
      let shown = word_shown s.core m word in
      record {
        told = shown.told;
        fits = shown.fits;
        given = shown.given (lent refl);
        inside = λ h. shown.inside h (lent refl);
        sound = shown.sound;
      }

  unit_shown : Shown (unit_step bus s m u) (unit_history bus (record { session = s; memory = m }) u)
  unfolding unit_step ends_word
  unit_shown =
      by_tests s.core.ended (eqb (length m) (sum_of s.core.windows)) (is_start bus s u) s.line.started (ltb s.line.have (units_in_word bus - 1))
      (λ e. eqb-true _ _ e)

  -- so it stamps what its history stamps, and leaves what its history says
  abbrev listing : List Numbered
  listing = unit_history bus (record { session = s; memory = m }) u

  unit_agrees : Agrees (unit_step bus s m u).answer.wrote listing
  unit_agrees = agrees_told listing (unit_step bus s m u).answer.wrote unit_shown.told

  unit_left : LeftBy listing m (unit_step bus s m u).memory
  unit_left = left_given listing m (unit_step bus s m u).memory unit_shown.given

module _ (bus : Bus) where
  stamps_law : (places entries : List ℕ) (x : State) (units : List ℕ)
      → entries_after bus places entries x units ≡ stamped_all entries places (history bus x units)
  unfolding entries_after history stamped_all
  stamps_law places entries x [] = refl
  stamps_law places entries x (u ∷ us) =
      stamps_law places (unit_entries places entries bus x.session x.memory u) (next bus x u) us
      ∙ ap (λ (es : List ℕ). stamped_all es places (history bus (next bus x u) us))
      (unit_agrees bus x.session x.memory u entries places)
      ∙ sym (history_laws.stamped_on entries places (unit_history bus x u) (history bus (next bus x u) us))

  pub values_law : (x : State) (units : List ℕ) → LeftBy (history bus x units) x.memory (fed bus x units).memory
  unfolding history fed
  values_law x [] = left_given [] x.memory x.memory refl
  values_law x (u ∷ us) =
      let y : State = next bus x u in
      history_laws.left_on (unit_history bus x u) (history bus y us) x.memory y.memory (fed bus y us).memory
      (unit_left bus x.session x.memory u) (values_law y us)

  -- every opening gives a sound session
  abbrev Opens : Opened → Type 0
  Opens o = Sound o.session.core

  opened_sound : (dialect : Dialect) (count : ℕ) (windows : List Window) → Opens (opened_by bus dialect count windows)
  unfolding opened_by
  opened_sound dialect count windows = of_choice Opens _ (λ e. ((omega arith, omega arith), tt)) (λ e. ((omega arith, omega arith), tt))

  numbering_sound : (o : Opened) → Opens o → Opens (numbering_from o)
  unfolding numbering_from
  numbering_sound o h = of_choice Opens _ (λ e. ((omega arith, omega arith), h.1)) (λ e. h)

  opening_sound : (numbers : Bool) (dialect : Dialect) (count : ℕ) (windows : List Window) → Opens (opened_to numbers bus dialect count windows)
  unfolding pick
  opening_sound true dialect count windows = numbering_sound (opened_by bus dialect count windows) (opened_sound dialect count windows)
  opening_sound false dialect count windows = opened_sound dialect count windows

  reached_sound : (s : Session) → Reached bus s → Sound s.core
  reached_sound t (opened numbers dialect count windows) = opening_sound numbers dialect count windows
  reached_sound t (stepped {s} m u before) = (unit_shown bus s m u).sound (reached_sound s before)

  -- since an opening
  since_law : (places : List ℕ) (s : Session) (reached : Reached bus s)
      → entries_of places reached ≡ stamped_all (replicate (64 * length places) 0) places (history_of reached)
  unfolding entries_of history_of stamped_all
  since_law places t (opened numbers dialect count windows) = refl
  since_law places t (stepped {s} m u before) =
      let zeros : List ℕ = replicate (64 * length places) 0 in
      unit_agrees bus s m u (entries_of places before) places
      ∙ ap (λ (es : List ℕ). stamped_all es places (unit_history bus (record { session = s; memory = m }) u)) (since_law places s before)
      ∙ sym (history_laws.stamped_on zeros places (history_of before) (unit_history bus (record { session = s; memory = m }) u))

  fit_law : (s : Session) (reached : Reached bus s) → numbers_fit (history_of reached) ≡ true
  unfolding history_of numbers_fit
  fit_law t (opened numbers dialect count windows) = refl
  fit_law t (stepped {s} m u before) =
      fit_both (history_of before) (unit_history bus (record { session = s; memory = m }) u) (fit_law s before)
      ((unit_shown bus s m u).fits (reached_sound s before))

  -- units that are lent one memory
  more_law : (units : List ℕ) (x : State) (reached : Reached bus x.session)
      → history_of (fed_reached bus x units reached) ≡ history_of reached ++ history bus x units
  unfolding fed_reached history_of history
  more_law [] x reached = sym (append-nil (history_of reached))
  more_law (u ∷ us) x reached =
      more_law us (next bus x u) (stepped x.memory u reached) ∙ append_assoc (history_of reached) (unit_history bus x u) (history bus (next bus x u) us)

  more_entries_law : (units places : List ℕ) (x : State) (reached : Reached bus x.session)
      → entries_of places (fed_reached bus x units reached) ≡ entries_after bus places (entries_of places reached) x units
  unfolding fed_reached entries_of entries_after
  more_entries_law [] places x reached = refl
  more_entries_law (u ∷ us) places x reached = more_entries_law us places (next bus x u) (stepped x.memory u reached)

  pub units_tell : UnitsTell bus
  units_tell =
      record {
        stamps = stamps_law;
        stamps_since = since_law;
        fit = fit_law;
        told = λ s reached places j k h l.
            ap (λ (es : List ℕ). entry_at es j k) (since_law places s reached)
            ∙ history_laws.told places (history_of reached) (fit_law s reached) j k h l;
        more = λ x reached units. more_law units x reached;
        more_entries = λ places x reached units. more_entries_law units places x reached;
        unit = λ s reached m u.
            let shown = unit_shown bus s m u in
            listed (listing bus s m u) (unit_step bus s m u).answer.wrote m (unit_step bus s m u).memory shown.told shown.given
            (shown.inside (reached_sound s reached));
        values = values_law;
      }
