-- A call beside the same call without the numbers: each part of the rules gives the same, or 25 where the other accepts a command that takes a number. So a
-- session that has none, which is its own session without them, goes on to have none.
use Rattle.std.specs.Prelude.{Some, Ok, Err}
use Prim.Native.Nat.{ℕ, ◌+◌}
use mathlib.Core.Bool.{Bool, true, false, not, false≢true, true≢false}
use mathlib.Core.List.{List, [], ◌∷◌}
use mathlib.Core.Logic.{◌≢◌}
use mathlib.Core.Path.{◌≡◌, refl, sym, ap, subst, ◌∙◌}
use lib.Dec.{eqb, leb}
use borrow.Author.Tests.{eq-eqb, ne_eqb}
use Rattle.std.specs.declared.result.Result.{Result}
use Rattle.std.specs.declared.result.Result.TheVariants.{Ok, Err}
use Rattle.words.specs.rules.Bytes.{word_at}
use Rattle.words.specs.rules.Choice.{pick}
use Rattle.words.proofs.Choice.{of_choice}
use Rattle.checksum.specs.rules.Checksum.{fed_words}
use Rattle.windows.specs.declared.Window.{Window}
use Rattle.opcodes.specs.rules.Answers.{accepted, code_of}
use Rattle.opcodes.specs.rules.Opcodes.{looked_up}
use Rattle.opcodes.specs.declared.Command.{Command}
use Rattle.opcodes.specs.declared.Command.TheVariants as command
use Rattle.opcodes.specs.declared.Dialect.{Dialect}
use Rattle.opcodes.specs.declared.Event.{Event}
use Rattle.opcodes.specs.declared.Event.TheVariants as event
use Rattle.opcodes.specs.declared.Mode.TheVariants.{Flash}
use Rattle.opcodes.specs.declared.Refusal.TheVariants as why
use Rattle.opcodes.specs.rules.Refusals as refusal
use Rattle.opcodes.specs.declared.Known.{Known}
use Rattle.opcodes.specs.declared.Refusal.{Refusal}
use Rattle.opcodes.proofs.Looked.{Looked, of_row, of_none, of_retired, looked}
use Rattle.ledger.specs.claims.Agreement.{KeepsNone, HasNumbers}
use Rattle.ledger.specs.rules.Totals.{from_one, standing, counted, differs, is_spent, in_flash}
use Rattle.ledger.specs.declared.Happening.{Happening}
use Rattle.ledger.specs.declared.Happening.TheVariants as happened
use Rattle.ledger.specs.declared.Standing.{Standing}
use Rattle.ledger.specs.declared.Totals.{Totals}
use Rattle.ledger.proofs.Agreement.{never_numbers, numbers_stay}
use Rattle.reading.specs.rules.Reading.{present, words_from, past_words, argument, data_words, read_as, read_at, unread}
use Rattle.reading.specs.declared.Unread.{Unread}
use Rattle.commands.specs.rules.Commands.{barred, done_if, load_judged, fill_judged, fill_done, fill_memory, setting_judged, setting_done, setting_memory}
use Rattle.commands.specs.rules.Commands.{entry_judged}
use Rattle.commands.specs.rules.Commands.{close_done, sought_from, Judged, Sought}
use Rattle.commands.specs.rules.Wrote.{none_wrote, bytes_wrote, setting_wrote}
use Rattle.commands.specs.declared.Done.{Done}
use Rattle.commands.specs.declared.Wrote.{Wrote}
use Rattle.commands.proofs.Judging.{Passes, barred_passes, load_passes, fill_passes, setting_passes, entry_passes}
use Rattle.flash_session.specs.rules.Opening.{opened_by, numbering_from}
use Rattle.flash_laws.specs.claims.Reached.{Reached, opened, called, opening_of, numbering as is_numbering}
use Rattle.flash_laws.proofs.Calls.{every_call}
use Rattle.flash_session.specs.rules.Sessions.{CallOutcome, ◌leaving◌, go_to, with_totals, fetching, stopped, accepted_as, after}
use Rattle.flash_commands.specs.claims.Ways.{happening, Way, forward, back, kept}
use Rattle.flash_commands.specs.rules.Commands.{overflowing, out_of_numbers, fill_judged_as, fill_of, setting_of, sought_as, requested, entered, closed}
use Rattle.flash.specs.rules.Step.{load_done, load_at, load_judged_as, load_of, performed, followed, step_of}
use Rattle.flash_session.specs.declared.Called.{Called}
use Rattle.flash_session.specs.declared.Opened.{Opened}
use Rattle.flash_session.specs.declared.Session.{Session}
use Rattle.law_numbering.specs.claims.InFlash.{plain, plainly, plain_outcome, takes_found, OutOfNumbers, InFlash}
use Rattle.law_numbering.specs.claims.LeftOut.{unnumbered, by_any, takes}
use Rattle.law_numbering.proofs.Common.{none_left, passes_alike, differs_alike, counted_alike, numbered_alike, bytes_alike, setting_alike, Other, OtherRefusal, other}
use Rattle.law_numbering.proofs.Common.{each_other, none_not}

-- an answer without the numbers, and what is given beside it
record Same (a b : Called) : Type 0 where
  told : plainly a ≡ b

data Beside (spent takes_one : Bool) (o p : CallOutcome) : Type 0 where
  same : code_of o.answer.refusal ≢ 25 → plain_outcome o ≡ p → (spent ≡ true → takes_one ≡ true → code_of o.answer.refusal ≢ 0)
      → Beside spent takes_one o p
  lacks : o.answer.refusal ≡ refusal.Number → spent ≡ true → takes_one ≡ true → p.answer.refusal ≡ refusal.None → Beside spent takes_one o p

choice : {spent takes_one : Bool} (t : Bool) {o p q r : CallOutcome} → Beside spent takes_one o p → Beside spent takes_one q r
    → Beside spent takes_one (pick t o q) (pick t p r)
unfolding pick
choice true first second = first
choice false first second = second

answer_choice : (t : Bool) {a b c d : Called} → Same a b → Same c d → Same (pick t a c) (pick t b d)
unfolding pick
answer_choice true first second = first
answer_choice false first second = second

-- a refusal that is not 25, and what takes no number
refused : {spent takes_one : Bool} {o p : CallOutcome} → Other o.answer.refusal → plain_outcome o ≡ p → Beside spent takes_one o p
refused q e = same q.not_25 e (λ s t. q.refuses)

free : {spent : Bool} {o p : CallOutcome} → code_of o.answer.refusal ≢ 25 → plain_outcome o ≡ p → Beside spent false o p
free n e = same n e (λ s t. absurd (false≢true t))

-- what is accepted where a number is left
numbering : (t : Bool) (o p q : CallOutcome) → o.answer.refusal ≡ refusal.Number → plain_outcome q ≡ p → q.answer.refusal ≡ refusal.None
    → Beside t true (pick t o q) p
unfolding pick
numbering true o p q number e free = lacks number refl refl (ap (λ (x : CallOutcome). x.answer.refusal) (sym e) ∙ free)
numbering false o p q number e free = same (λ n. none_not (sym (ap code_of free) ∙ n)) e (λ s t. absurd (false≢true s))

-- an answer with other totals
abbrev retold : Called → Totals → Called
retold a t = record { refusal = a.refusal; event = a.event; at = a.at; session = with_totals a.session t; wrote = a.wrote }

happens_alike : (d : Dialect) (t : Totals) (h : Happening) → unnumbered (in_flash d t h) ≡ in_flash d (unnumbered t) h
happens_alike d t (happened.Section size) = counted_alike d t size
happens_alike d t happened.Setting = numbered_alike t
happens_alike d t happened.Enable = refl
happens_alike d t happened.Passed = refl
happens_alike d t happened.Retried = refl
happens_alike d t happened.Other = refl

module _ (s : Session) where
  after_plain : (h : Happening) (wrote : Wrote) (done : Done) (n : ℕ) → Same (after s h wrote done n) (after (plain s) h (by_any wrote) done n)
  unfolding after
  after_plain h wrote done n =
      answer_choice (eqb (code_of done.refusal) 0)
      (record {
        told = ap (retold (accepted_as (plain s) h (by_any wrote) done.event (go_to (plain s) done.checksum n))) (happens_alike s.dialect s.totals h);
      })
      (record { told = refl })

  after_refused : (h : Happening) (wrote : Wrote) (done : Done) (n : ℕ) → Other done.refusal → Other (after s h wrote done n).refusal
  unfolding after
  after_refused h wrote done n q = of_choice (λ (a : Called). Other a.refusal) _ (λ e. absurd (true≢false (sym e ∙ ne_eqb _ _ q.refuses))) (λ e. q)

  after_not : (h : Happening) (wrote : Wrote) (done : Done) (n : ℕ) → code_of done.refusal ≢ 25 → code_of (after s h wrote done n).refusal ≢ 25
  unfolding after
  after_not h wrote done n p = of_choice (λ (a : Called). code_of a.refusal ≢ 25) _ (λ e. none_not) (λ e. p)

done_not : (judged : Judged) (checksum fed : ℕ) (told : Event) → Passes OtherRefusal judged → code_of (done_if judged checksum told fed).refusal ≢ 25
done_not (Ok place) checksum fed told p = none_not
done_not (Err q) checksum fed told p = p.not_25

-- a fill and a setting, by what they do where they are granted
module _ (s : Session) (h : Happening) (wrote : Judged → ℕ → Wrote) (alike : (judged : Judged) (number : ℕ) → by_any (wrote judged number) ≡ wrote judged 0)
    (memory : Judged → List ℕ) (told : Event) (fed next : ℕ) where
  abbrev written : Session → Judged → CallOutcome
  written x judged = after x h (wrote judged x.totals.next) (done_if judged s.checksum told fed) next leaving memory judged

  written_plain : (judged : Judged) → plain_outcome (written s judged) ≡ written (plain s) judged
  written_plain judged =
      ap (λ (a : Called). a leaving memory judged)
      ((after_plain s h (wrote judged s.totals.next) (done_if judged s.checksum told fed) next).told
      ∙ ap (λ (w : Wrote). after (plain s) h w (done_if judged s.checksum told fed) next) (alike judged s.totals.next))

  written_granted : (place : ℕ) (t : Bool) → Beside t true (written s (pick t (Err why.Number) (Ok place))) (written (plain s) (Ok place))
  unfolding after pick
  written_granted place true = lacks refl refl refl refl
  written_granted place false = same none_not (written_plain (Ok place)) (λ s t. absurd (false≢true s))

  written_beside : (judged : Judged) → Passes OtherRefusal judged
      → Beside (is_spent s.totals) true (written s (out_of_numbers s judged)) (written (plain s) (out_of_numbers (plain s) judged))
  unfolding pick
  written_beside (Ok place) p = written_granted place (is_spent s.totals)
  written_beside (Err q) p = refused (after_refused s h _ (record { refusal = Some q; event = event.Nothing; checksum = s.checksum }) next p)
      (written_plain (Err q))

module _ (m image : List ℕ) where
  module _ (s : Session) where
    load_plain : (next address size place : ℕ) → plain_outcome (load_done s m image next address size place)
        ≡ load_done (plain s) m image next address size place
    load_plain next address size place =
        let whole : CallOutcome = load_done (plain s) m image next address size place in
        ap (λ (t : Totals). retold whole.answer t leaving whole.memory) (counted_alike s.dialect s.totals size)

    load_beside : (next address size : ℕ) (judged : Judged) → Passes OtherRefusal judged
        → Beside (is_spent s.totals) true (load_judged_as s m image next address size judged) (load_judged_as (plain s) m image next address size judged)
    unfolding load_at pick
    load_beside next address size (Ok place) p =
        choice (not (present image next (data_words size))) (refused (other refusal.Missing refl refl) refl)
        (numbering (is_spent s.totals) (stopped refusal.Number s leaving m) (load_done (plain s) m image next address size place)
        (load_done s m image next address size place) refl
        (load_plain next address size place) refl)
    load_beside next address size (Err q) p = refused p refl

    -- 18 is given alike
    section_passes : (size : ℕ) (judged : Judged) → Passes OtherRefusal judged → Passes OtherRefusal (overflowing s size judged)
    section_passes size judged p = barred_passes OtherRefusal _ why.Overflow judged (other refusal.Overflow refl refl) p

    load-judged : (next address size : ℕ) → Beside (is_spent s.totals) true
        (load_of s m image next address size) (load_of (plain s) m image next address size)
    load-judged next address size =
        let judged : Judged = load_judged s.windows address size in
        subst
        (λ (t : Bool). Beside (is_spent s.totals) true (load_judged_as s m image next address size (overflowing s size judged))
        (load_judged_as (plain s) m image next address size (barred t why.Overflow judged)))
        (passes_alike s.dialect s.totals size)
        (load_beside next address size (overflowing s size judged) (section_passes size judged (load_passes OtherRefusal each_other s.windows address size)))

    fill-judged : (next address size kind pattern : ℕ) → Beside (is_spent s.totals) true
        (fill_of s m next address size kind pattern) (fill_of (plain s) m next address size kind pattern)
    unfolding fill_done
    fill-judged next address size kind pattern =
        let judged : Judged = fill_judged s.windows address size kind in
        subst
        (λ (t : Bool). Beside (is_spent s.totals) true (fill_judged_as s m next address size kind pattern (out_of_numbers s (overflowing s size judged)))
        (fill_judged_as (plain s) m next address size kind pattern (out_of_numbers (plain s) (barred t why.Overflow judged))))
        (passes_alike s.dialect s.totals size)
        (written_beside s (happened.Section size) (λ j n. bytes_wrote j size n) (λ j n. bytes_alike j size n) (λ j. fill_memory j m size kind pattern)
        event.Nothing
        (pick s.on (fed_words s.checksum (address ∷ size ∷ kind ∷ pattern ∷ [])) s.checksum) next (overflowing s size judged)
        (section_passes size judged (fill_passes OtherRefusal each_other s.windows address size kind)))

    setting-judged : (next word address value delay : ℕ) → Beside (is_spent s.totals) true
        (setting_of s m next word address value delay) (setting_of (plain s) m next word address value delay)
    unfolding setting_done
    setting-judged next word address value delay =
        written_beside s happened.Setting (λ j n. setting_wrote j word n) (λ j n. setting_alike j word n) (λ j. setting_memory j m word value)
        (event.Wait delay) s.checksum next
        (setting_judged s.windows word address value) (setting_passes OtherRefusal each_other s.windows word address value)

    -- a Request, and a close
    sought_same : (led : Sought) → Same (sought_as s led) (sought_as (plain s) led)
    sought_same (Ok offset) = record { told = refl }
    sought_same (Err q) = record { told = refl }

    request_same : (next expected seek : ℕ) → Same (requested s next expected seek) (requested (plain s) next expected seek)
    unfolding requested
    request_same next expected seek =
        answer_choice (eqb expected s.checksum) (record { told = refl })
        (answer_choice (leb s.limit s.retries) (record { told = refl }) (sought_same (sought_from s.offset seek)))

    sought_not : (request seek : ℕ) → code_of (sought_as s (sought_from request seek)).refusal ≢ 25
    unfolding sought_from
    sought_not request seek =
        of_choice (λ (led : Sought). code_of (sought_as s led).refusal ≢ 25) _ (λ e. none_not) (λ e. (other refusal.Seek refl refl).not_25)

    request_not : (next expected seek : ℕ) → code_of (requested s next expected seek).refusal ≢ 25
    unfolding requested
    request_not next expected seek =
        let Not : Called → Type 0 = λ a. code_of a.refusal ≢ 25 in
        of_choice Not _ (λ e. none_not) (λ e. of_choice Not _ (λ e. (other refusal.Checksum refl refl).not_25) (λ e. sought_not s.offset seek))

    close_beside : (next address sections bytes : ℕ)
        → Beside (is_spent s.totals) false (closed s next address sections bytes leaving m) (closed (plain s) next address sections bytes leaving m)
    unfolding close_done
    close_beside next address sections bytes =
        let totals : Standing = standing sections bytes in
        let at : Bool → Judged = λ t. barred t why.Totals (entry_judged s.windows address) in
        let done_by : Bool → Done = λ t. done_if (at t) s.checksum (event.Enter address) s.checksum in
        let differ : Bool = differs s.dialect s.totals totals in
        free
        (after_not s happened.Other none_wrote (done_by differ) next
        (done_not (at differ) s.checksum s.checksum (event.Enter address)
        (barred_passes OtherRefusal differ why.Totals (entry_judged s.windows address) (other refusal.Totals refl refl)
        (entry_passes OtherRefusal each_other s.windows address))))
        (ap (λ (a : Called). entered a leaving m)
        ((after_plain s happened.Other none_wrote (done_by differ) next).told
        ∙ ap (λ (t : Bool). after (plain s) happened.Other none_wrote (done_by t) next) (differs_alike s.dialect s.totals totals)))

    performed_beside : (c : Command) (next : ℕ) → Beside (is_spent s.totals) (takes c) (performed c next s m image) (performed c next (plain s) m image)
    performed_beside command.Load next = load-judged next (argument image s.offset 0) (argument image s.offset 1)
    performed_beside command.Fill next = fill-judged next (argument image s.offset 0) (argument image s.offset 1) (argument image s.offset 2)
        (argument image s.offset 3)
    performed_beside command.BootTable next = setting-judged next (argument image s.offset 0) (argument image s.offset 1) (argument image s.offset 2)
        (argument image s.offset 3)
    performed_beside command.Enable next = free none_not refl
    performed_beside command.Disable next = free none_not refl
    performed_beside command.Request next =
        free (request_not next (argument image s.offset 0) (argument image s.offset 1))
        (ap (λ (a : Called). a leaving m) (request_same next (argument image s.offset 0) (argument image s.offset 1)).told)
    performed_beside command.StartOver next = free (other refusal.Opcode refl refl).not_25 refl
    performed_beside command.JumpAndClose next = close_beside next (argument image s.offset 0) (argument image s.offset 1) (argument image s.offset 2)
    performed_beside command.Ping next = free (other refusal.Opcode refl refl).not_25 refl
    performed_beside command.SequentialRead next = free none_not refl

  -- what is read where words are missing, and the command
  read_choice : {takes_one : Bool} (s : Session) (t : Bool) (n : ℕ) (r : Result Known Unread)
      → Beside (is_spent s.totals) takes_one (followed s m image r) (followed (plain s) m image r)
      → Beside (is_spent s.totals) takes_one (followed s m image (pick t (Err (unread why.Missing n)) r))
      (followed (plain s) m image (pick t (Err (unread why.Missing n)) r))
  unfolding pick
  read_choice s true n r beside = refused (other refusal.Missing refl refl) refl
  read_choice s false n r beside = beside

  row_beside : (s : Session) {found : Result Known Refusal} → Looked found
      → Beside (is_spent s.totals) (takes_found found) (followed s m image (read_as image s.offset found))
      (followed (plain s) m image (read_as image s.offset found))
  row_beside s of_none = refused (other refusal.Opcode refl refl) refl
  row_beside s of_retired = refused (other refusal.Retired refl refl) refl
  row_beside s (of_row f) =
      read_choice s (not (present image s.offset (1 + f.words))) (words_from image s.offset) (Ok f)
      (performed_beside (fetching (1 + f.words) s) f.command (past_words s.offset f.words))

  step_beside : (s : Session)
      → Beside (is_spent s.totals) (takes_found (looked_up (word_at image s.offset) Flash s.dialect)) (step_of s m image) (step_of (plain s) m image)
  unfolding step_of read_at
  step_beside s =
      choice _ (refused (other refusal.Ended refl refl) refl)
      (choice _ (refused (other refusal.Memory refl refl) refl)
      (choice _ (refused (other refusal.Image refl refl) refl)
      (read_choice s _ 0 _ (row_beside s (looked (word_at image s.offset) Flash s.dialect)))))

-- the laws
module _ (s : Session) (m image : List ℕ) where
  abbrev taken : Bool
  taken = takes_found (looked_up (word_at image s.offset) Flash s.dialect)

  step_same : code_of (step_of s m image).answer.refusal ≢ 25 → plain_outcome (step_of s m image) ≡ step_of (plain s) m image
  step_same other = go (step_beside m image s)
    where
      go : Beside (is_spent s.totals) taken (step_of s m image) (step_of (plain s) m image) → plain_outcome (step_of s m image) ≡ step_of (plain s) m image
      go (same n e f) = e
      go (lacks number spent takes_one accepted) = absurd (other (ap code_of number))

  step_only : code_of (step_of s m image).answer.refusal ≡ 25 → OutOfNumbers s m image
  step_only is = go (step_beside m image s)
    where
      go : Beside (is_spent s.totals) taken (step_of s m image) (step_of (plain s) m image) → OutOfNumbers s m image
      go (same n e f) = absurd (n is)
      go (lacks number spent takes_one accepted) = record { spent = spent; takes_one = takes_one; accepted = accepted }

  step_spent : OutOfNumbers s m image → (step_of s m image).answer.refusal ≡ refusal.Number
  step_spent out = go (step_beside m image s)
    where
      go : Beside (is_spent s.totals) taken (step_of s m image) (step_of (plain s) m image) → (step_of s m image).answer.refusal ≡ refusal.Number
      go (same n e f) =
          absurd (f out.spent out.takes_one (ap code_of (ap (λ (o : CallOutcome). o.answer.refusal) e ∙ out.accepted)))
      go (lacks number spent takes_one accepted) = number

  -- a session that keeps no numbers is itself without them
  none_never : KeepsNone s.totals → code_of (step_of s m image).answer.refusal ≢ 25
  none_never none is = true≢false (sym (step_only is).spent ∙ never_numbers.passes s.totals none)

  none_stays : KeepsNone s.totals → KeepsNone (step_of s m image).answer.session.totals
  none_stays none =
      let here : plain s ≡ s = ap (with_totals s) (none_left s.totals none) in
      let whole : plain_outcome (step_of s m image) ≡ step_of s m image = step_same (none_never none) ∙ ap (λ (x : Session). step_of x m image) here in (
        sym (ap (λ (o : CallOutcome). o.answer.session.totals.next) whole),
        sym (ap (λ (o : CallOutcome). o.answer.session.totals.back) whole),
      )

opened_none : (dialect : Dialect) (count : ℕ) (windows : List Window) (image : List ℕ) (limit : ℕ)
    → KeepsNone (opened_by dialect count windows image limit).session.totals
unfolding opened_by
opened_none dialect count windows image limit =
    let None : Opened → Type 0 = λ o. KeepsNone o.session.totals in
    of_choice None _ (λ e. (refl, refl)) (λ e. of_choice None _ (λ e. (refl, refl)) (λ e. of_choice None _ (λ e. (refl, refl)) (λ e. (refl, refl))))

reached_none : {s : Session} (reached : Reached s) → is_numbering reached ≡ false → KeepsNone s.totals
unfolding pick
reached_none (opened true dialect count windows image limit) e = absurd (true≢false e)
reached_none (opened false dialect count windows image limit) e = opened_none dialect count windows image limit
reached_none (called {s} lent reached) e = none_stays s lent.memory lent.image (reached_none reached e)

-- a session that has them goes on so
happens_some : (dialect : Dialect) (t : Totals) (h : Happening) → HasNumbers t → HasNumbers (in_flash dialect t h)
happens_some dialect t (happened.Section size) some = numbers_stay.numbering (counted dialect t size) (numbers_stay.counting dialect t size some)
happens_some dialect t happened.Setting some = numbers_stay.numbering t some
happens_some dialect t happened.Enable some = numbers_stay.turning t command.Enable some
happens_some dialect t happened.Passed some = numbers_stay.turning t command.Enable some
happens_some dialect t happened.Retried some = numbers_stay.turning t command.StartOver some
happens_some dialect t happened.Other some = some

way_some : {s : Session} {image : List ℕ} {a : Called} → HasNumbers s.totals → Way s image a → HasNumbers a.session.totals
way_some {s} {image} {a} some (forward f) =
    subst HasNumbers (sym f.totals) (happens_some s.dialect s.totals (happening f.command (argument image s.offset 1)) some)
way_some {s} {image} {a} some (back b) = subst HasNumbers (sym b.totals) (happens_some s.dialect s.totals happened.Retried some)
way_some {s} {image} {a} some (kept k) = subst HasNumbers (sym k.totals) some

abbrev SomeIf : Opened → Type 0
SomeIf o = o.refusal ≡ refusal.None → HasNumbers o.session.totals

numbering_some : (o : Opened) → SomeIf (numbering_from o)
unfolding numbering_from
numbering_some o =
    of_choice SomeIf (accepted o.refusal) {a = record { refusal = o.refusal; session = with_totals o.session (from_one o.session.totals) }} {b = o}
    (λ h e. numbers_stay.opening o.session.totals) (λ stopped e. absurd (false≢true (sym stopped ∙ eq-eqb _ _ (ap code_of e))))

reached_some : {s : Session} (reached : Reached s) → is_numbering reached ≡ true → (opening_of reached).refusal ≡ refusal.None → HasNumbers s.totals
unfolding pick
reached_some (opened true dialect count windows image limit) e sound = numbering_some (opened_by dialect count windows image limit) sound
reached_some (opened false dialect count windows image limit) e sound = absurd (false≢true e)
reached_some (called {s} lent reached) e sound = way_some (reached_some reached e sound) (every_call s lent.memory lent.image).way

pub in-flash : InFlash
in-flash =
    record {
      none = λ s reached e. reached_none reached e;
      never = λ s m image reached e. none_never s m image (reached_none reached e);
      some = λ s reached e sound. reached_some reached e sound;
      same = step_same;
      spent = step_spent;
      only = step_only;
    }
