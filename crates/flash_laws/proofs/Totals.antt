-- The totals since an opening, by the law of a call: a call that goes forward counts a load or a fill in whole numbers and nothing else, one that goes back
-- counts a retry, and one that is refused keeps them. In AM17xx each part of the rules gives the same, whatever the totals are.
use Rattle.std.specs.Prelude.{Ok, Err}
use Prim.Native.Nat.{ℕ, ◌+◌, ◌≤◌}
use mathlib.Core.Bool.{Bool, true, false}
use mathlib.Core.List.{List, [], ◌∷◌}
use mathlib.Core.Path.{◌≡◌, refl, sym, ap, subst, ◌∙◌}
use native.Mathlib.Omega.{arith}
use borrow.Author.Tests.{eq-eqb, ne_eqb}
use Rattle.std.specs.declared.result.Result.{Result}
use Rattle.std.specs.declared.result.Result.TheVariants.{Ok, Err}
use Rattle.words.specs.rules.Choice.{pick}
use Rattle.words.proofs.Choice.{chosen, passed, of_choice}
use Rattle.windows.specs.declared.Window.{Window}
use Rattle.opcodes.specs.rules.Answers.{code_of, kind_of}
use Rattle.opcodes.specs.declared.Command.{Command}
use Rattle.opcodes.specs.declared.Command.TheVariants as command
use Rattle.opcodes.specs.declared.Dialect.{Dialect}
use Rattle.opcodes.specs.declared.Dialect.TheVariants.{Am17xx, Dm648}
use Rattle.opcodes.specs.declared.Known.{Known}
use Rattle.opcodes.specs.declared.Refusal.{Refusal}
use Rattle.ledger.specs.claims.Agreement.{plus, Zero}
use Rattle.ledger.specs.claims.Booked.{Room}
use Rattle.ledger.specs.rules.Totals.{nothing, at_opening, would_pass, differs, numbered_as, in_flash}
use Rattle.ledger.specs.declared.Happening.{Happening}
use Rattle.ledger.specs.declared.Happening.TheVariants as happened
use Rattle.ledger.specs.declared.Standing.{Standing}
use Rattle.ledger.specs.declared.Totals.{Totals}
use Rattle.ledger.proofs.Laws.{names_them, plus_none, plus_more, plus_one}
use Rattle.reading.specs.rules.Reading.{past_words, argument, read_at}
use Rattle.reading.specs.declared.Unread.{Unread}
use Rattle.commands.specs.rules.Commands.{load_judged, sought_from, Judged, Sought}
use Rattle.commands.specs.declared.Done.{Done}
use Rattle.commands.specs.declared.Wrote.{Wrote}
use Rattle.flash_commands.specs.claims.Ways.{named, happening, Way, forward, back, kept, Call}
use Rattle.flash_session.specs.rules.Opening.{opened_by}
use Rattle.flash_laws.specs.claims.Reached.{opened_to, Reached, opened, called}
use Rattle.flash_session.specs.rules.Sessions.{CallOutcome, go_to, with_totals, fetching, accepted_as, after}
use Rattle.flash_commands.specs.rules.Commands.{overflowing, sought_as, requested, entered}
use Rattle.flash.specs.rules.Step.{load_at, load_judged_as, performed, followed, step_of}
use Rattle.flash_laws.specs.claims.Totals.{Lent, answer_to, sizes_in, sizes_found, accepted_in, sizes_accepted}
use Rattle.flash_laws.specs.claims.Totals.{CountsAccepted, EntersOnTotals, untold, Am17xxHasNone}
use Rattle.flash_session.specs.declared.Called.{Called}
use Rattle.flash_session.specs.declared.Opened.{Opened}
use Rattle.flash_session.specs.declared.Session.{Session}
use Rattle.flash_laws.proofs.Calls.{every_call}
use Rattle.flash_laws.proofs.Reached.{opened_as}

-- what a command that goes forward leaves standing
module _ (s : Session) (size : ℕ) (dialect : s.dialect ≡ Dm648) where
  abbrev Stands : Command → Type 0
  Stands c =
      Room s.dialect s.totals (happening c size)
      → (in_flash s.dialect s.totals (happening c size)).now ≡ plus s.totals.now (sizes_in (happening c size))

  section_stands : would_pass s.dialect s.totals size ≡ false
      → (in_flash s.dialect s.totals (happened.Section size)).now ≡ plus s.totals.now (size ∷ [])
  section_stands fits = plus_one s.dialect s.totals size dialect fits

  command_stands : (c : Command) → Stands c
  command_stands command.Load fits = section_stands fits.0
  command_stands command.Fill fits = section_stands fits.0
  command_stands command.BootTable fits = plus_none s.totals.now
  command_stands command.Enable fits = plus_none s.totals.now
  command_stands command.Disable fits = plus_none s.totals.now
  command_stands command.Request fits = plus_none s.totals.now
  command_stands command.StartOver fits = plus_none s.totals.now
  command_stands command.JumpAndClose fits = plus_none s.totals.now
  command_stands command.Ping fits = plus_none s.totals.now
  command_stands command.SequentialRead fits = plus_none s.totals.now

-- one call without a retry
module _ (s : Session) (lent : Lent) where
  abbrev answer : Called
  answer = answer_to s lent

  abbrev call : Call s lent.image answer
  call = every_call s lent.memory lent.image

  -- no call takes a retry back
  never_fewer : s.retries ≤ answer.session.retries
  never_fewer = go call.way
    where
      go : Way s lent.image answer → s.retries ≤ answer.session.retries
      go (forward f) = omega (arith, f.retries)
      go (back b) = omega (arith, b.counted)
      go (kept k) = omega (arith, k.retries)

  call_stands : s.dialect ≡ Dm648 → answer.session.retries ≡ s.retries → answer.session.totals.now ≡ plus s.totals.now (accepted_in s lent)
  unfolding accepted_in
  call_stands dialect same = go call.way
    where
      go : Way s lent.image answer → answer.session.totals.now ≡ plus s.totals.now (accepted_in s lent)
      go (forward f) =
          let size = argument lent.image s.offset 1 in
          ap (λ (t : Totals). t.now) f.totals
          ∙ command_stands s size dialect f.command f.fits
          ∙ ap (plus s.totals.now)
          (sym (chosen _ _ _ (eq-eqb _ _ (ap code_of f.accepted)) ∙ ap (λ (found : Result Known Refusal). sizes_found found size) f.reads.row))
      go (back b) = absurd (omega (arith, b.counted))
      go (kept k) =
          ap (λ (t : Totals). t.now) k.totals ∙ plus_none s.totals.now
          ∙ ap (plus s.totals.now) (sym (passed _ _ _ (ne_eqb _ _ k.refused)))

-- the totals of an opening are 0, and no Request stands
abbrev Nothing : Totals → Type 0
Nothing t = Zero t × (t.asked ≡ false)

opened_zero : (dialect : Dialect) (count : ℕ) (windows : List Window) (image : List ℕ) (limit : ℕ)
    → Nothing (opened_by dialect count windows image limit).session.totals
unfolding opened_by
opened_zero dialect count windows image limit =
    let Opens : Opened → Type 0 = λ o. Nothing o.session.totals in
    of_choice Opens _ (λ e. ((refl, refl), refl))
    (λ e. of_choice Opens _ (λ e. ((refl, refl), refl)) (λ e. of_choice Opens _ (λ e. ((refl, refl), refl)) (λ e. ((refl, refl), refl))))

opening_zero : (numbers : Bool) (dialect : Dialect) (count : ℕ) (windows : List Window) (image : List ℕ) (limit : ℕ)
    → Nothing (opened_to numbers dialect count windows image limit).session.totals
opening_zero numbers dialect count windows image limit =
    opened_as (λ (o : Opened). Nothing o.session.totals) (λ o zero. zero) numbers dialect count windows image limit
    (opened_zero dialect count windows image limit)

-- any calls without one
reached_stands : {s : Session} (reached : Reached s) → s.dialect ≡ Dm648 → s.retries ≡ 0 → s.totals.now ≡ plus nothing (sizes_accepted reached)
unfolding sizes_accepted
reached_stands (opened numbers dialect count windows image limit) dm none =
    (opening_zero numbers dialect count windows image limit).0.0 ∙ plus_none nothing
reached_stands (called {s} given before) dm none =
    let lent : Lent = record { memory = given.memory; image = given.image } in
    let dialect : s.dialect ≡ Dm648 = sym (every_call s lent.memory lent.image).same_dialect ∙ dm in
    let none_before : s.retries ≡ 0 = omega (arith, never_fewer s lent, none) in
    call_stands s lent dialect (none ∙ sym none_before)
    ∙ ap (λ (now : Standing). plus now (accepted_in s lent)) (reached_stands before dialect none_before)
    ∙ plus_more nothing (sizes_accepted before) (accepted_in s lent)

pub counts_accepted : CountsAccepted
counts_accepted s reached dialect none = reached_stands reached dialect none

-- an entry goes forward, and 17 did not refuse it
pub enters_on_totals : EntersOnTotals
enters_on_totals s m image dialect enters = go (every_call s m image).way
  where
    go : Way s image (step_of s m image).answer → named s image ≡ s.totals.now
    go (forward f) =
        names_them s.totals.now (named s image) (subst (λ (d : Dialect). differs d s.totals (named s image) ≡ false) dialect (f.naming enters))
    go (back b) = absurd (omega (arith, enters, ap kind_of b.no_event))
    go (kept k) = absurd (omega (arith, enters, ap kind_of k.no_event))

-- what happens in AM17xx leaves totals of 0
zero_stays : (h : Happening) (t : Totals) → Nothing t → Nothing (in_flash Am17xx t h)
zero_stays (happened.Section size) t zero = zero
zero_stays happened.Setting t zero = zero
zero_stays happened.Enable t zero = ((zero.0.0, zero.0.0), refl)
zero_stays happened.Passed t zero = ((zero.0.0, zero.0.0), refl)
zero_stays happened.Retried t zero = ((zero.0.1, zero.0.1), refl)
zero_stays happened.Other t zero = zero

call_zero : {s : Session} {image : List ℕ} {a : Called} → s.dialect ≡ Am17xx → Nothing s.totals → Way s image a → Nothing a.session.totals
call_zero {s} {image} {a} dialect zero way = go way
  where
    stays : (h : Happening) → Nothing (in_flash s.dialect s.totals h)
    stays h = subst (λ (d : Dialect). Nothing (in_flash d s.totals h)) (sym dialect) (zero_stays h s.totals zero)

    go : Way s image a → Nothing a.session.totals
    go (forward f) = subst Nothing (sym f.totals) (stays (happening f.command (argument image s.offset 1)))
    go (back b) = subst Nothing (sym b.totals) (stays happened.Retried)
    go (kept k) = subst Nothing (sym k.totals) zero

reached_zero : {s : Session} → Reached s → s.dialect ≡ Am17xx → Nothing s.totals
reached_zero (opened numbers dialect count windows image limit) e = opening_zero numbers dialect count windows image limit
reached_zero (called {s} lent reached) e =
    let call = every_call s lent.memory lent.image in
    let before : s.dialect ≡ Am17xx = sym call.same_dialect ∙ e in
    call_zero before (reached_zero reached before) call.way

-- a session in a dialect, all else as it was
abbrev in_dialect : Session → Dialect → Session
in_dialect s dialect =
    record {
      windows = s.windows;
      ended = s.ended;
      on = s.on;
      checksum = s.checksum;
      offset = s.offset;
      length = s.length;
      limit = s.limit;
      retries = s.retries;
      fetched = s.fetched;
      dialect = dialect;
      totals = s.totals;
    }

-- a session of AM17xx with these totals
abbrev with_none : Session → Totals → Session
with_none s t = in_dialect (with_totals s t) Am17xx

-- two answers, and two outcomes, that differ in the totals alone
record AnswerAlike (a b : Called) : Type 0 where
  told : untold a ≡ untold b

record Alike (o p : CallOutcome) : Type 0 where
  answer : AnswerAlike o.answer p.answer
  memory : o.memory ≡ p.memory

alike_choice : (test : Bool) {o p q r : CallOutcome} → Alike o p → Alike q r → Alike (pick test o q) (pick test p r)
unfolding pick
alike_choice true first second = first
alike_choice false first second = second

answer_choice : (test : Bool) {a b c d : Called} → AnswerAlike a b → AnswerAlike c d → AnswerAlike (pick test a c) (pick test b d)
unfolding pick
answer_choice true first second = first
answer_choice false first second = second

entered_alike : {a b : Called} → AnswerAlike a b → AnswerAlike (entered a) (entered b)
entered_alike same = record { told = ap (λ (a : Called). untold (entered a)) same.told }

module _ (m image : List ℕ) (first second numbers : Totals) where
  abbrev t : Totals
  t = numbered_as first numbers

  abbrev u : Totals
  u = numbered_as second numbers

  -- what happens gives the same numbers
  happens_alike : (h : Happening) → numbered_as at_opening (in_flash Am17xx t h) ≡ numbered_as at_opening (in_flash Am17xx u h)
  happens_alike (happened.Section size) = refl
  happens_alike happened.Setting = refl
  happens_alike happened.Enable = refl
  happens_alike happened.Passed = refl
  happens_alike happened.Retried = refl
  happens_alike happened.Other = refl

  module _ (s : Session) where
    after_alike : (h : Happening) (wrote : Wrote) (done : Done) (n : ℕ)
        → AnswerAlike (after (with_none s t) h wrote done n) (after (with_none s u) h wrote done n)
    unfolding after
    after_alike h wrote done n =
        answer_choice _
        (record {
          told = ap (λ (v : Totals). untold (accepted_as (with_none s v) happened.Other wrote done.event (go_to (with_none s v) done.checksum n)))
              (happens_alike h);
        })
        (record { told = refl })

    load_alike : (next address size : ℕ) (judged : Judged)
        → Alike (load_judged_as (with_none s t) m image next address size judged) (load_judged_as (with_none s u) m image next address size judged)
    unfolding load_at
    load_alike next address size (Ok place) =
        alike_choice _ (record { answer = record { told = refl }; memory = refl })
        (alike_choice _ (record { answer = record { told = refl }; memory = refl }) (record { answer = record { told = refl }; memory = refl }))
    load_alike next address size (Err q) = record { answer = record { told = refl }; memory = refl }

    sought_alike : (led : Sought) → AnswerAlike (sought_as (with_none s t) led) (sought_as (with_none s u) led)
    sought_alike (Ok offset) = record { told = refl }
    sought_alike (Err q) = record { told = refl }

    request_alike : (next expected seek : ℕ) → AnswerAlike (requested (with_none s t) next expected seek) (requested (with_none s u) next expected seek)
    unfolding requested
    request_alike next expected seek =
        answer_choice _ (record { told = refl }) (answer_choice _ (record { told = refl }) (sought_alike (sought_from s.offset seek)))

    performed_alike : (c : Command) (next : ℕ) → Alike (performed c next (with_none s t) m image) (performed c next (with_none s u) m image)
    performed_alike command.Load next =
        load_alike next (argument image s.offset 0) (argument image s.offset 1)
        (overflowing (with_none s t) (argument image s.offset 1) (load_judged s.windows (argument image s.offset 0) (argument image s.offset 1)))
    performed_alike command.Fill next = record { answer = after_alike _ _ _ _; memory = refl }
    performed_alike command.BootTable next = record { answer = after_alike _ _ _ _; memory = refl }
    performed_alike command.Enable next = record { answer = record { told = refl }; memory = refl }
    performed_alike command.Disable next = record { answer = record { told = refl }; memory = refl }
    performed_alike command.Request next = record { answer = request_alike _ _ _; memory = refl }
    performed_alike command.StartOver next = record { answer = record { told = refl }; memory = refl }
    performed_alike command.JumpAndClose next = record { answer = entered_alike (after_alike _ _ _ _); memory = refl }
    performed_alike command.Ping next = record { answer = record { told = refl }; memory = refl }
    performed_alike command.SequentialRead next = record { answer = record { told = refl }; memory = refl }

  followed_alike : (s : Session) (r : Result Known Unread) → Alike (followed (with_none s t) m image r) (followed (with_none s u) m image r)
  followed_alike s (Err said) = record { answer = record { told = refl }; memory = refl }
  followed_alike s (Ok f) = performed_alike (fetching (1 + f.words) s) f.command (past_words s.offset f.words)

  step_alike : (s : Session) → Alike (step_of (with_none s t) m image) (step_of (with_none s u) m image)
  unfolding step_of
  step_alike s =
      alike_choice _ (record { answer = record { told = refl }; memory = refl })
      (alike_choice _ (record { answer = record { told = refl }; memory = refl })
      (alike_choice _ (record { answer = record { told = refl }; memory = refl }) (followed_alike s (read_at image s.offset Am17xx))))

pub am17xx_has_none : Am17xxHasNone
am17xx_has_none =
    record {
      zero = λ s reached e. reached_zero reached e;
      unseen = λ s t m image e.
          let same = step_alike m image t s.totals s.totals s in
          let other-totals : Totals = numbered_as t s.totals in
          let there : with_none s s.totals ≡ s = ap (in_dialect s) (sym e) in
          let other : with_none s other-totals ≡ with_totals s other-totals = ap (in_dialect (with_totals s other-totals)) (sym e) in (
            ap (λ (x : Session). untold (step_of x m image).answer) (sym other) ∙ same.answer.told
                ∙ ap (λ (x : Session). untold (step_of x m image).answer) there,
            ap (λ (x : Session). (step_of x m image).memory) (sym other) ∙ same.memory ∙ ap (λ (x : Session). (step_of x m image).memory) there,
          );
    }
