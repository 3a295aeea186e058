-- Each call goes one of its ways: forward it is what its command is to the totals, back it is a seek, refused it is nothing. And a command that is accepted was
-- granted, so that the history has it once, by the next number.
use Rattle.opcodes.specs.declared.Refusal.TheVariants as why
use Rattle.std.specs.Prelude.{Err}
use Prim.Native.Nat.{ℕ, ◌+◌}
use mathlib.Core.Bool.{Bool, true, false, not, ◌&&◌, true≢false, false≢true}
use mathlib.Core.List.{List, [], ◌∷◌, ◌++◌}
use mathlib.Core.Path.{◌≡◌, refl, sym, ap, ap₂, subst, ◌∙◌}
use native.Mathlib.Omega.{arith}
use lib.Dec.{ltb, eqb}
use lib.ListN.{length}
use borrow.Author.Tests.{lt-ltb, le-ltb, eq-eqb, ne_eqb, eqb-true}
use Rattle.std.specs.declared.result.Result.{Result}
use Rattle.std.specs.declared.result.Result.TheVariants.{Ok}
use Rattle.words.specs.rules.Bytes.{word_at, bytes_at}
use Rattle.words.specs.rules.Choice.{pick}
use Rattle.words.proofs.Choice.{chosen, passed, by_test, of_choice}
use Rattle.windows.specs.rules.Map.{good_map, kept_of}
use Rattle.windows.specs.rules.Window.{sum_of}
use Rattle.windows.specs.declared.Window.{Window}
use Rattle.opcodes.specs.rules.Answers.{code_of, accepted}
use Rattle.opcodes.specs.rules.Opcodes.{looked_up, with_words}
use Rattle.opcodes.specs.declared.Command.{Command}
use Rattle.opcodes.specs.declared.Command.TheVariants as command
use Rattle.opcodes.specs.declared.Dialect.{Dialect}
use Rattle.opcodes.specs.declared.Dialect.TheVariants.{Am17xx, Dm648}
use Rattle.opcodes.specs.declared.Mode.TheVariants.{Flash}
use Rattle.opcodes.specs.rules.Refusals as refusal
use Rattle.opcodes.proofs.Counts.{row_is, row-is}
use Rattle.opcodes.specs.declared.Known.{Known}
use Rattle.opcodes.specs.declared.Refusal.{Refusal}
use Rattle.ledger.specs.rules.Totals.{at_opening, from_one, would_pass, is_spent}
use Rattle.ledger.specs.claims.Account.{Act, Account, numbers_told}
use Rattle.ledger.specs.claims.Account as the-account
use Rattle.ledger.specs.claims.Booked.{standing_of, next_of, totals_of, Leads, happened_act}
use Rattle.ledger.specs.declared.Happening.{Happening}
use Rattle.ledger.specs.declared.Happening.TheVariants as happened
use Rattle.ledger.specs.declared.Totals.{Totals}
use Rattle.ledger.proofs.Booked.{none_booked, happened_booked}
use Rattle.reading.specs.rules.Reading.{past_words, argument}
use Rattle.reading.proofs.Reading.{Reads as ReadsAs, no_opcode, unknown, retired, cut_short, whole, reads as how-read}
use Rattle.reading.specs.declared.Unread.{Unread}
use Rattle.commands.specs.rules.Commands.{barred, unit_of, fill_done, shape_of, setting_done, Judged}
use Rattle.commands.specs.declared.Done.{Done}
use Rattle.commands.specs.declared.Wrote.{Wrote}
use Rattle.law_effects.specs.claims.Effects.{Effect, load_effect, fill_effect, setting_effect}
use Rattle.flash_session.specs.rules.Opening.{good_length, magic, refused_by, begun, opened_by, numbering_from}
use Rattle.flash_session.specs.rules.Sessions.{CallOutcome, fetching, after}
use Rattle.flash_session.specs.declared.Called.{Called}
use Rattle.flash_session.specs.declared.Opened.{Opened}
use Rattle.flash_session.specs.declared.Session.{Session}
use Rattle.flash_commands.specs.rules.Commands.{fill_judged_as, setting_judged_as}
use Rattle.flash_commands.specs.claims.Ways.{happening, Way, forward, back, kept}
use Rattle.flash_commands.proofs.Verdicts.{Judges, grants, denies, load_judges, fill_judges, setting_judges}
use Rattle.flash.specs.rules.Step.{load_judged_as, performed, followed, step_of}
use Rattle.flash_laws.specs.claims.Reached.{opened_to, Reached, opened, called}
use Rattle.flash_laws.specs.claims.Totals.{Lent, answer_to}
use Rattle.flash_laws.proofs.Calls.{every_call}
use Rattle.bit_history.specs.claims.Accepted.{judged_one}
use Rattle.bit_history.specs.claims.CallHistory.{accepted_command, accepted_row, call_history}
use Rattle.law_counting.specs.claims.InFlash.{command_act, found_acts, call_acts, acts_of, history_of, numbers, InFlash}
use Rattle.law_counting.specs.claims.Numbers.{numbers_in}
use Rattle.law_counting.proofs.Numbers.{numbers_both, all_counted, told_both, leads_on}

-- what happens in a command that goes forward is the command's act
forward_act : (d : Dialect) (c : Command) (n size : ℕ) → row_is Flash d c n ≡ true → happened_act (happening c size) ≡ command_act c size false
unfolding row_is pick
forward_act d command.Load n size row = refl
forward_act d command.Fill n size row = refl
forward_act d command.BootTable n size row = refl
forward_act d command.Enable n size row = refl
forward_act d command.Disable n size row = refl
forward_act d command.Request n size row = refl
forward_act d command.StartOver n size row = absurd (true≢false (sym row))
forward_act d command.JumpAndClose n size row = refl
forward_act d command.Ping n size row = refl
forward_act d command.SequentialRead n size row = refl

module _ (numbering : Bool) (a : Account) (s : Session) (lent : Lent) where
  abbrev answer : Called
  answer = answer_to s lent

  abbrev size : ℕ
  size = argument lent.image s.offset 1

  -- what a call takes, where it is accepted and the table has its command
  takes : {c : Command} {n : ℕ} {goes_Back : Bool} → answer.refusal ≡ refusal.None
      → looked_up (word_at lent.image s.offset) Flash s.dialect ≡ Ok (with_words c n) → ltb answer.session.offset s.offset ≡ goes_Back
      → call_acts s lent ≡ command_act c size goes_Back ∷ []
  unfolding call_acts
  takes none row there =
      chosen _ _ _ (eq-eqb _ _ (ap code_of none)) ∙ ap₂ (λ (found : Result Known Refusal) (goes_Back : Bool). found_acts found size goes_Back) row there

  takes_none : (code_of answer.refusal ≡ 0 → ⊥) → call_acts s lent ≡ []
  unfolding call_acts
  takes_none refused = passed _ _ _ (ne_eqb _ _ refused)

  call_leads : s.totals ≡ totals_of s.dialect numbering a false
      → Leads s.dialect numbering a false (call_acts s lent) answer.session.totals false
  unfolding pick
  call_leads here = go (every_call s lent.memory lent.image).way
    where
      by : {taken : List Act} {t : Totals} → call_acts s lent ≡ taken → answer.session.totals ≡ t → Leads s.dialect numbering a false taken t false
          → Leads s.dialect numbering a false (call_acts s lent) answer.session.totals false
      by {taken} {t} acts-are totals-are leads =
          subst (λ (l : List Act). Leads s.dialect numbering a false l answer.session.totals false) (sym acts-are)
          (subst (λ (u : Totals). Leads s.dialect numbering a false taken u false) (sym totals-are) leads)

      go : Way s lent.image answer → Leads s.dialect numbering a false (call_acts s lent) answer.session.totals false
      go (forward f) =
          let row = row-is Flash s.dialect (word_at lent.image s.offset) f.command f.reads.arguments f.reads.row in
          by
          (takes f.accepted f.reads.row (le-ltb answer.session.offset s.offset (omega (arith, f.offset)))
          ∙ ap (λ (act : Act). act ∷ []) (sym (forward_act s.dialect f.command f.reads.arguments size row)))
          f.totals (happened_booked (happening f.command size) here f.fits)
      go (back b) =
          by (takes b.accepted b.reads.row (lt-ltb answer.session.offset s.offset b.below)) b.totals
          (happened_booked happened.Retried here tt)
      go (kept k) = by (takes_none k.refused) k.totals (none_booked here)

-- a command that is accepted was granted
module _ (s : Session) (m image : List ℕ) (number : ℕ) where
  load_listed : {j : Judged} (next address size : ℕ) (test : Bool) (effect : ℕ → Effect) → Judges j
      → accepted (load_judged_as s m image next address size (barred test why.Overflow j)).answer.refusal ≡ true
      → numbers_in (judged_one number j effect) ≡ number ∷ []
  unfolding numbers_in
  load_listed next address size test effect grants e = refl
  load_listed next address size test effect (denies ending) e = absurd (ending.refused (eqb-true _ _ e))

  after_refused : (h : Happening) (w : Wrote) (done : Done) (next : ℕ) → (code_of done.refusal ≡ 0 → ⊥) → code_of (after s h w done next).refusal ≡ 0 → ⊥
  unfolding after
  after_refused h w done next refused e =
      refused (sym (ap (λ (x : Called). code_of x.refusal) (passed (eqb (code_of done.refusal) 0) _ _ (ne_eqb _ _ refused))) ∙ e)

  fill_listed : {j : Judged} (next address size kind pattern : ℕ) (past spent : Bool) (effect : ℕ → Effect) → Judges j
      → accepted (fill_judged_as s m next address size kind pattern (barred spent why.Number (barred past why.Overflow j))).answer.refusal ≡ true
      → numbers_in (judged_one number j effect) ≡ number ∷ []
  unfolding numbers_in fill_done
  fill_listed next address size kind pattern past spent effect grants e = refl
  fill_listed next address size kind pattern past spent effect (denies {q} ending) e =
      absurd (after_refused _ _ (fill_done (Err q) s.on s.checksum address size kind pattern) next ending.refused (eqb-true _ _ e))

  setting_listed : {j : Judged} (next word value delay : ℕ) (spent : Bool) (effect : ℕ → Effect) → Judges j
      → accepted (setting_judged_as s m next word value delay (barred spent why.Number j)).answer.refusal ≡ true
      → numbers_in (judged_one number j effect) ≡ number ∷ []
  unfolding numbers_in setting_done
  setting_listed next word value delay spent effect grants e = refl
  setting_listed next word value delay spent effect (denies {q} ending) e =
      absurd (after_refused _ _ (setting_done (Err q) s.checksum delay) next ending.refused (eqb-true _ _ e))

-- the numbers of a call's history
module _ (a : Account) (s : Session) (lent : Lent) (here : s.totals.next ≡ a.now.numbers + 1) where
  abbrev m : List ℕ
  m = lent.memory

  abbrev image : List ℕ
  image = lent.image

  abbrev word : ℕ → ℕ
  word i = argument image s.offset i

  -- a Request tells nothing, whichever way it goes
  request_told : (goes_Back : Bool) → [] ≡ numbers_told a (command_act command.Request (word 1) goes_Back ∷ [])
  unfolding numbers_told pick
  request_told true = refl
  request_told false = refl

  command_listed : (c : Command) (n : ℕ) (goes_Back : Bool)
      → accepted (performed c (past_words s.offset n) (fetching (1 + n) s) m image).answer.refusal ≡ true
      → numbers_in (accepted_command c n s image) ≡ numbers_told a (command_act c (word 1) goes_Back ∷ [])
  unfolding numbers_in numbers_told pick
  command_listed command.Load n goes_Back e =
      load_listed (fetching (1 + n) s) m image s.totals.next _ (word 0) (word 1) (would_pass s.dialect s.totals (word 1))
      (λ place. load_effect place (bytes_at image (past_words s.offset n) (word 1))) (load_judges s.windows (word 0) (word 1)) e
      ∙ ap (λ (number : ℕ). number ∷ []) here
  command_listed command.Fill n goes_Back e =
      fill_listed (fetching (1 + n) s) m image s.totals.next (past_words s.offset n) (word 0) (word 1) (word 2) (word 3)
      (would_pass s.dialect s.totals (word 1)) (is_spent s.totals)
      (λ place. fill_effect place (word 1) (unit_of (word 2)) (word 3)) (fill_judges s.windows (word 0) (word 1) (word 2)) e
      ∙ ap (λ (number : ℕ). number ∷ []) here
  command_listed command.BootTable n goes_Back e =
      setting_listed (fetching (1 + n) s) m image s.totals.next (past_words s.offset n) (word 0) (word 2) (word 3) (is_spent s.totals)
      (λ place. setting_effect place (shape_of (word 0)) (word 2)) (setting_judges s.windows (word 0) (word 1) (word 2)) e
      ∙ ap (λ (number : ℕ). number ∷ []) here
  command_listed command.Enable n goes_Back e = refl
  command_listed command.Disable n goes_Back e = refl
  command_listed command.Request n goes_Back e = request_told goes_Back
  command_listed command.StartOver n goes_Back e = refl
  command_listed command.JumpAndClose n goes_Back e = refl
  command_listed command.Ping n goes_Back e = refl
  command_listed command.SequentialRead n goes_Back e = refl

  abbrev found : Result Known Refusal
  found = looked_up (word_at image s.offset) Flash s.dialect

  abbrev Listed : Bool → CallOutcome → Type 0
  Listed goes_Back o =
      accepted o.answer.refusal ≡ true → numbers_in (accepted_row found s image) ≡ numbers_told a (found_acts found (word 1) goes_Back)

  read_listed : (goes_Back : Bool) {r : Result Known Unread} → ReadsAs image s.offset s.dialect r → Listed goes_Back (followed s m image r)
  read_listed goes_Back (no_opcode short) e = absurd (false≢true e)
  read_listed goes_Back (unknown there row) e = absurd (false≢true e)
  read_listed goes_Back (retired there row) e = absurd (false≢true e)
  read_listed goes_Back (cut_short there row short) e = absurd (false≢true e)
  read_listed goes_Back (whole {command = c} {words = n} row there) e =
      ap (λ (f : Result Known Refusal). numbers_in (accepted_row f s image)) row
      ∙ command_listed c n goes_Back e
      ∙ sym (ap (λ (f : Result Known Refusal). numbers_told a (found_acts f (word 1) goes_Back)) row)

  step_listed : (goes_Back : Bool) → Listed goes_Back (step_of s m image)
  unfolding step_of
  step_listed goes_Back =
      of_choice (Listed goes_Back) s.ended (λ t e. absurd (false≢true e))
      (λ t. of_choice (Listed goes_Back) (not (eqb (length m) (sum_of s.windows))) (λ t e. absurd (false≢true e))
      (λ t. of_choice (Listed goes_Back) (not (good_length (length image) && eqb (length image) s.length)) (λ t e. absurd (false≢true e))
      (λ t. read_listed goes_Back (how-read image s.offset s.dialect))))

  call_told : numbers_in (call_history s m image) ≡ numbers_told a (call_acts s lent)
  unfolding call_history call_acts numbers_in numbers_told
  call_told =
      by_test (accepted (step_of s m image).answer.refusal)
      (λ e. ap numbers_in (chosen _ _ [] e)
      ∙ step_listed (ltb (step_of s m image).answer.session.offset s.offset) e
      ∙ sym (ap (numbers_told a) (chosen _ _ [] e)))
      (λ e. ap numbers_in (passed _ _ [] e) ∙ sym (ap (numbers_told a) (passed _ _ [] e)))

-- every opening begins an account
nothing_yet : (d : Dialect) → at_opening ≡ totals_of d false the-account.opened false
nothing_yet Am17xx = refl
nothing_yet Dm648 = refl

record Begins (numbering : Bool) (o : Opened) : Type 0 where
  totals : o.session.totals ≡ totals_of o.session.dialect (numbering && accepted o.refusal) the-account.opened false

plain_begins : (dialect : Dialect) (count : ℕ) (windows : List Window) (image : List ℕ) (limit : ℕ) → Begins false (opened_by dialect count windows image limit)
unfolding opened_by
plain_begins dialect count windows image limit =
    of_choice (Begins false) (not (good_map count windows)) {a = refused_by refusal.Map 0} (λ e. record { totals = refl })
    (λ e. of_choice (Begins false) (not (good_length (length image))) {a = refused_by refusal.Image 0} (λ e. record { totals = refl })
    (λ e. of_choice (Begins false) (not (eqb (word_at image 0) magic)) {a = refused_by refusal.Magic 1}
    {b = begun dialect (kept_of count windows) (length image) limit} (λ e. record { totals = refl }) (λ e. record { totals = nothing_yet dialect })))

numbering_begins : (o : Opened) → Begins false o → Begins true (numbering_from o)
unfolding numbering_from
numbering_begins o plain =
    let from : Bool → Totals = λ numbering. totals_of o.session.dialect numbering the-account.opened false in
    of_choice (Begins true) (accepted o.refusal) {b = o} (λ e. record { totals = ap from_one plain.totals ∙ ap from (sym e) })
    (λ e. record { totals = plain.totals ∙ ap from (sym e) })

every_opening : (numbers : Bool) (dialect : Dialect) (count : ℕ) (windows : List Window) (image : List ℕ) (limit : ℕ)
    → Begins numbers (opened_to numbers dialect count windows image limit)
unfolding pick
every_opening false dialect count windows image limit = plain_begins dialect count windows image limit
every_opening true dialect count windows image limit =
    numbering_begins (opened_by dialect count windows image limit) (plain_begins dialect count windows image limit)

-- and every call leads on from there
abbrev Led : {s : Session} → Reached s → Type 0
Led {s} reached = Leads s.dialect (numbers reached) the-account.opened false (acts_of reached) s.totals false

reached_led : {s : Session} (reached : Reached s) → Led reached
unfolding acts_of
reached_led (opened numbers dialect count windows image limit) = none_booked (every_opening numbers dialect count windows image limit).totals
reached_led (called {s} lent before) =
    let led = reached_led before in
    let call : Lent = record { memory = lent.memory; image = lent.image } in
    subst (λ (d : Dialect). Leads d (numbers before) the-account.opened false (acts_of before ++ call_acts s call) (answer_to s call).session.totals false)
    (sym (every_call s lent.memory lent.image).same_dialect) (leads_on led (call_leads (numbers before) led.there s call led.totals))

reached_told : {s : Session} (reached : Reached s) → numbers reached ≡ true
    → numbers_in (history_of reached) ≡ numbers_told the-account.opened (acts_of reached)
unfolding acts_of history_of numbers_in numbers_told
reached_told (opened numbers dialect count windows image limit) numbered = refl
reached_told (called {s} lent before) numbered =
    let led = reached_led before in
    let call : Lent = record { memory = lent.memory; image = lent.image } in
    let here : s.totals.next ≡ led.there.now.numbers + 1 =
    ap (λ (t : Totals). t.next) led.totals ∙ ap (λ (n : Bool). next_of n led.there.now.numbers) numbered in
    numbers_both (history_of before) (call_history s lent.memory lent.image)
    ∙ ap₂ ◌++◌ (reached_told before numbered) (call_told led.there s call here)
    ∙ sym (told_both led (call_leads (numbers before) led.there s call led.totals))

pub in-flash : InFlash
in-flash s reached =
    let led = reached_led reached in
    let all = sym (all_counted led) in
    record {
      totals = ap (λ (t : Totals). t.now) led.totals ∙ ap (λ (b : Account). standing_of s.dialect b.now) all;
      next = ap (λ (t : Totals). t.next) led.totals ∙ ap (λ (b : Account). next_of (numbers reached) b.now.numbers) all;
      told = reached_told reached;
    }
