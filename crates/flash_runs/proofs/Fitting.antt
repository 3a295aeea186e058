-- How many events a run has: by the law of a call each wait takes five words or more from those that are left to pass, and an entry is the last.
use Prim.Native.Nat.{ℕ, zero, suc, ◌+◌, ◌-◌, ◌*◌, ◌/◌, ◌≤◌, min}
use mathlib.Core.Bool.{true, false, true≢false}
use mathlib.Core.List.{List, [], ◌++◌}
use mathlib.Core.Path.{◌≡◌, refl, sym, ap, ap₂, subst, ◌∙◌}
use native.Mathlib.Omega.{arith}
use native.Mathlib.Nat.{add-mul}
use lib.Dec.{eqb}
use lib.ListN.{length, length-append}
use borrow.Author.Tests.{eqb-true, not-false}
use Rattle.std.specs.declared.result.Result.{Result}
use Rattle.std.specs.declared.result.Result.TheVariants.{Ok}
use Rattle.words.proofs.Choice.{chosen, passed, by_test, of_choice}
use Rattle.windows.specs.declared.Window.{Window}
use Rattle.opcodes.specs.rules.Answers.{kind_of, told}
use Rattle.opcodes.specs.rules.Opcodes.{looked_up, with_words}
use Rattle.opcodes.specs.declared.Command.{Command}
use Rattle.opcodes.specs.declared.Command.TheVariants as command
use Rattle.opcodes.specs.declared.Dialect.{Dialect}
use Rattle.opcodes.specs.declared.Event.{Event}
use Rattle.opcodes.specs.declared.Event.TheVariants as event
use Rattle.opcodes.specs.declared.Mode.TheVariants.{Flash}
use Rattle.opcodes.specs.rules.Refusals as refusal
use Rattle.opcodes.proofs.Counts.{row_is, row-is}
use Rattle.opcodes.specs.declared.Known.{Known}
use Rattle.opcodes.specs.declared.Refusal.{Refusal}
use Rattle.reading.specs.rules.Reading.{read_as, read_at}
use Rattle.reading.specs.declared.Unread.{Unread}
use Rattle.flash_commands.specs.claims.Ways.{Reads, Way, forward, back, kept, Call}
use Rattle.flash_session.specs.rules.Opening.{longest, refused_by, begun, opened_by}
use Rattle.flash_session.specs.declared.Called.{Called}
use Rattle.flash_session.specs.declared.Opened.{Opened}
use Rattle.flash_session.specs.declared.Session.{Session}
use Rattle.flash_session.proofs.Lengths.{length_small}
use Rattle.flash.specs.rules.Step.{step_of}
use Rattle.flash_laws.proofs.Calls.{every_call}
use Rattle.flash_runs.specs.rules.Events.{waited, events_on, run_events, events_from, most_events}
use Rattle.flash_runs.specs.rules.Run.{goes_on, enough, opens}
use Rattle.flash_runs.specs.claims.Events.{delay_of, EventsFit}
use Rattle.flash_runs.proofs.Calls.{refused_stops}
use Rattle.flash_runs.proofs.Events.{call_waits, enters_stops}

-- a setting has four argument words, so a command with a delay has five words
setting_words : (dialect : Dialect) (image : List ℕ) (offset opcode : ℕ) (c : Command) (arguments : ℕ)
    → looked_up opcode Flash dialect ≡ Ok (with_words c arguments)
    → 5 * length (delay_of image offset (read_as image offset (Ok (with_words c arguments)))) ≤ 1 + arguments
unfolding row_is
setting_words dialect image offset opcode c arguments row =
    of_choice Short _ (λ t. omega arith) (λ t. whole c (row-is Flash dialect opcode c arguments row))
  where
    Short : Result Known Unread → Type 0
    Short r = 5 * length (delay_of image offset r) ≤ 1 + arguments

    whole : (d : Command) → row_is Flash dialect d arguments ≡ true → 5 * length (delay_of image offset (Ok (with_words d arguments))) ≤ 1 + arguments
    whole command.Load e = omega arith
    whole command.Fill e = omega arith
    whole command.BootTable e = omega (arith, eqb-true arguments 4 e)
    whole command.Enable e = omega arith
    whole command.Disable e = omega arith
    whole command.Request e = omega arith
    whole command.StartOver e = omega arith
    whole command.JumpAndClose e = omega arith
    whole command.Ping e = omega arith
    whole command.SequentialRead e = omega arith

-- so of what is read at a session's offset, and of what a call waits for
module _ (s : Session) (m image : List ℕ) where
  delay_words : {c : Command} {words : ℕ} → Reads s image c words → 5 * length (delay_of image s.offset (read_at image s.offset s.dialect)) ≤ words
  unfolding read_at
  delay_words {c} {words} reads =
      of_choice (λ (r : Result Known Unread). 5 * length (delay_of image s.offset r) ≤ words) _ (λ t. omega arith)
      (λ t. subst (λ (f : Result Known Refusal). 5 * length (delay_of image s.offset (read_as image s.offset f)) ≤ words) (sym reads.row)
      (omega (arith, reads.count, setting_words s.dialect image s.offset _ c reads.arguments reads.row)))

  wait_words : {c : Command} {words : ℕ} → Reads s image c words → 5 * length (waited (step_of s m image).answer.event) ≤ words
  wait_words {c} {words} reads =
      subst (λ (l : List ℕ). 5 * length l ≤ words) (sym (call_waits s m image))
      (of_choice (λ (l : List ℕ). 5 * length l ≤ words) _ (λ t. delay_words reads) (λ t. omega arith))

-- an event is one at most, and one that is no entry is a wait
told_one : (e : Event) → length (told e) ≤ 1
told_one event.Nothing = omega arith
told_one (event.Wait cycles) = omega arith
told_one (event.Enter address) = omega arith

told_waits : (e : Event) → eqb (kind_of e) 3 ≡ false → length (told e) ≡ length (waited e)
told_waits event.Nothing t = refl
told_waits (event.Wait cycles) t = refl
told_waits (event.Enter address) t = absurd (true≢false t)

-- waits still to come: those of the image for each retry that is left, and those from the offset on
abbrev waits_left : Session → ℕ
waits_left s = (s.limit - s.retries) * (s.length / 20) + (s.length - s.offset) / 20

-- a call has at most one event more than those, and where it goes on it takes its event from them
abbrev Counts : Session → Called → Type 0
Counts s a = (length (told a.event) ≤ waits_left s + 1) × (goes_on a ≡ true → length (told a.event) + waits_left a.session ≤ waits_left s)

module _ (s : Session) (m image : List ℕ) where
  abbrev a : Called
  a = (step_of s m image).answer

  same_share : a.session.length / 20 ≡ s.length / 20
  same_share = ap (λ (n : ℕ). n / 20) (every_call s m image).same_length

  counts : Counts s a
  counts = (omega (arith, told_one a.event), go (every_call s m image).way)
    where
      call : Call s image a
      call = every_call s m image

      go : Way s image a → goes_on a ≡ true → length (told a.event) + waits_left a.session ≤ waits_left s
      go (forward f) on =
          by_test (eqb (kind_of a.event) 3)
          (λ enters. absurd (true≢false (sym on ∙ enters_stops s image a (eqb-true _ _ enters) (forward f))))
          (λ waits.
          let spare : a.session.limit - a.session.retries ≡ s.limit - s.retries = omega (arith, call.same_limit, f.retries) in
          omega (
            arith,
            ap₂ (λ (n k : ℕ). n * k) spare same_share,
            told_waits a.event waits,
            wait_words s m image f.reads,
            f.reads.present,
            f.reads.lent,
            f.offset,
            call.same_length,
          ))
      go (back b) on =
          let spare : a.session.limit - a.session.retries + 1 ≡ s.limit - s.retries = omega (arith, call.same_limit, b.counted, b.left) in
          omega (
            arith,
            ap₂ (λ (n k : ℕ). n * k) spare same_share,
            add-mul (a.session.limit - a.session.retries) 1 (a.session.length / 20),
            ap (λ (e : Event). length (told e)) b.no_event,
            call.same_length,
          )
      go (kept k) on = absurd (true≢false (sym on ∙ refused_stops a k.refused))

-- so of a run
run_fits : (image : List ℕ) (n : ℕ) (s : Session) (m : List ℕ) → length (events_on n (step_of s m image) image) ≤ waits_left s + 1
unfolding events_on
run_fits image zero s m = (counts s m image).0
run_fits image (suc n) s m =
    let o = step_of s m image in
    let one = told o.answer.event in
    by_test (goes_on o.answer)
    (λ on.
    let rest = events_on n (step_of o.answer.session o.memory image) image in
    subst (λ (es : List Event). length (one ++ es) ≤ waits_left s + 1) (sym (chosen _ _ _ on))
    (omega (arith, length-append one rest, (counts s m image).1 on, run_fits image n o.answer.session o.memory)))
    (λ off.
    subst (λ (es : List Event). length (one ++ es) ≤ waits_left s + 1) (sym (passed _ _ _ off))
    (omega (arith, length-append one [], (counts s m image).0)))

-- from an opening: refused it has none
module _ (m image : List ℕ) (limit : ℕ) where
  abbrev Fits : Opened → Type 0
  Fits o = length (events_from o m image) ≤ most_events limit (length image)

  refused_fits : (o : Opened) → opens o ≡ false → Fits o
  unfolding events_from
  refused_fits o e = subst (λ (es : List Event). length es ≤ most_events limit (length image)) (sym (passed _ _ _ e)) (omega arith)

  begun_fits : (dialect : Dialect) (windows : List Window) → length image ≤ longest → Fits (begun dialect windows (length image) limit)
  unfolding events_from run_events most_events
  begun_fits dialect windows short =
      let o : Opened = begun dialect windows (length image) limit in
      let n = length image in
      let most : min n longest ≡ n = omega (arith, short) in
      let none_yet : limit - 0 ≡ limit = omega arith in
      let bound : length (run_events o.session m image) ≤ (limit - 0) * (n / 20) + (n - 4) / 20 + 1 = run_fits image (enough o.session) o.session m in
      subst (λ (es : List Event). length es ≤ (limit + 1) * (min n longest / 20) + 1) (sym (chosen _ _ _ refl))
      (rw most (omega (arith, bound, ap (λ (k : ℕ). k * (n / 20)) none_yet, add-mul limit 1 (n / 20))))

pub events_fit : EventsFit
unfolding opened_by
events_fit dialect count windows m image limit =
    of_choice (Fits m image limit) _ (λ e. refused_fits m image limit (refused_by refusal.Map 0) refl)
    (λ e. of_choice (Fits m image limit) _ (λ e. refused_fits m image limit (refused_by refusal.Image 0) refl)
    (λ sound. of_choice (Fits m image limit) _ (λ e. refused_fits m image limit (refused_by refusal.Magic 1) refl)
    (λ e. begun_fits m image limit dialect _ (length_small (length image) (not-false _ sound)))))
