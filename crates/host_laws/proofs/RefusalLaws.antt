-- The laws of refused turns: 14 and 3 come before any look and leave the host, every other refusal of a look stops it and nothing else.
use Prim.Native.Nat.{ℕ}
use mathlib.Core.Bool.{Bool, true, false, not, ◌&&◌, true≢false}
use mathlib.Core.List.{List}
use mathlib.Core.Path.{◌≡◌, refl, sym, ap, ◌∙◌}
use lib.Dec.{ltb, eqb}
use lib.ListN.{length}
use borrow.Author.Tests.{not-true}
use Rattle.std.specs.declared.result.Result.{Result}
use Rattle.std.specs.declared.result.Result.TheVariants.{Ok, Err}
use Rattle.words.specs.rules.Choice.{pick}
use Rattle.words.proofs.Choice.{chosen, passed, both, of_choice}
use Rattle.opcodes.specs.rules.Answers.{code_of, accepted}
use Rattle.opcodes.specs.declared.Command.{Command}
use Rattle.opcodes.specs.declared.Command.TheVariants as command
use Rattle.opcodes.specs.rules.Refusals.{Verdict}
use Rattle.opcodes.specs.rules.Refusals as refusal
use Rattle.opcodes.specs.declared.Known.{Known}
use Rattle.reading.specs.rules.Reading.{past_data, read_at}
use Rattle.reading.specs.declared.Unread.{Unread}
use Rattle.host_answers.specs.rules.Hosts.{changed}
use Rattle.host_answers.specs.rules.Answers.{unchanged, refused}
use Rattle.host.specs.rules.Turn.{met, met_to, in_wait, turned}
use Rattle.host_laws.specs.claims.Looks.{is_lent}
use Rattle.host_laws.specs.claims.Outgoing.{Next, begins, moves, starts_over, closed, closes, done}
use Rattle.host_laws.specs.claims.Refusals.{SameSettings, KeepsSettings, spares, Refuses, RefusedSendsNothing, FirstOfAll, JudgedFirst}
use Rattle.host_laws.specs.claims.Refusals.{met_with, JudgedBeforeTheOpcode}
use Rattle.host_ear.specs.declared.Ear.{Ear}
use Rattle.host_answers.specs.declared.Host.{Host}
use Rattle.host_answers.specs.declared.Sending.{Sending}
use Rattle.host_answers.specs.declared.Turned.{Turned}
use Rattle.host_answers.specs.declared.Wait.{Wait}
use Rattle.host_laws.proofs.TurnCases.{Looked, twenty, goes_on, goes, refuses, no_retry, no_seek, Way, over, another, looks, way}

-- whatever a turn changes
settings : (h : Host) (ended : Bool) (retries offset spent : ℕ) (wait : Wait) (ear : Ear) → SameSettings h (changed h ended retries offset spent wait ear)
settings h ended retries offset spent wait ear = record { bus = refl; dialect = refl; length = refl; tries = refl; pings = refl; limit = refl }

module _ {h : Host} where
  -- a refusal of a look stops the host, 14 and 3 spare it
  stops : (q : Verdict) → spares q ≡ false → Refuses h (refused q h)
  stops q ends =
      record {
        silent = refl;
        spared = λ e. absurd (true≢false (sym e ∙ ends));
        stopped = λ e. record { ended = refl; retries = refl; offset = refl; spent = refl; wait = refl; ear = refl };
      }

  spared : (q : Verdict) → spares q ≡ true → Refuses h (unchanged q h)
  spared q e = record { silent = refl; spared = λ e. refl; stopped = λ ends. absurd (true≢false (sym e ∙ ends)) }

module _ {h : Host} {image : List ℕ} where
  next_settings : {before : Wait} {g : Host} {out : Sending} → Next h image before g out → SameSettings h g
  next_settings (begins row) = settings h _ _ _ _ _ _
  next_settings (moves row) = settings h _ _ _ _ _ _
  next_settings (starts_over other left led) = settings h _ _ _ _ _ _
  next_settings (closed words shuts dialect) = settings h _ _ _ _ _ _
  next_settings (closes words shuts dialect) = settings h _ _ _ _ _ _
  next_settings done = settings h _ _ _ _ _ _

  looked_refuses : {before : Wait} {t : Turned} → Looked h image before t → accepted t.refusal ≡ false → Refuses h t
  looked_refuses (twenty failed same) e = stops refusal.Tries refl
  looked_refuses (goes_on wrong more same left) e = absurd (true≢false e)
  looked_refuses (goes heard row) e = absurd (true≢false e)
  looked_refuses (refuses {q = q} heard same plain) e = stops q (rw (plain.not_14, plain.not_3))
  looked_refuses (no_retry heard other none) e = stops refusal.Checksum refl
  looked_refuses (no_seek heard other left lost) e = stops refusal.Seek refl

  way_refuses : {t : Turned} → Way h image t → accepted t.refusal ≡ false → Refuses h t
  way_refuses (over ended idle) e = spared refusal.Ended refl
  way_refuses (another running other idle) e = spared refusal.Image refl
  way_refuses (looks running lent turn look) e = looked_refuses look e

  -- a look is neither 14 nor 3
  looked_first : {before : Wait} {t : Turned} → Looked h image before t → (eqb (code_of t.refusal) 14 ≡ false) × (eqb (code_of t.refusal) 3 ≡ false)
  looked_first (twenty failed same) = (refl, refl)
  looked_first (goes_on wrong more same left) = (refl, refl)
  looked_first (goes heard row) = (refl, refl)
  looked_first (refuses heard same plain) = (plain.not_14, plain.not_3)
  looked_first (no_retry heard other none) = (refl, refl)
  looked_first (no_seek heard other left lost) = (refl, refl)

  way_first : {t : Turned} → Way h image t → FirstOfAll h image t.refusal
  way_first (over ended idle) = record { fourteen = sym ended; three = ap (λ (e : Bool). not e && not (is_lent h image)) (sym ended) }
  way_first (another running other idle) =
      record { fourteen = sym running; three = sym (ap (λ (e : Bool). not e && not (is_lent h image)) running ∙ ap not other) }
  way_first (looks running lent turn look) =
      record {
        fourteen = (looked_first look).0 ∙ sym running;
        three = (looked_first look).1 ∙ sym (ap (λ (e : Bool). not e && not (is_lent h image)) running ∙ ap not lent);
      }

  looked_settings : {before : Wait} {t : Turned} → Looked h image before t → SameSettings h t.host
  looked_settings (twenty failed same) = settings h _ _ _ _ _ _
  looked_settings (goes_on wrong more same left) = settings h _ _ _ _ _ _
  looked_settings (goes heard row) = next_settings row
  looked_settings (refuses heard same plain) = settings h _ _ _ _ _ _
  looked_settings (no_retry heard other none) = settings h _ _ _ _ _ _
  looked_settings (no_seek heard other left lost) = settings h _ _ _ _ _ _

  way_settings : {t : Turned} → Way h image t → SameSettings h t.host
  way_settings (over ended idle) = settings h _ _ _ _ _ _
  way_settings (another running other idle) = settings h _ _ _ _ _ _
  way_settings (looks running lent turn look) = looked_settings look

pub keeps_settings : KeepsSettings
keeps_settings h image = way_settings (way h image)

pub refused_sends_nothing : RefusedSendsNothing
refused_sends_nothing h image = way_refuses (way h image)

pub judged_first : JudgedFirst
judged_first h image = way_first (way h image)

-- a command that stands there is not refused
met_none : (h : Host) (image : List ℕ) (c : Command) (end : ℕ) → (met_to h image c end).refusal ≡ refusal.None
met_none h image command.Load end = refl
met_none h image command.Fill end = refl
met_none h image command.BootTable end = refl
met_none h image command.Enable end = refl
met_none h image command.Disable end = refl
met_none h image command.Request end = refl
met_none h image command.StartOver end = refl
met_none h image command.JumpAndClose end = refl
met_none h image command.Ping end = refl
met_none h image command.SequentialRead end = refl

met_refusal : (h : Host) (image : List ℕ) (r : Result Known Unread) → (met h image r).refusal ≡ met_with h image r
met_refusal h image (Err said) = refl
met_refusal h image (Ok f) =
    let end : ℕ = past_data f.command f.words image h.offset in
    of_choice (λ (t : Turned). t.refusal ≡ pick (ltb (length image) end) refusal.Missing refusal.None) (ltb (length image) end)
    (λ short. sym (chosen _ _ _ short)) (λ long. met_none h image f.command end ∙ sym (passed _ _ _ long))

pub judged_before_the_opcode : JudgedBeforeTheOpcode
unfolding turned
judged_before_the_opcode h image turn none =
    let parts = both (not h.ended) (is_lent h image) turn in
    ap (λ (t : Turned). t.refusal)
    (passed _ _ _ (not-true _ parts.0) ∙ passed _ _ _ (ap not parts.1) ∙ ap (λ (before : Wait). in_wait before h image) none)
    ∙ met_refusal h image (read_at image h.offset h.dialect)
