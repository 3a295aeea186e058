-- The ceiling: the sum of what is prescribed is below it, and 32 bits count no more than the sum. A run of an image is some calls.
use Prim.Native.Nat.{ℕ, zero, suc, ◌+◌, ◌*◌, ◌/◌, ◌≤◌}
use mathlib.Core.Bool.{false, true≢false}
use mathlib.Core.List.{List}
use mathlib.Core.Path.{◌≡◌, refl, sym, ap₂, ◌∙◌}
use native.Mathlib.Nat.{add-mul, mul-le-mul_right}
use native.Mathlib.Omega.{arith}
use lib.ListN.{length}
use Rattle.words.specs.rules.Bits.{join}
use Rattle.words.specs.rules.Bytes.{number, bytes_at, word_at}
use Rattle.words.specs.rules.Choice.{pick}
use Rattle.words.proofs.Choice.{of_choice}
use Rattle.windows.specs.rules.Map.{sound_window, all_sound, rising, good_map, kept_of}
use Rattle.windows.specs.rules.Window.{has_right, inside, grants_range, place_from, place_of, sum_of}
use Rattle.windows.specs.declared.Window.{Window}
use Rattle.opcodes.specs.rules.Opcodes.{rows, row_serves, found_in, looked_up}
use Rattle.opcodes.specs.declared.Dialect.{Dialect}
use Rattle.reading.specs.rules.Reading.{present, argument, read_at}
use Rattle.commands.specs.rules.Commands.{multiple, entry_judged, close_done}
use Rattle.flash_session.specs.rules.Opening.{good_length, opened_by, numbering_from}
use Rattle.flash_laws.specs.claims.Reached.{Reached, opened, called}
use Rattle.flash_session.specs.rules.Sessions.{CallOutcome, counted_on, after}
use Rattle.flash.specs.rules.Step.{step_of}
use Rattle.flash_session.specs.declared.Session.{Session}
use Rattle.flash_runs.specs.rules.Run.{carried_on, enough, run_of}
use Rattle.flash_runs.specs.claims.Ceiling.{words_of, ceiling, Ceiling, CeilingMet}
use Rattle.flash_runs.specs.claims.Fetched.{prescribed, limit_of}
use Rattle.flash_runs.proofs.Fetched.{Standing, going, shut, reached_counts, reached_standing}

-- no more is counted than is prescribed
few : {s : Session} (reached : Reached s) → s.fetched ≤ prescribed reached
unfolding counted_on
few reached = omega (arith, reached_counts reached)

standing_running : {s : Session} {n limit words : ℕ} → Standing s n limit words → s.ended ≡ false → n ≤ s.retries * words + s.offset / 4
standing_running (going g) e = (g.running e).0
standing_running (shut over one low) e = absurd (true≢false (sym over ∙ e))

standing_always : {s : Session} {n limit words : ℕ} → Standing s n limit words → n ≤ ceiling limit words
standing_always {s} {n} {limit} {words} (going g) =
    let spare : (s.retries + 1) * words ≤ (limit + 1) * words = mul-le-mul_right words (omega (arith, g.within)) in
    omega (arith, g.most, spare)
standing_always {s} {n} {limit} {words} (shut over one low) = omega (arith, low, add-mul limit 1 words)

always : {s : Session} (reached : Reached s) → s.fetched ≤ ceiling (limit_of reached) (words_of reached)
always reached = omega (arith, few reached, standing_always (reached_standing reached))

-- a session that was opened with a limit on an image of so many words
record From (limit words : ℕ) (s : Session) : Type 0 where
  reached : Reached s
  same_limit : limit_of reached ≡ limit
  same_words : words_of reached ≡ words

module _ {limit words : ℕ} (image : List ℕ) where
  -- a call leads to such a one, and so do any calls of a run
  next : {s : Session} (m : List ℕ) → From limit words s → From limit words (step_of s m image).answer.session
  unfolding limit_of words_of
  next m before =
      record {
        reached = called (record { memory = m; image = image }) before.reached;
        same_limit = before.same_limit;
        same_words = before.same_words;
      }

  carried : (n : ℕ) (o : CallOutcome) → From limit words o.answer.session → From limit words (carried_on n o image).answer.session
  unfolding carried_on
  carried zero o before = before
  carried (suc n) o before =
      of_choice (λ (x : CallOutcome). From limit words x.answer.session) _ (λ more. carried n _ (next o.memory before)) (λ none. before)

ran : {s : Session} (reached : Reached s) (m image : List ℕ) → From (limit_of reached) (words_of reached) (run_of s m image).answer.session
unfolding run_of
ran {s} reached m image =
    carried image (enough s) (step_of s m image) (next image m (record { reached = reached; same_limit = refl; same_words = refl }))

pub ceilings : Ceiling
ceilings =
    record {
      running = λ reached e. omega (arith, few reached, standing_running (reached_standing reached) e);
      always = always;
      run = λ reached m image.
          let from = ran reached m image in
          omega (arith, always from.reached, ap₂ ceiling from.same_limit from.same_words);
    }

-- so is an opening without numbers, refused or not, and a run of its image
module _ (dialect : Dialect) (count : ℕ) (windows : List Window) (image : List ℕ) (limit : ℕ) where
  pub opened_within : (opened_by dialect count windows image limit).session.fetched ≤ ceiling limit (length image / 4)
  unfolding limit_of words_of pick
  opened_within = always (opened false dialect count windows image limit)

  pub ran_within : (m : List ℕ)
      → (run_of (opened_by dialect count windows image limit).session m image).answer.session.fetched ≤ ceiling limit (length image / 4)
  unfolding limit_of words_of pick
  ran_within m = ceilings.run (opened false dialect count windows image limit) m image

-- the definitions compute
pub ceiling_met : CeilingMet
unfolding pick join number bytes_at word_at has_right inside grants_range place_from place_of sum_of sound_window all_sound rising good_map kept_of
    rows row_serves found_in looked_up multiple entry_judged close_done good_length opened_by numbering_from counted_on present argument read_at after step_of
ceiling_met = record { fetched = refl; most = refl }
