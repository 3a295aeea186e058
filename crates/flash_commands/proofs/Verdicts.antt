-- How a command may be judged and done, and where a seek may lead: each refusal of the rules is told by its cases, and each is one that ends the session.
use Rattle.std.specs.Prelude.{Some, Ok, Err}
use Prim.Native.Nat.{ℕ, ◌%◌, ◌≤◌, ◌<◌}
use mathlib.Core.Bool.{Bool, true, false, not, ◌&&◌}
use mathlib.Core.List.{List}
use mathlib.Core.Logic.{◌≢◌}
use mathlib.Core.Path.{◌≡◌, refl}
use native.Mathlib.Omega.{arith}
use lib.Dec.{ltb, eqb}
use borrow.Author.Tests.{ltb-true, leb-true, eqb-true, not-true}
use Rattle.words.specs.rules.Choice.{pick}
use Rattle.words.proofs.Choice.{both, of_choice}
use Rattle.windows.specs.declared.Window.{Window}
use Rattle.opcodes.specs.rules.Answers.{code_of, kind_of}
use Rattle.opcodes.specs.declared.Event.{Event}
use Rattle.opcodes.specs.declared.Event.TheVariants as event
use Rattle.opcodes.specs.declared.Refusal.{Refusal}
use Rattle.opcodes.specs.rules.Refusals.{Verdict}
use Rattle.opcodes.specs.rules.Refusals as refusal
use Rattle.commands.specs.rules.Commands.{judged_code, multiple, done_if, barred, load_judged}
use Rattle.commands.specs.rules.Commands.{fill_judged, fill_done, setting_judged, setting_done, entry_judged}
use Rattle.commands.specs.rules.Commands.{close_done, target, sought_from, Judged, Sought}
use Rattle.commands.proofs.Judging.{EachRefusal, Passes, load_passes, fill_passes, setting_passes, entry_passes}
use Rattle.commands.specs.declared.Done.{Done}
use Rattle.flash_commands.specs.claims.Ways.{spares}

-- a refusal that ends the session
pub record Ending (q : Verdict) : Type 0 where
  pub refused : code_of q ≢ 0
  pub unspared : spares q ≡ false

pub ends : (q : Verdict) → (ltb 0 (code_of q) && not (spares q)) ≡ true → Ending q
ends q e =
    let parts = both (ltb 0 (code_of q)) (not (spares q)) e in
    let low = ltb-true 0 (code_of q) parts.0 in
    record { refused = λ z. omega arith; unspared = not-true (spares q) parts.1 }

-- a judgement grants a place or refuses with such a number
pub data Judges : Judged → Type 0 where
  grants : {place : ℕ} → Judges (Ok place)
  denies : {q : Refusal} → Ending (Some q) → Judges (Err q)

every_refusal : EachRefusal (λ (q : Refusal). Ending (Some q))
every_refusal =
    record {
      type-word = ends refusal.TypeWord refl;
      too_wide = ends refusal.TooWide refl;
      unaligned = ends refusal.Unaligned refl;
      range = ends refusal.Range refl;
      entry = ends refusal.Entry refl;
    }

passed_judges : (j : Judged) → Passes (λ (q : Refusal). Ending (Some q)) j → Judges j
passed_judges (Ok place) p = grants
passed_judges (Err q) p = denies p

module _ (windows : List Window) where
  pub load_judges : (address size : ℕ) → Judges (load_judged windows address size)
  load_judges address size = passed_judges _ (load_passes (λ (q : Refusal). Ending (Some q)) every_refusal windows address size)

  pub fill_judges : (address size kind : ℕ) → Judges (fill_judged windows address size kind)
  fill_judges address size kind = passed_judges _ (fill_passes (λ (q : Refusal). Ending (Some q)) every_refusal windows address size kind)

  pub setting_judges : (word address value : ℕ) → Judges (setting_judged windows word address value)
  setting_judges word address value = passed_judges _ (setting_passes (λ (q : Refusal). Ending (Some q)) every_refusal windows word address value)

  pub entry_judges : (address : ℕ) → Judges (entry_judged windows address)
  entry_judges address = passed_judges _ (entry_passes (λ (q : Refusal). Ending (Some q)) every_refusal windows address)

-- so with a later number
pub barred_judges : (test : Bool) {q : Refusal} {j : Judged} → Ending (Some q) → Judges j → Judges (barred test q j)
barred_judges test ending grants = of_choice Judges test (λ e. denies ending) (λ e. grants)
barred_judges test ending (denies e) = denies e

-- what is granted then did not pass its test
pub test_failed : (test : Bool) {q : Refusal} {j : Judged} → Ending (Some q) → Judges j → judged_code (barred test q j) ≡ 0 → test ≡ false
unfolding pick
test_failed true ending grants e = absurd (ending.refused e)
test_failed false ending grants e = refl
test_failed test ending (denies wrong) e = absurd (wrong.refused e)

-- and was granted before it
pub granted_first : (test : Bool) {q : Refusal} {j : Judged} → Ending (Some q) → Judges j → judged_code (barred test q j) ≡ 0 → judged_code j ≡ 0
granted_first test ending grants e = refl
granted_first test ending (denies wrong) e = e

-- the number of an answer is the judgement's
done_number : (j : Judged) (checksum fed : ℕ) (told : Event) → code_of (done_if j checksum told fed).refusal ≡ judged_code j
done_number (Ok place) checksum fed told = refl
done_number (Err q) checksum fed told = refl

pub fill_number : (j : Judged) (on : Bool) (checksum address size kind pattern : ℕ)
    → code_of (fill_done j on checksum address size kind pattern).refusal ≡ judged_code j
unfolding fill_done
fill_number j on checksum address size kind pattern = done_number j _ _ _

pub setting_number : (j : Judged) (checksum delay : ℕ) → code_of (setting_done j checksum delay).refusal ≡ judged_code j
unfolding setting_done
setting_number j checksum delay = done_number j _ _ _

pub close_number : (j : Judged) (checksum address : ℕ) → code_of (close_done j checksum address).refusal ≡ judged_code j
unfolding close_done
close_number j checksum address = done_number j _ _ _

-- a command that was judged is accepted with an event of a kind, or refused with such a number
pub data Answers (kind : ℕ) (done : Done) : Type 0 where
  accepts : code_of done.refusal ≡ 0 → kind_of done.event ≡ kind → Answers kind done
  rejects : Ending done.refusal → Answers kind done

judged_answers : {j : Judged} (checksum fed : ℕ) (told : Event) → Judges j → Answers (kind_of told) (done_if j checksum told fed)
judged_answers checksum fed told grants = accepts refl refl
judged_answers checksum fed told (denies e) = rejects e

module _ {judged : Judged} (judges : Judges judged) (checksum : ℕ) where
  pub fill_answers : (on : Bool) (address size kind pattern : ℕ) → Answers 0 (fill_done judged on checksum address size kind pattern)
  unfolding fill_done
  fill_answers on address size kind pattern = judged_answers _ _ event.Nothing judges

  pub setting_answers : (delay : ℕ) → Answers 1 (setting_done judged checksum delay)
  unfolding setting_done
  setting_answers delay = judged_answers _ _ (event.Wait delay) judges

  pub close_answers : (address : ℕ) → Answers 3 (close_done judged checksum address)
  unfolding close_done
  close_answers address = judged_answers _ _ (event.Enter address) judges

-- a seek leads back to a multiple of 4 that is at least 4, or is refused
pub data Leads (request : ℕ) : Sought → Type 0 where
  leads : {offset : ℕ} → offset % 4 ≡ 0 → 4 ≤ offset → offset < request → Leads request (Ok offset)
  astray : {q : Refusal} → Ending (Some q) → Leads request (Err q)

pub seek_leads : (request seek : ℕ) → Leads request (sought_from request seek)
unfolding sought_from multiple
seek_leads request seek =
    of_choice (Leads request) _
    (λ e.
    let parts = both _ (ltb (target request seek) request) e in
    let low = both (eqb (target request seek % 4) 0) _ parts.0 in
    leads (eqb-true _ _ low.0) (leb-true _ _ low.1) (ltb-true _ _ parts.1))
    (λ e. astray (ends refusal.Seek refl))
