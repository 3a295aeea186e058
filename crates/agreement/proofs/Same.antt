-- What every comparison finds: the whole exchange does what the flash run does, so that the memories and the events are the same.
use Prim.Native.Nat.{ℕ}
use mathlib.Core.List.{List, [], ◌∷◌}
use mathlib.Core.Path.{◌≡◌, refl, ap, ◌∙◌}
use native.Mathlib.Omega.{arith}
use lib.Dec.{lit<, lit≤}
use lib.ListN.{length-replicate}
use borrow.Author.Tests.{eq-eqb}
use Rattle.words.specs.rules.Bytes.{AreBytes}
use Rattle.words.specs.rules.Choice.{pick}
use Rattle.words.proofs.Choice.{chosen}
use Rattle.windows.specs.rules.Map.{sound_window, all_sound, rising, good_map, kept_of}
use Rattle.windows.specs.rules.Window.{sum_of}
use Rattle.opcodes.specs.declared.Dialect.{Dialect}
use Rattle.opcodes.specs.declared.Event.{Event}
use Rattle.opcodes.specs.declared.Event.TheVariants.{Enter}
use Rattle.event_room.specs.rules.Room.{place_after}
use Rattle.event_room.proofs.Writing.{place_whole}
use Rattle.flash_runs.specs.rules.Events.{last_of}
use Rattle.flash_runs.proofs.Events.{events_of_a_run}
use Rattle.flash_runs.proofs.Fitting.{events_fit}
use Rattle.sent.specs.declared.Bus.{Bus}
use Rattle.exchange.specs.rules.Standing.{last_after, last_event}
use Rattle.checking.specs.rules.Report.{windows, cleared}
use Rattle.law_exchange.specs.claims.Course.{Premises}
use Rattle.law_exchange.specs.claims.Whole.{AsInFlash}
use Rattle.law_exchange.proofs.Whole.{whole_exchange}
use Rattle.agreement.specs.rules.Comparison.{in_flash, from_flash, flash_events, by_line, difference_of, compared_of}
use Rattle.agreement.specs.rules.Differing.{differing}
use Rattle.agreement.specs.declared.Difference.{Difference}
use Rattle.agreement.specs.claims.Same.{BothSides, NothingDiffers}
use Rattle.agreement.proofs.Differing.{none_differs}

-- one last event, said in two ways
last_same : (e : Event) (es : List Event) → last_after e es ≡ last_of (e ∷ es)
unfolding last_after last_of
last_same e [] = refl
last_same e (f ∷ es) = last_same f es

last_entry : (es : List Event) (address : ℕ) → last_of es ≡ Enter address → last_event es ≡ Enter address
unfolding last_after last_of
last_entry [] address e = e
last_entry (f ∷ es) address e = last_same f es ∙ e

module _ (bus : Bus) (dialect : Dialect) (image : List ℕ) (limit : ℕ) (bytes : AreBytes image) where
  premises : Premises bus dialect 1 windows cleared image 1000 limit 0
  unfolding sound_window all_sound rising good_map kept_of sum_of pick
  premises = record { map = refl; lent = length-replicate {A = ℕ} 4096 0; bytes = bytes; some = lit≤ tt; most = lit≤ tt; word = lit< tt }

  ends : AsInFlash bus dialect 1 windows cleared image 1000 limit 0
  ends = whole_exchange bus dialect 1 windows cleared image 1000 limit 0 premises

  pub both_sides : BothSides bus dialect image limit
  unfolding compared_of difference_of pick
  both_sides =
      let fits = events_fit dialect 1 windows cleared image limit in
      let none : differing 1024 0 (from_flash dialect image limit).memory (by_line bus dialect image limit).loader.memory ≡ 0 =
      ap (differing 1024 0 (from_flash dialect image limit).memory) ends.memory ∙ none_differs 1024 0 (from_flash dialect image limit).memory in
      record {
        same_events = ends.events;
        nothing_differs = λ first second. ap (λ (d : Difference). d.words) (chosen _ _ _ (eq-eqb _ _ none));
        same_entry = λ first second address enters.
            last_entry _ address (ap last_of ends.events ∙ events_of_a_run.enters (in_flash dialect image limit) cleared image address enters);
        all_told = λ size room. (
          place_whole size 0 (flash_events dialect image limit) (omega (arith, fits, room)) ∙ omega arith,
          ap (λ (es : List Event). place_after size 0 es) ends.events
              ∙ place_whole size 0 (flash_events dialect image limit) (omega (arith, fits, room)) ∙ omega arith,
        );
      }

pub nothing_differs : NothingDiffers
nothing_differs = both_sides
