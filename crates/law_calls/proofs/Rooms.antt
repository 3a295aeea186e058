-- The attempt's words are so many bytes more, so many units more and so much room more; all else that a call passes does not depend on them.
use Prim.Native.Nat.{ℕ, ◌+◌, ◌*◌, ◌/◌, ◌%◌, ◌≤◌}
use mathlib.Core.Bool.{true}
use mathlib.Core.List.{List, ◌++◌}
use mathlib.Core.Path.{◌≡◌, refl, sym, ◌∙◌}
use native.Mathlib.Omega.{arith}
use lib.Dec.{eqb, leb}
use lib.ListN.{length, length-append}
use borrow.Author.Tests.{eqb-true, eq-eqb, leb-true, le-leb}
use Rattle.words.proofs.Choice.{both}
use Rattle.sent.specs.declared.Bus.{Bus}
use Rattle.sent.specs.declared.Bus.TheVariants.{Bytes, Halves}
use Rattle.bench_sessions.specs.rules.Feeding.{unit_bytes, most_fed, opening_room, unit_room, roomy}
use Rattle.law_calls.specs.claims.Calls.{Call, bus_of, opening_of, Feeds}
use Rattle.law_calls.specs.claims.Rooms.{units_in, least_room, LongerNeedsMoreRoom}
use Rattle.law_calls.specs.claims.Traceless.{Lent, fed_around}
use Rattle.law_calls.proofs.Feeding.{begins_passed, passed_begins}
use Rattle.law_calls.proofs.Units.{around_length}

-- what is asked of the bytes and of the room
record Wide (bus : Bus) (bytes : List ℕ) (room : ℕ) : Type 0 where
  whole : length bytes % unit_bytes bus ≡ 0
  few : units_in bus bytes ≤ most_fed
  fits : least_room bus bytes ≤ room

roomy_wide : (bus : Bus) (bytes : List ℕ) (room : ℕ) → roomy bus (length bytes) room ≡ true → Wide bus bytes room
unfolding roomy
roomy_wide bus bytes room e =
    let first = both (eqb (length bytes % unit_bytes bus) 0) _ e in
    let others = both (leb (units_in bus bytes) most_fed) _ first.1 in
    record { whole = eqb-true _ _ first.0; few = leb-true _ _ others.0; fits = leb-true _ _ others.1 }

wide_roomy : (bus : Bus) (bytes : List ℕ) (room : ℕ) → Wide bus bytes room → roomy bus (length bytes) room ≡ true
unfolding roomy
wide_roomy bus bytes room w = rw (eq-eqb _ _ w.whole, le-leb _ _ w.few, le-leb _ _ w.fits) refl

-- a call that feeds some bytes feeds others, where they are wide enough
feeds_others : (call : Call) (map m bytes others room another : List ℕ) → Feeds call map m bytes room → Wide (bus_of call) others (length another)
    → Feeds call map m others another
feeds_others call map m bytes others room another f wide =
    let p = begins_passed (bus_of call) (opening_of call map) (length m) (length bytes) (length room) f.begins in
    record {
      taken = f.taken;
      begins = passed_begins (bus_of call) (opening_of call map) (length m) (length others) (length another)
          (record { opened = p.opened; held = p.held; wide = wide_roomy (bus_of call) others (length another) wide });
    }

feeds_wide : (call : Call) (map m bytes room : List ℕ) → Feeds call map m bytes room → Wide (bus_of call) bytes (length room)
feeds_wide call map m bytes room f =
    roomy_wide (bus_of call) bytes (length room) (begins_passed (bus_of call) (opening_of call map) (length m) (length bytes) (length room) f.begins).wide

-- four bytes more a word
longer_by : (lent : Lent) (attempt following : List ℕ)
    → length (fed_around lent (attempt ++ following)) ≡ length (fed_around lent following) + 4 * length attempt
longer_by lent attempt following =
    omega (arith, around_length lent (attempt ++ following), around_length lent following, length-append attempt following)

more_room : (bus : Bus) (long short words : ℕ) → long ≡ short + 4 * words
    → opening_room bus + unit_room bus * (long / unit_bytes bus) ≡ opening_room bus + unit_room bus * (short / unit_bytes bus) + 8 * words
more_room Bytes long short words e = omega (arith, e)
more_room Halves long short words e = omega (arith, e)

same_whole : (bus : Bus) (long short words : ℕ) → long ≡ short + 4 * words → long % unit_bytes bus ≡ short % unit_bytes bus
same_whole Bytes long short words e = omega (arith, e)
same_whole Halves long short words e = omega (arith, e)

fewer : (bus : Bus) (long short words : ℕ) → long ≡ short + 4 * words → short / unit_bytes bus ≤ long / unit_bytes bus
fewer Bytes long short words e = omega (arith, e)
fewer Halves long short words e = omega (arith, e)

pub longer_needs_more_room : LongerNeedsMoreRoom
longer_needs_more_room call lent attempt following =
    let bus = bus_of call in
    let long = fed_around lent (attempt ++ following) in
    let short = fed_around lent following in
    let by = longer_by lent attempt following in
    let whole = same_whole bus (length long) (length short) (length attempt) by in
    record {
      more = more_room bus (length long) (length short) (length attempt) by;
      least = λ words room f. (feeds_wide call lent.map lent.memory (fed_around lent words) room f).fits;
      shorter_feeds = λ longer shorter f fits.
          let wide = feeds_wide call lent.map lent.memory long longer f in
          feeds_others call lent.map lent.memory long short longer shorter f
          (record {
            whole = sym whole ∙ wide.whole;
            few = omega (arith, wide.few, fewer bus (length long) (length short) (length attempt) by);
            fits = fits;
          });
      longer_feeds = λ longer shorter f few fits.
          let wide = feeds_wide call lent.map lent.memory short shorter f in
          feeds_others call lent.map lent.memory short long shorter longer f (record { whole = whole ∙ wide.whole; few = few; fits = fits });
    }
