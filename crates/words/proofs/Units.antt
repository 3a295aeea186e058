-- What reading and writing a unit comes to in each case. Each law takes the tests of a definition one after the other.
use Prim.Native.Nat.{ℕ, ◌+◌, ◌-◌, ◌*◌, ◌≤◌, ◌<◌}
use mathlib.Core.Path.{◌≡◌, sym, ap, ap₂, ◌∙◌}
use mathlib.Core.Bool.{Bool, true, false, ◌&&◌, and-false}
use mathlib.Core.List.{List}
use native.Mathlib.Nat.{add-sub_cancel_left}
use native.Mathlib.Omega.{arith}
use lib.Dec.{leb, lit<, lit≤}
use lib.ListN.{length, take, drop, length-take}
use lib.Seq.{take_all}
use borrow.Author.Tests.{le-leb, lt-leb}
use Rattle.words.specs.rules.Bits.{with_field}
use Rattle.words.specs.rules.Bytes.{byte, number, put, bytes_at, size_of, fits, field_fits, written, field_written}
use Rattle.words.specs.declared.Unit.{Unit as UnitOf}
use Rattle.words.specs.declared.Unit.TheVariants.{One, Two, Four}
use Rattle.words.proofs.Choice.{chosen, passed}

pub size_above : (u : UnitOf) → 0 < size_of u
size_above One = lit< tt
size_above Two = lit< tt
size_above Four = lit< tt

pub size_within : (u : UnitOf) → size_of u ≤ 4
size_within One = lit≤ tt
size_within Two = lit≤ tt
size_within Four = lit≤ tt

-- the part of a slice that is lent for a unit has at most the four bytes that a number is made of
pub unit_number : (m : List ℕ) (at n : ℕ) (u : UnitOf) → n ≡ size_of u
    → number (take 4 (take (at + n - at) (drop at m))) ≡ number (bytes_at m at (size_of u))
unfolding bytes_at
unit_number m at n u e =
    rw (add-sub_cancel_left, e)
    (ap number (take_all 4 (take (size_of u) (drop at m)) (simp length-take (omega (arith, size_within u)))))

pub fits_true : (m : List ℕ) (at n : ℕ) → at + n ≤ length m → fits m at n ≡ true
unfolding fits
fits_true m at n h = le-leb _ _ h

pub fits_false : (m : List ℕ) (at n : ℕ) → length m < at + n → fits m at n ≡ false
unfolding fits
fits_false m at n h = lt-leb _ _ h

-- a unit that does not fit is not written
pub write_refused : (m : List ℕ) (at : ℕ) (u : UnitOf) (v : ℕ) → length m < at + size_of u
    → (false ≡ fits m at (size_of u)) × (m ≡ written m at u v)
unfolding written
write_refused m at u v h =
    let out = fits_false m at (size_of u) h in
    (sym out, sym (passed _ _ _ out))

-- one that fits is
pub write_done : (m : List ℕ) (at : ℕ) (u : UnitOf) (v : ℕ) → at + size_of u ≤ length m
    → (true ≡ fits m at (size_of u)) × (put m at (size_of u) (byte v) ≡ written m at u v)
unfolding written
write_done m at u v h =
    let inside = fits_true m at (size_of u) h in
    (sym inside, sym (chosen _ _ _ inside))

module _ (m : List ℕ) (at : ℕ) (u : UnitOf) (s n d : ℕ) where
  -- a field that does not lie in its unit, or whose unit does not fit, is not written
  field_refused : field_fits m at u s n ≡ false → (false ≡ field_fits m at u s n) × (m ≡ field_written m at u s n d)
  unfolding field_written
  field_refused out = (sym out, sym (passed _ _ _ out))

  pub field_past_end : length m < at + size_of u → (false ≡ field_fits m at u s n) × (m ≡ field_written m at u s n d)
  unfolding field_fits
  field_past_end h =
      field_refused (ap (λ (t : Bool). t && leb (s + n) (8 * size_of u)) (fits_false m at (size_of u) h))

  pub field_past_unit : 8 * size_of u < s + n → (false ≡ field_fits m at u s n) × (m ≡ field_written m at u s n d)
  unfolding field_fits
  field_past_unit h =
      field_refused (ap (λ (t : Bool). fits m at (size_of u) && t) (lt-leb _ _ h) ∙ and-false (fits m at (size_of u)))

  pub field_done : at + size_of u ≤ length m → s + n ≤ 8 * size_of u
      → (true ≡ field_fits m at u s n)
      × (put m at (size_of u) (byte (with_field (number (bytes_at m at (size_of u))) s n d)) ≡ field_written m at u s n d)
  unfolding field_written field_fits
  field_done h l =
      let inside : field_fits m at u s n ≡ true = ap₂ ◌&&◌ (fits_true m at (size_of u) h) (le-leb _ _ l) in
      (sym inside, sym (chosen _ _ _ inside))
