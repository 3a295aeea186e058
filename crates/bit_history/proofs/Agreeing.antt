-- What a step tells and does to memory, against what its history has: both stamp the same, where the first bit, the count and the number are the same, or where
-- there is no bit at all; and a bit of memory is then what the history says of it.
use Rattle.std.specs.Prelude.{Some, None, Ok}
use Prim.Native.Nat.{ℕ, ◌+◌, ◌*◌, ◌/◌, ◌%◌, ◌≤◌, ◌<◌}
use mathlib.Core.Bool.{Bool, true, false, ◌&&◌, or-false}
use mathlib.Core.List.{List, [], ◌∷◌, ◌++◌}
use mathlib.Core.Path.{◌≡◌, refl, sym, ap, ap₂, ◌∙◌}
use native.Mathlib.Omega.{arith}
use borrow.Author.Tests.{lt-ltb}
use lib.Dec.{ltb}
use lib.ListN.{length}
use Rattle.words.specs.rules.Bits.{within}
use Rattle.words.specs.rules.Bytes.{byte, bit_at}
use Rattle.words.specs.rules.Choice.{pick}
use Rattle.words.proofs.Choice.{passed, both}
use Rattle.words.proofs.Ranges.{above}
use Rattle.windows.specs.declared.Window.{Window}
use Rattle.commands.specs.rules.Commands.{shape_of, shape_judged, setting_judged, Shape}
use Rattle.commands.specs.rules.Wrote.{first_bit, none_wrote, shape_wrote, setting_wrote}
use Rattle.commands.specs.declared.Wrote.{Wrote}
use Rattle.law_effects.specs.claims.Effects.{Effect, writes, some_writes, Does}
use Rattle.law_effects.specs.claims.Wrote.{Reports}
use Rattle.bit_stamps.specs.rules.Stamps.{told_bit, is_told, stamped_from, stamped}
use Rattle.bit_stamps.proofs.Stamping.{none_written}
use Rattle.bit_history.specs.claims.History.{Numbered, any_writes, last_of, LeftBy, AsListed, wrote_by, stamped_all, numbers_fit}
use Rattle.bit_history.specs.claims.Accepted.{one}

-- a stamp goes by the first bit, the count and the number
module _ (places : List ℕ) (v w : Wrote) (first : first_bit v ≡ first_bit w) (count : v.count ≡ w.count) (number : v.number ≡ w.number) where
  same_told : (i : ℕ) → is_told places v i ≡ is_told places w i
  unfolding is_told
  same_told i = ap₂ (λ (b n : ℕ). ltb (i / 64) (length places) && within b n (told_bit places i)) first count

  same_from : (i : ℕ) (bytes : List ℕ) → stamped_from i bytes places v ≡ stamped_from i bytes places w
  unfolding stamped_from
  same_from i [] = refl
  same_from i (b ∷ bs) =
      ap₂ ◌∷◌ (ap₂ (λ (t : Bool) (n : ℕ). pick t (byte n (i % 2)) b) (same_told i) number) (same_from (i + 1) bs)

-- what is told stamps what a history stamps
abbrev pub Agrees : Wrote → List Numbered → Type 0
Agrees w cs = (entries places : List ℕ) → stamped entries places w ≡ stamped_all entries places cs

agrees_none : (w : Wrote) → w.count ≡ 0 → Agrees w []
unfolding stamped_all
agrees_none w none entries places = none_written entries places w none

agrees_one : (w : Wrote) (c : Numbered) → Reports w c.effect → w.number ≡ c.number → Agrees w (c ∷ [])
unfolding stamped_all
agrees_one w c reports number entries places =
    let first : first_bit w ≡ 8 * 0 + c.effect.first = omega (arith, reports.0) in
    same_from places w (wrote_by c) first reports.1 number 0 entries

-- what is told is what a history lists, and so is what is given to memory, inside it
abbrev pub Told : List Numbered → Wrote → Type 0
Told [] w = w ≡ none_wrote
Told (c ∷ []) w = (w.number ≡ c.number) × Reports w c.effect
Told (c ∷ d ∷ cs) w = ⊥

abbrev pub Given : List Numbered → List ℕ → List ℕ → Type 0
Given [] before after = after ≡ before
Given (c ∷ []) before after = Does c.effect before after
Given (c ∷ d ∷ cs) before after = ⊥

abbrev pub Inside : List Numbered → List ℕ → Type 0
Inside [] before = Unit {0}
Inside (c ∷ []) before = c.effect.first + c.effect.count ≤ 8 * length before
Inside (c ∷ d ∷ cs) before = ⊥

pub agrees_told : (cs : List Numbered) (w : Wrote) → Told cs w → Agrees w cs
agrees_told [] w told = agrees_none w (ap (λ (x : Wrote). x.count) told)
agrees_told (c ∷ []) w told = agrees_one w c told.1 told.0
agrees_told (c ∷ d ∷ cs) w told = absurd told

-- a bit is listed where it is told
pub same_told_bits : (cs : List Numbered) (w : Wrote) → Told cs w → (p : ℕ) → any_writes cs p ≡ within (first_bit w) w.count p
unfolding some_writes
same_told_bits [] w told p = sym (ap (λ (x : Wrote). within (first_bit x) x.count p) told ∙ above 0 0 p (omega arith))
same_told_bits (c ∷ []) w told p =
    or-false (writes c.effect p) ∙ sym (ap₂ (λ (b n : ℕ). within b n p) told.1.0 told.1.1)
same_told_bits (c ∷ d ∷ cs) w told p = absurd told

-- a bit after one command, or none
pub left_given : (cs : List Numbered) (before after : List ℕ) → Given cs before after → LeftBy cs before after
unfolding last_of some_writes
left_given [] before after given =
    record { same_length = ap (λ (m : List ℕ). length m) given; each_bit = λ p h. ap (λ (m : List ℕ). bit_at m p) given }
left_given (c ∷ []) before after given =
    record { same_length = given.same_length; each_bit = λ p h. given.each_bit p h ∙ sym (passed false _ _ refl) }
left_given (c ∷ d ∷ cs) before after given = absurd given

-- all three together
pub listed : (cs : List Numbered) (w : Wrote) (before after : List ℕ) → Told cs w → Given cs before after → Inside cs before → AsListed cs w before after
listed [] w before after told given lies = (told, given)
listed (c ∷ []) w before after told given lies = (told.0, record { reports = told.1; does = record { does = given; lies = lies } })
listed (c ∷ d ∷ cs) w before after told given lies = told

-- a setting that is granted tells by its number: its shape is not wrong
pub setting_number : (windows : List Window) (word address value place number : ℕ) → setting_judged windows word address value ≡ Ok place
    → (setting_wrote (Ok place) word number).number ≡ number
setting_number windows word address value place number e = by_shape (shape_of word) e
  where
    by_shape : (shape : Shape) → shape_judged windows shape address value ≡ Ok place → (shape_wrote place shape number).number ≡ number
    by_shape None e = absurd (let z : ◌≡◌ {A = ℕ} 0 1 = cc in omega arith)
    by_shape (Some bits) e = refl

-- the numbers of one command, and of two histories
pub fit_one : (n : ℕ) (e : Effect) → n < 65536 → numbers_fit (one n e) ≡ true
unfolding numbers_fit
fit_one n e h = ap (λ (t : Bool). t && true) (lt-ltb _ _ h)

pub fit_both : (earlier later : List Numbered) → numbers_fit earlier ≡ true → numbers_fit later ≡ true → numbers_fit (earlier ++ later) ≡ true
unfolding numbers_fit
fit_both [] later e f = f
fit_both (c ∷ cs) later e f =
    let parts = both (ltb c.number 65536) (numbers_fit cs) e in
    ap₂ ◌&&◌ parts.0 (fit_both cs later parts.1 f)

-- a choice between two empty histories
pub same_choice : (t : Bool) → pick {A = List Numbered} t [] [] ≡ []
unfolding pick
same_choice true = refl
same_choice false = refl
