-- Load, Fill and Boot Table write the bits that their effects say, and keep all others: the laws of writes to a list, where a granted range
-- lies inside the memory. A byte is told by its bits, so memory is too.
use Rattle.std.specs.Prelude.{Option, Some, None, Ok, Err, ok_or}
use Prim.Native.Nat.{ℕ, zero, suc, ◌+◌, ◌*◌, ◌/◌, ◌%◌, ◌^◌, ◌≤◌, ◌<◌}
use mathlib.Core.Bool.{Bool, true, false, ◌&&◌}
use mathlib.Core.List.{List}
use mathlib.Core.Path.{◌≡◌, sym, subst, ◌∙◌}
use native.Mathlib.Omega.{arith}
use lib.Dec.{leb}
use lib.ListN.{length, get_or}
use lib.Seq.{ext_get_or}
use borrow.Author.Tests.{leb-true}
use Rattle.words.specs.rules.Bits.{bit}
use Rattle.words.specs.rules.Bytes.{byte, put, bit_at, size_of, field_written}
use Rattle.words.specs.rules.Choice.{pick}
use Rattle.words.specs.declared.Unit.{Unit as UnitOf}
use Rattle.words.proofs.Joins.{bit_shifted}
use Rattle.words.proofs.Puts.{length_put}
use Rattle.words.proofs.Units.{field_done}
use Rattle.words.proofs.WrittenBits.{bit_put, bit_written}
use Rattle.windows.specs.rules.Window.{sum_of}
use Rattle.windows.specs.declared.Right.{Right}
use Rattle.windows.specs.declared.Window.{Window}
use Rattle.windows.proofs.Laws.{placed_inside}
use Rattle.words.proofs.Choice.{both, of_choice}
use Rattle.opcodes.specs.declared.Refusal.{Refusal}
use Rattle.commands.specs.rules.Commands.{range_judged, load_judged, unit_of, units_judged, type_judged}
use Rattle.commands.specs.rules.Commands.{fill_judged, type_filled, fill_memory, start_of, stop_of}
use Rattle.commands.specs.rules.Commands.{field_shape, type_shape, shape_of, too_wide, shape_judged, setting_judged, shape_set, setting_memory, Judged, Shape}
use Rattle.commands.specs.declared.Bits.{Bits}
use Rattle.stores.specs.rules.Stores.{loaded, filled}
use Rattle.law_effects.specs.claims.Effects.{bytes_effect, load_effect, fill_effect, setting_effect, Does, DoesInside}

-- bytes written one after the other
put_does : (m : List ℕ) (place n : ℕ) (f : ℕ → ℕ) → Does (bytes_effect place n f) m (put m place n f)
put_does m place n f = record { same_length = length_put m place n f; each_bit = bit_put m place n f }

pub load_does : (m : List ℕ) (place : ℕ) (bytes : List ℕ) → Does (load_effect place bytes) m (loaded m place bytes)
unfolding loaded
load_does m place bytes = put_does m place (length bytes) (λ i. get_or bytes i 0)

pub fill_does : (m : List ℕ) (place size : ℕ) (unit : UnitOf) (pattern : ℕ)
    → Does (fill_effect place size (Some unit) pattern) m (filled m place size unit pattern)
unfolding filled
fill_does m place size unit pattern = put_does m place size _

-- bits of a unit written, where they lie in the unit and the unit in the memory
field_does : (m : List ℕ) (place : ℕ) (bits : Bits) (value : ℕ)
    → bits.start + bits.width ≤ 8 * size_of bits.unit → place + size_of bits.unit ≤ length m
    → Does (setting_effect place (Some bits) value) m (field_written m place bits.unit bits.start bits.width value)
field_does m place bits value lie fit =
    subst (Does (setting_effect place (Some bits) value) m) (field_done m place bits.unit bits.start bits.width value fit lie).1
    (record {
      same_length = length_put m place (size_of bits.unit) _;
      each_bit = λ p h. bit_written m place (size_of bits.unit) bits.start bits.width value p fit lie h;
    })

-- the bits of a shape lie in its unit
abbrev Lies : Shape → Type 0
Lies None = Unit {0}
Lies (Some bits) = bits.start + bits.width ≤ 8 * size_of bits.unit

field_lies : (start stop : ℕ) → Lies (field_shape start stop)
unfolding field_shape
field_lies start stop =
    of_choice Lies (leb start stop && leb stop 31)
    (λ e.
    let parts = both (leb start stop) (leb stop 31) e in
    omega (arith, leb-true start stop parts.0, leb-true stop 31 parts.1))
    (λ e. tt)

type_lies : (word : ℕ) (kind : Option UnitOf) → Lies (type_shape word kind)
type_lies word (Some unit) = omega arith
type_lies word None = of_choice Lies _ (λ e. field_lies (start_of word) (stop_of word)) (λ e. tt)

every_shape_lies : (word : ℕ) → Lies (shape_of word)
unfolding shape_of
every_shape_lies word = of_choice Lies _ (λ e. tt) (λ e. type_lies word (unit_of (byte word 0)))

-- a refused command leaves memory as it was
module _ (m : List ℕ) {judged : Judged} {q : Refusal} (refused : judged ≡ Err q) where
  pub fill_refused : (size kind pattern : ℕ) → fill_memory judged m size kind pattern ≡ m
  unfolding fill_memory
  fill_refused size kind pattern = rw refused

  pub setting_refused : (word value : ℕ) → setting_memory judged m word value ≡ m
  unfolding setting_memory
  setting_refused word value = rw refused

-- what is granted past a refusal is granted
past_refusal : (t : Bool) (q : Refusal) {judged : Judged} {place : ℕ} → pick t (Err q) judged ≡ Ok place → judged ≡ Ok place
unfolding pick
past_refusal true q e = cc
past_refusal false q e = e

-- a granted range has its place
granted_place : (q : Refusal) (found : Option ℕ) {place : ℕ} → ok_or found q ≡ Ok place → found ≡ Some place
granted_place q (Some found) e = cc
granted_place q None e = cc

-- a granted command does its effect, inside the memory, where the memory has the map's length
module _ (windows : List Window) (m : List ℕ) (lent : length m ≡ sum_of windows) where
  range_inside : (wanted : Right) (address size : ℕ) {place : ℕ} → range_judged windows wanted address size ≡ Ok place
      → place + size ≤ length m
  unfolding range_judged
  range_inside wanted address size {place} e =
      rw lent (placed_inside windows wanted address size place (granted_place _ _ e))

  pub load_granted : (address : ℕ) (bytes : List ℕ) {place : ℕ} → load_judged windows address (length bytes) ≡ Ok place
      → DoesInside (load_effect place bytes) m (loaded m place bytes)
  unfolding load_judged
  load_granted address bytes {place} e =
      record { does = load_does m place bytes; lies = omega (arith, range_inside _ address (length bytes) e) }

  -- whole units that are granted lie inside the memory
  units_inside : (wanted : Right) (unit : UnitOf) (address size : ℕ) {place : ℕ} → units_judged windows wanted unit address size ≡ Ok place
      → place + size ≤ length m
  unfolding units_judged
  units_inside wanted unit address size e = range_inside wanted address size (past_refusal _ _ e)

  -- a type that is granted is a unit
  type_granted : (kind : Option UnitOf) (address size pattern : ℕ) {place : ℕ} → type_judged windows address size kind ≡ Ok place
      → DoesInside (fill_effect place size kind pattern) m (type_filled m place size kind pattern)
  type_granted None address size pattern e = absurd (let z : ◌≡◌ {A = ℕ} 0 1 = cc in omega arith)
  type_granted (Some unit) address size pattern {place} e =
      record { does = fill_does m place size unit pattern; lies = omega (arith, units_inside _ unit address size e) }

  pub fill_granted : (address size kind pattern : ℕ) {place : ℕ} → fill_judged windows address size kind ≡ Ok place
      → DoesInside (fill_effect place size (unit_of kind) pattern) m (fill_memory (Ok place) m size kind pattern)
  unfolding fill_judged fill_memory
  fill_granted address size kind pattern e = type_granted (unit_of kind) address size pattern e

  -- a shape that is granted is not wrong, and its unit lies inside the memory
  shape_granted : (shape : Shape) → Lies shape → (address value : ℕ) {place : ℕ}
      → shape_judged windows shape address value ≡ Ok place
      → DoesInside (setting_effect place shape value) m (shape_set m place shape value)
  shape_granted None lie address value e = absurd (let z : ◌≡◌ {A = ℕ} 0 1 = cc in omega arith)
  shape_granted (Some bits) lie address value {place} e =
      let fit : place + size_of bits.unit ≤ length m =
      units_inside _ bits.unit address (size_of bits.unit) (past_refusal (bits.field && too_wide bits.width value) _ e) in
      record { does = field_does m place bits value lie fit; lies = omega arith }

  pub setting_granted : (word address value : ℕ) {place : ℕ} → setting_judged windows word address value ≡ Ok place
      → DoesInside (setting_effect place (shape_of word) value) m (setting_memory (Ok place) m word value)
  unfolding setting_memory
  setting_granted word address value e = shape_granted (shape_of word) (every_shape_lies word) address value e

-- a number below a power of two is told by its bits below it
pub bits_tell : (k a b : ℕ) → a < 2 ^ k → b < 2 ^ k → ((j : ℕ) → j < k → bit a j ≡ bit b j) → a ≡ b
unfolding bit
bits_tell zero a b h l same = omega arith
bits_tell (suc k) a b h l same =
    let halves : a / 2 ≡ b / 2 =
    bits_tell k (a / 2) (b / 2) (omega arith) (omega arith)
    (λ j h. bit_shifted a 1 j ∙ same (1 + j) (omega arith) ∙ sym (bit_shifted b 1 j)) in
    omega (arith, same 0 (omega arith))

-- a bit of a byte of memory, by the byte's index
bit_of_byte : (m : List ℕ) (i j : ℕ) → j < 8 → bit_at m (8 * i + j) ≡ bit (get_or m i 0) j
unfolding bit_at
bit_of_byte m i j h =
    let byte-place : (8 * i + j) / 8 ≡ i = omega arith in
    let bit-place : (8 * i + j) % 8 ≡ j = omega arith in
    rw (byte-place, bit-place)

-- bytes with equal bits are equal
pub same_bits : (a b : List ℕ) → length a ≡ length b → ((i : ℕ) → get_or a i 0 < 256) → ((i : ℕ) → get_or b i 0 < 256)
    → ((p : ℕ) → p < 8 * length a → bit_at a p ≡ bit_at b p) → a ≡ b
same_bits a b e a< b< same =
    ext_get_or 0 a b e
    (λ i h. bits_tell 8 _ _ (a< i) (b< i)
    (λ j l. sym (bit_of_byte a i j l) ∙ same (8 * i + j) (omega arith) ∙ bit_of_byte b i j l))
