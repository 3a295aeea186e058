-- Commands on memory: it keeps its length and stays bytes, since a command does nothing but put bytes into it.
use Rattle.std.specs.Prelude.{Option, Some, None, Ok, Err}
use Prim.Native.Nat.{ℕ, zero, suc, ◌+◌, ◌<◌}
use mathlib.Core.List.{List, [], ◌∷◌}
use mathlib.Core.Path.{◌≡◌, refl}
use native.Mathlib.Omega.{arith}
use lib.Dec.{lit<}
use lib.ListN.{length, set, take}
use Rattle.words.specs.rules.Bytes.{words_bytes, byte, put, size_of, field_written}
use Rattle.words.proofs.Choice.{of_choice}
use Rattle.words.proofs.Puts.{length_put}
use Rattle.words.specs.declared.Unit.{Unit as UnitOf}
use Rattle.words.specs.declared.Unit.{Unit as UnitOf}
use Rattle.commands.specs.rules.Commands.{memory_if, unit_of, type_filled, fill_memory, shape_of, shape_set, setting_memory, Judged, Shape}
use Rattle.stores.specs.rules.Stores.{loaded, filled}
use Rattle.words.specs.rules.Bytes.{words_bytes, AreBytes}
use Rattle.machine_loads.specs.rules.Loads.{data_bytes}

-- bytes stay bytes
set_bytes : (m : List ℕ) (at v : ℕ) → v < 256 → AreBytes m → AreBytes (set m at v)
set_bytes [] at v h are i = are i
set_bytes (b ∷ m) zero v h are zero = h
set_bytes (b ∷ m) zero v h are (suc i) = are (suc i)
set_bytes (b ∷ m) (suc at) v h are zero = are zero
set_bytes (b ∷ m) (suc at) v h are (suc i) = set_bytes m at v h (λ j. are (suc j)) i

put_bytes : (m : List ℕ) (at n : ℕ) (f : ℕ → ℕ) → ((i : ℕ) → f i < 256) → AreBytes m → AreBytes (put m at n f)
unfolding put
put_bytes m at zero f small are = are
put_bytes m at (suc n) f small are = set_bytes (put m at n f) (at + n) (f n) (small n) (put_bytes m at n f small are)

byte_small : (v i : ℕ) → byte v i < 256
unfolding byte
byte_small v i = omega arith

-- bytes written over memory: it keeps its length, and stays bytes
pub record Overwritten (m later : List ℕ) : Type 0 where
  pub same_length : length later ≡ length m
  pub bytes : AreBytes m → AreBytes later

pub untouched : {m : List ℕ} → Overwritten m m
untouched = record { same_length = refl; bytes = λ are. are }

put_over : (m : List ℕ) (at n : ℕ) (f : ℕ → ℕ) → ((i : ℕ) → f i < 256) → Overwritten m (put m at n f)
put_over m at n f small = record { same_length = length_put m at n f; bytes = put_bytes m at n f small }

pub loaded_over : (m : List ℕ) (place : ℕ) (bs : List ℕ) → AreBytes bs → Overwritten m (loaded m place bs)
unfolding loaded
loaded_over m place bs small = put_over m place (length bs) _ small

filled_over : (m : List ℕ) (place size : ℕ) (kind : Option UnitOf) (pattern : ℕ) → Overwritten m (type_filled m place size kind pattern)
unfolding filled
filled_over m place size None pattern = untouched
filled_over m place size (Some unit) pattern = put_over m place size _ (λ i. byte_small pattern _)

set_shape_over : (m : List ℕ) (place : ℕ) (shape : Shape) (value : ℕ) → Overwritten m (shape_set m place shape value)
unfolding field_written
set_shape_over m place None value = untouched
set_shape_over m place (Some bits) value =
    of_choice (Overwritten m) _ (λ e. put_over m place (size_of bits.unit) _ (λ i. byte_small _ i)) (λ e. untouched)

-- so of a command, granted or refused
pub if_over : (m : List ℕ) (judged : Judged) (writing : ℕ → List ℕ) → ((place : ℕ) → Overwritten m (writing place)) → Overwritten m (memory_if judged writing m)
if_over m (Ok place) writing over = over place
if_over m (Err q) writing over = untouched

pub fill_over : (judged : Judged) (m : List ℕ) (size kind pattern : ℕ) → Overwritten m (fill_memory judged m size kind pattern)
unfolding fill_memory
fill_over judged m size kind pattern = if_over m judged _ (λ place. filled_over m place size (unit_of kind) pattern)

pub setting_over : (judged : Judged) (m : List ℕ) (word value : ℕ) → Overwritten m (setting_memory judged m word value)
unfolding setting_memory
setting_over judged m word value = if_over m judged _ (λ place. set_shape_over m place (shape_of word) value)

-- some of some bytes, and the bytes of words
pub take_bytes : (n : ℕ) (bs : List ℕ) → AreBytes bs → AreBytes (take n bs)
take_bytes zero bs are i = lit< tt
take_bytes (suc n) [] are i = are i
take_bytes (suc n) (b ∷ bs) are zero = are zero
take_bytes (suc n) (b ∷ bs) are (suc i) = take_bytes n bs (λ j. are (suc j)) i

pub words-bytes : (ws : List ℕ) → AreBytes (words_bytes ws)
words-bytes [] i = lit< tt
words-bytes (w ∷ ws) zero = byte_small w 0
words-bytes (w ∷ ws) (suc zero) = byte_small w 1
words-bytes (w ∷ ws) (suc (suc zero)) = byte_small w 2
words-bytes (w ∷ ws) (suc (suc (suc zero))) = byte_small w 3
words-bytes (w ∷ ws) (suc (suc (suc (suc i)))) = words-bytes ws i

pub data_over : (m : List ℕ) (place word left : ℕ) → Overwritten m (loaded m place (data_bytes word left))
data_over m place word left = loaded_over m place (data_bytes word left) (take_bytes left (words_bytes (word ∷ [])) (words-bytes (word ∷ [])))
