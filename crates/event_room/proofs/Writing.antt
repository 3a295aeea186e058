-- Events in a room: each law goes by induction over the events, and one event by whether its eight bytes fit.
use Prim.Native.Nat.{ℕ, suc, ◌+◌, ◌*◌, ◌≤◌, ◌<◌}
use mathlib.Core.List.{List, [], ◌∷◌, ◌++◌}
use mathlib.Core.Logic.{◌≢◌}
use mathlib.Core.Path.{◌≡◌, refl, sym, ap, ap₂, ◌∙◌}
use native.Mathlib.Omega.{arith}
use lib.ListN.{length, set}
use lib.Seq.{sets, length-sets}
use borrow.Author.Tests.{le-leb, lt-leb}
use Rattle.words.specs.rules.Bytes.{byte, put, written, words_bytes}
use Rattle.words.specs.declared.Unit.TheVariants.{Four}
use Rattle.words.proofs.Choice.{chosen, passed, of_choice}
use Rattle.words.proofs.Units.{write_done}
use Rattle.opcodes.specs.rules.Answers.{kind_of, value_of, told}
use Rattle.opcodes.specs.declared.Event.{Event}
use Rattle.opcodes.specs.declared.Event.TheVariants as event
use Rattle.event_room.specs.rules.Room.{event_bytes, event_fits, past_event, with_event, place_after, room_after}
use Rattle.event_room.specs.claims.Room.{EventsInRoom}

-- four bytes stored at the same places
four_set : (m : List ℕ) (w x y z : ℕ) {a b c d a₁ b₁ c₁ d₁ : ℕ} → a ≡ a₁ → b ≡ b₁ → c ≡ c₁ → d ≡ d₁
    → set (set (set (set m a w) b x) c y) d z ≡ set (set (set (set m a₁ w) b₁ x) c₁ y) d₁ z
four_set m w x y z e f g h = rw (e, f, g, h) refl

-- a word that fits, byte by byte
pub word_laid : (m : List ℕ) (at word : ℕ) → at + 4 ≤ length m → written m at Four word ≡ sets m at (words_bytes (word ∷ []))
unfolding put
word_laid m at word fits =
    sym (write_done m at Four word fits).1
    ∙ four_set m (byte word 0) (byte word 1) (byte word 2) (byte word 3) {d₁ = suc (suc (suc at))} (omega arith) (omega arith) (omega arith) (omega arith)

-- one event
module _ (room : List ℕ) (place : ℕ) (e : Event) where
  with_length : length (with_event room place e) ≡ length room
  unfolding with_event
  with_length =
      of_choice (λ (l : List ℕ). length l ≡ length room) (event_fits (length room) place) (λ t. length-sets room place (event_bytes (e ∷ []))) (λ t. refl)

  with_fitting : place + 8 ≤ length room → with_event room place e ≡ sets room place (event_bytes (e ∷ []))
  unfolding with_event
  with_fitting h = chosen _ _ _ (le-leb _ _ h)

  with_none : length room < place + 8 → with_event room place e ≡ room
  unfolding with_event
  with_none h = passed _ _ _ (lt-leb _ _ h)

past_fitting : (size place : ℕ) → place + 8 ≤ size → past_event size place ≡ place + 8
unfolding past_event
past_fitting size place h = chosen _ _ _ (le-leb _ _ h)

past_none : (size place : ℕ) → size < place + 8 → past_event size place ≡ place
unfolding past_event
past_none size place h = passed _ _ _ (lt-leb _ _ h)

-- the laws
pub length_after : (room : List ℕ) (place : ℕ) (es : List Event) → length (room_after room place es) ≡ length room
unfolding room_after
length_after room place [] = refl
length_after room place (e ∷ es) = length_after (with_event room place e) (past_event (length room) place) es ∙ with_length room place e

pub place_joined : (size place : ℕ) (es fs : List Event) → place_after size place (es ++ fs) ≡ place_after size (place_after size place es) fs
unfolding place_after
place_joined size place [] fs = refl
place_joined size place (e ∷ es) fs = place_joined size (past_event size place) es fs

pub room_joined : (room : List ℕ) (place : ℕ) (es fs : List Event)
    → room_after room place (es ++ fs) ≡ room_after (room_after room place es) (place_after (length room) place es) fs
unfolding room_after place_after
room_joined room place [] fs = refl
room_joined room place (e ∷ es) fs =
    let past = past_event (length room) place in
    room_joined (with_event room place e) past es fs
    ∙ ap (λ (size : ℕ). room_after (room_after (with_event room place e) past es) (place_after size past es) fs) (with_length room place e)

pub place_whole : (size place : ℕ) (es : List Event) → place + 8 * length es ≤ size → place_after size place es ≡ place + 8 * length es
unfolding place_after
place_whole size place [] h = omega arith
place_whole size place (e ∷ es) h =
    let past = past_fitting size place (omega (arith, h)) in
    ap (λ (p : ℕ). place_after size p es) past ∙ place_whole size (place + 8) es (omega (arith, h)) ∙ omega arith

pub room_whole : (room : List ℕ) (place : ℕ) (es : List Event) → place + 8 * length es ≤ length room → room_after room place es
    ≡ sets room place (event_bytes es)
unfolding room_after
room_whole room place [] h = refl
room_whole room place (e ∷ es) h =
    let fits : place + 8 ≤ length room = omega (arith, h) in
    let laid = sets room place (event_bytes (e ∷ [])) in
    let next : place + 8 ≡ suc (suc (suc (suc (suc (suc (suc (suc place))))))) = omega arith in
    ap₂ (λ (l : List ℕ) (p : ℕ). room_after l p es) (with_fitting room place e fits) (past_fitting (length room) place fits)
    ∙ room_whole laid (place + 8) es (omega (arith, h, length-sets room place (event_bytes (e ∷ []))))
    ∙ ap (λ (p : ℕ). sets laid p (event_bytes es)) next

-- the cases of an event that is told
pub nothing_told : (e : Event) → kind_of e ≡ 0 → told e ≡ []
nothing_told event.Nothing k = refl
nothing_told (event.Wait cycles) k = absurd (omega (arith, k))
nothing_told (event.Enter address) k = absurd (omega (arith, k))

pub one_told : (e : Event) → kind_of e ≢ 0 → told e ≡ e ∷ []
one_told event.Nothing k = absurd (k refl)
one_told (event.Wait cycles) k = refl
one_told (event.Enter address) k = refl

-- by what the code has: none, no room, or two words one after the other
module _ (room : List ℕ) (place : ℕ) (e : Event) where
  pub tells_nothing : kind_of e ≡ 0 → (place ≡ place_after (length room) place (told e)) × (room ≡ room_after room place (told e))
  unfolding place_after room_after
  tells_nothing none =
      let empty = nothing_told e none in
      (sym (ap (place_after (length room) place) empty), sym (ap (room_after room place) empty))

  pub tells_none : kind_of e ≢ 0 → length room < place + 8 → (place ≡ place_after (length room) place (told e)) × (room ≡ room_after room place (told e))
  unfolding place_after room_after
  tells_none some short =
      let one = one_told e some in (
        sym (ap (place_after (length room) place) one ∙ past_none (length room) place short),
        sym (ap (room_after room place) one ∙ with_none room place e short),
      )

  pub tells_one : {kind value : ℕ} {half left : List ℕ} → kind_of e ≢ 0 → place + 8 ≤ length room → kind ≡ kind_of e → value ≡ value_of e
      → half ≡ written room place Four kind → left ≡ written half (place + 4) Four value
      → (place + 8 ≡ place_after (length room) place (told e)) × (left ≡ room_after room place (told e))
  unfolding place_after room_after
  tells_one some fits k v first second =
      let one = one_told e some in
      let next : place + 4 ≡ suc (suc (suc (suc place))) = omega arith in
      let low = sets room place (words_bytes (kind_of e ∷ [])) in
      let halved = first ∙ ap (λ (n : ℕ). written room place Four n) k ∙ word_laid room place (kind_of e) (omega (arith, fits)) in
      let long : place + 4 + 4 ≤ length low = omega (arith, fits, length-sets room place (words_bytes (kind_of e ∷ []))) in (
        sym (ap (place_after (length room) place) one ∙ past_fitting (length room) place fits),
        second
            ∙ ap₂ (λ (l : List ℕ) (n : ℕ). written l (place + 4) Four n) halved v
            ∙ word_laid low (place + 4) (value_of e) long
            ∙ ap (λ (p : ℕ). sets low p (words_bytes (value_of e ∷ []))) next
            ∙ sym (ap (room_after room place) one ∙ with_fitting room place e fits),
      )

pub events_in_room : EventsInRoom
events_in_room =
    record { same_length = length_after; place_joined = place_joined; room_joined = room_joined; place_whole = place_whole; room_whole = room_whole }
