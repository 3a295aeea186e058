-- The bytes that are lent to a call are units, on either line: whole units stay whole beside what follows them, and the four bytes of a word are its units.
use Prim.Native.Nat.{ℕ, ◌+◌, ◌*◌, ◌/◌, ◌%◌, ◌^◌, ◌<◌}
use mathlib.Core.Bool.{Bool, true, false}
use mathlib.Core.List.{List, [], ◌∷◌, ◌++◌}
use mathlib.Core.Path.{◌≡◌, refl, ap, ◌∙◌}
use native.Mathlib.Omega.{arith}
use lib.Dec.{lit<}
use lib.ListN.{length, length-append}
use Rattle.words.specs.rules.Bytes.{byte, words_bytes}
use Rattle.words.specs.rules.Choice.{pick}
use Rattle.sent.specs.rules.Bus.{all_units, halves_of, units_fed}
use Rattle.sent.specs.declared.Bus.{Bus}
use Rattle.sent.specs.declared.Bus.TheVariants.{Bytes, Halves}
use Rattle.bench_sessions.specs.rules.Feeding.{unit_bytes}
use Rattle.sent_laws.specs.claims.Lines.{AreWords}
use Rattle.law_retries.specs.claims.Pieces.{Piece, start_over_opcode, all_words, words_of, AllSendable}
use Rattle.law_retries.specs.claims.Retries.{Attempt, asking_opcode, attempt_words, attempts_words, attempts_pieces}
use Rattle.law_retries.proofs.Several.{sendable_append}
use Rattle.law_calls.specs.claims.Traceless.{Lent, fed_around}

-- whole units and any bytes after them
halves_append : (bs cs : List ℕ) → length bs % 2 ≡ 0 → halves_of (bs ++ cs) ≡ halves_of bs ++ halves_of cs
unfolding halves_of
halves_append [] cs whole = refl
halves_append (low ∷ []) cs whole = absurd (omega arith)
halves_append (low ∷ high ∷ bs) cs whole = ap (λ (us : List ℕ). (low + high * 2 ^ 8) ∷ us) (halves_append bs cs (omega arith))

fed_append : (bus : Bus) (bs cs : List ℕ) → length bs % unit_bytes bus ≡ 0 → units_fed bus (bs ++ cs) ≡ units_fed bus bs ++ units_fed bus cs
fed_append Bytes bs cs whole = refl
fed_append Halves bs cs whole = halves_append bs cs whole

-- words and any bytes after them
low_half : (w : ℕ) → byte w 0 + byte w 1 * 2 ^ 8 ≡ w % 2 ^ 16
unfolding byte
low_half w = omega arith

high_half : (w : ℕ) → w < 2 ^ 32 → byte w 2 + byte w 3 * 2 ^ 8 ≡ w / 2 ^ 16
unfolding byte
high_half w h = omega arith

words-fed : (bus : Bus) (ws rest : List ℕ) → AreWords ws → units_fed bus (words_bytes ws ++ rest) ≡ all_units bus ws ++ units_fed bus rest
unfolding halves_of
words-fed Bytes [] rest small = refl
words-fed Bytes (w ∷ ws) rest small = ap (λ (l : List ℕ). byte w 0 ∷ byte w 1 ∷ byte w 2 ∷ byte w 3 ∷ l) (words-fed Bytes ws rest small.1)
words-fed Halves [] rest small = refl
words-fed Halves (w ∷ ws) rest small = λ i. low_half w i ∷ high_half w small.0 i ∷ words-fed Halves ws rest small.1 i

pub bytes_length : (ws : List ℕ) → length (words_bytes ws) ≡ 4 * length ws
bytes_length [] = refl
bytes_length (w ∷ ws) = omega (arith, bytes_length ws)

-- all units of a call that is fed words in the middle
pub around_units : (bus : Bus) (lent : Lent) (words : List ℕ) → length lent.before % unit_bytes bus ≡ 0 → AreWords words
    → units_fed bus (fed_around lent words) ≡ units_fed bus lent.before ++ (all_units bus words ++ units_fed bus lent.after)
around_units bus lent words whole small =
    fed_append bus lent.before (words_bytes words ++ lent.after) whole
    ∙ ap (λ (us : List ℕ). units_fed bus lent.before ++ us) (words-fed bus words lent.after small)

-- how many bytes they are
pub around_length : (lent : Lent) (words : List ℕ) → length (fed_around lent words) ≡ length lent.before + length lent.after + 4 * length words
around_length lent words =
    omega (
      arith,
      length-append lent.before (words_bytes words ++ lent.after),
      length-append (words_bytes words) lent.after,
      bytes_length words,
    )

-- what can be sent is words
pub are_words : (ws vs : List ℕ) → AreWords ws → AreWords vs → AreWords (ws ++ vs)
are_words [] vs small others = others
are_words (w ∷ ws) vs small others = (small.0, are_words ws vs small.1 others)

pub pieces_words : (cs : List Piece) → AllSendable cs → AreWords (all_words cs)
unfolding all_words AllSendable
pieces_words [] s = tt
pieces_words (c ∷ cs) s = are_words (words_of c) (all_words cs) s.0.0 (pieces_words cs s.1)

closing_words : (asked : Bool) → AreWords (pick asked (asking_opcode ∷ []) [] ++ (start_over_opcode ∷ []))
unfolding pick
closing_words true = (lit< tt, (lit< tt, tt))
closing_words false = (lit< tt, tt)

pub attempt-words : (a : Attempt) → AllSendable a.pieces → AreWords (attempt_words a)
attempt-words a s = are_words (all_words a.pieces) _ (pieces_words a.pieces s) (closing_words a.asked)

pub attempts-words : (attempts : List Attempt) → AllSendable (attempts_pieces attempts) → AreWords (attempts_words attempts)
unfolding attempts_words attempts_pieces
attempts-words [] s = tt
attempts-words (a ∷ rest) s =
    let parts = sendable_append a.pieces (attempts_pieces rest) s in
    are_words (attempt_words a) (attempts_words rest) (attempt-words a parts.0) (attempts-words rest parts.1)
