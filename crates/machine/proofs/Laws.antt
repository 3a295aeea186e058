-- A load sent in pieces does what the whole load does in flash mode, word by word: a data word writes and feeds the next bytes of the load, and what the later
-- words write and feed goes on from there.
use Rattle.std.specs.Prelude.{Ok}
use Prim.Native.Nat.{ℕ, zero, suc, ◌+◌, ◌-◌, ◌*◌, ◌/◌, ◌%◌, ◌<◌, min}
use mathlib.Core.Bool.{Bool, true, false}
use mathlib.Core.List.{List, [], ◌∷◌, ◌++◌}
use mathlib.Core.Path.{◌≡◌, refl, sym, ap, ap₂, ◌∙◌}
use native.Mathlib.Nat.{add-sub_cancel}
use native.Mathlib.Omega.{arith}
use borrow.Author.Tests.{eq-eqb, ne_eqb}
use lib.ListN.{length, take, drop, take-append-drop}
use lib.Seq.{length-take-le, take-nil}
use Rattle.words.specs.rules.Bits.{bit}
use Rattle.words.specs.rules.Bytes.{words_bytes, byte, number, put}
use Rattle.words.specs.rules.Choice.{pick}
use Rattle.words.proofs.Choice.{chosen, passed}
use Rattle.words.proofs.WrittenBits.{bit_byte, bit_number}
use Rattle.checksum.specs.rules.Checksum.{fed_bit, fed, fed_words}
use Rattle.opcodes.specs.declared.Command.TheVariants as command
use Rattle.commands.specs.rules.Commands.{load_judged, Judged}
use Rattle.stores.specs.rules.Stores.{loaded, words_fed, load_fed}
use Rattle.stores.proofs.Loading.{loaded_append}
use Rattle.commands.specs.rules.Wrote.{none_wrote, bytes_wrote}
use Rattle.commands.specs.declared.Wrote.{Wrote}
use Rattle.machine_loads.proofs.Laws.{data_byte, data_length}
use Rattle.machine_answers.specs.rules.Answers.{WordOutcome, tallied, await, with_checksum, quiet, writing, ◌leaving◌}
use Rattle.machine_answers.specs.rules.Counts.{counted_on, overflowing, out_of_numbers}
use Rattle.machine_loads.specs.rules.Loads.{awaited, load_begun, data_bytes}
use Rattle.machine_commands.specs.rules.Performed.{performed}
use Rattle.machine.specs.rules.Machine.{in_phase, word_step}
use Rattle.machine.specs.claims.Words.{after_words}
use Rattle.machine_answers.specs.declared.Core.{Core}
use Rattle.machine_answers.specs.declared.Kept.{Kept}
use Rattle.machine_answers.specs.declared.Phase.{Phase}
use Rattle.machine_answers.specs.declared.Phase.TheVariants as phase
use Rattle.machine_answers.specs.declared.Taken.{Taken}

-- the first four of n bytes of words are those of the first word that belong to the load, and the others those of the other words
first_bytes : (n w : ℕ) (ws : List ℕ) → take 4 (take n (words_bytes (w ∷ ws))) ≡ data_bytes w n
first_bytes zero w ws = refl
first_bytes (suc zero) w ws = refl
first_bytes (suc (suc zero)) w ws = refl
first_bytes (suc (suc (suc zero))) w ws = refl
first_bytes (suc (suc (suc (suc n)))) w ws = ap (λ (l : List ℕ). byte w 0 ∷ byte w 1 ∷ byte w 2 ∷ byte w 3 ∷ l) (sym (take-nil n))

other_bytes : (n w : ℕ) (ws : List ℕ) → drop 4 (take n (words_bytes (w ∷ ws))) ≡ take (n - 4) (words_bytes ws)
other_bytes zero w ws = refl
other_bytes (suc zero) w ws = refl
other_bytes (suc (suc zero)) w ws = refl
other_bytes (suc (suc (suc zero))) w ws = refl
other_bytes (suc (suc (suc (suc n)))) w ws = let e : suc (suc (suc (suc n))) - 4 ≡ n = omega arith in rw e

all_bytes : (n w : ℕ) (ws : List ℕ) → data_bytes w n ++ take (n - 4) (words_bytes ws) ≡ take n (words_bytes (w ∷ ws))
all_bytes n w ws = ap₂ ◌++◌ (sym (first_bytes n w ws)) (sym (other_bytes n w ws)) ∙ take-append-drop 4 _

-- numbers with the same low bits feed the same
fed_same : (r v u n : ℕ) → ((i : ℕ) → i < n → bit v i ≡ bit u i) → fed r v n ≡ fed r u n
unfolding fed
fed_same r v u zero same = refl
fed_same r v u (suc n) same =
    rw (same n (omega arith)) (fed_same (fed_bit r (bit u n)) v u n (λ i h. same i (omega arith)))

-- the bytes of a data word feed what the word feeds
data_fed : (r n w : ℕ) → fed r (number (data_bytes w n)) (8 * length (data_bytes w n)) ≡ fed r w (8 * min n 4)
data_fed r n w =
    rw (data_length w n) (fed_same r (number (data_bytes w n)) w (8 * min n 4) (λ i h.
    let parts : i ≡ 8 * (i / 8) + i % 8 = omega arith in
    ap (bit (number (data_bytes w n))) parts
    ∙ bit_number (data_bytes w n) (i / 8) (i % 8) (omega arith)
    ∙ ap (λ (b : ℕ). bit b (i % 8)) (data_byte w n (i / 8) (omega arith))
    ∙ bit_byte w (i / 8) (i % 8) (omega arith)
    ∙ ap (bit w) (sym parts)))

-- a data word where some are left
pub data_step : (k : Core) (m : List ℕ) (p n w : ℕ) → 0 < n → k.stage.phase ≡ awaited (p + n) n
    → word_step k m w
    ≡ writing (bytes_wrote (Ok p) (min n 4) (k.tally.totals.next - 1))
    (quiet (await k (with_checksum k (pick k.on (fed k.tally.checksum w (8 * min n 4)) k.tally.checksum)) (awaited (p + n) (n - 4))))
    leaving loaded m p (data_bytes w n)
unfolding word_step awaited
data_step k m p n w more at =
    ap (λ (x : Phase). in_phase x k m w) (at ∙ passed _ _ _ (ne_eqb n 0 (λ e. omega arith))) ∙ rw add-sub_cancel

-- what the bytes of n more words feed, where the first of them is known
fed_next : (on : Bool) (r n w : ℕ) (ws : List ℕ) → 0 < n
    → pick on (words_fed (pick on (fed r w (8 * min n 4)) r) ((n - 4 + 3) / 4) (take (n - 4) (words_bytes ws))) (pick on (fed r w (8 * min n 4)) r)
    ≡ pick on (words_fed r ((n + 3) / 4) (take n (words_bytes (w ∷ ws)))) r
unfolding pick words_fed
fed_next true r n w ws more =
    let left : ℕ = (n - 4 + 3) / 4 in
    let count : (n + 3) / 4 ≡ suc left = omega arith in
    sym
    (ap (λ (c : ℕ). words_fed r c (take n (words_bytes (w ∷ ws)))) count
    ∙ ap₂ (λ (first other : List ℕ). words_fed (fed r (number first) (8 * length first)) left other) (first_bytes n w ws) (other_bytes n w ws)
    ∙ ap (λ (q : ℕ). words_fed q left (take (n - 4) (words_bytes ws))) (data_fed r n w))
fed_next false r n w ws more = refl

-- none left to feed
fed_none : (on : Bool) (r : ℕ) → r ≡ pick on (words_fed r 0 []) r
unfolding pick words_fed
fed_none true r = refl
fed_none false r = refl

-- nothing awaited, once none is left
awaited_none : (end : ℕ) → awaited end 0 ≡ phase.Opcode
unfolding awaited
awaited_none end = chosen _ _ _ (eq-eqb 0 0 refl)

-- an outcome with what its last word wrote left out; some words go by no more of it
abbrev pub unwritten : WordOutcome → WordOutcome
unwritten o = writing none_wrote o.answer leaving o.memory

pub same_words : (wrote : Wrote) (t : Taken) (m : List ℕ) (ws : List ℕ)
    → unwritten (after_words (writing wrote t leaving m) ws) ≡ unwritten (after_words (t leaving m) ws)
unfolding after_words
same_words wrote t m [] = refl
same_words wrote t m (w ∷ ws) = refl

-- the data of a load sent word by word: the bytes are those of the whole load, and so is what they feed
pub pieces : (ws : List ℕ) (k : Core) (m : List ℕ) (p n : ℕ) → k.stage.phase ≡ awaited (p + n) n → length ws ≡ (n + 3) / 4
    → unwritten (after_words (quiet k leaving m) ws)
    ≡ quiet (await k (with_checksum k (pick k.on (words_fed k.tally.checksum ((n + 3) / 4) (take n (words_bytes ws))) k.tally.checksum)) phase.Opcode)
    leaving loaded m p (take n (words_bytes ws))
unfolding after_words loaded put
pieces [] k m p zero at whole =
    ap₂ (λ (r : ℕ) (x : Phase). quiet (await k (with_checksum k r) x) leaving m) (fed_none k.on k.tally.checksum) (at ∙ awaited_none (p + 0))
pieces [] k m p (suc n) at whole = absurd (omega arith)
pieces (w ∷ ws) k m p n at whole =
    let more : 0 < n = omega arith in
    let end : p + n ≡ p + length (data_bytes w n) + (n - 4) = omega (arith, data_length w n) in
    let next = await k (with_checksum k (pick k.on (fed k.tally.checksum w (8 * min n 4)) k.tally.checksum)) (awaited (p + n) (n - 4)) in
    ap (λ (o : WordOutcome). unwritten (after_words o ws)) (data_step k m p n w more at)
    ∙ same_words (bytes_wrote (Ok p) (min n 4) (k.tally.totals.next - 1)) (quiet next) (loaded m p (data_bytes w n)) ws
    ∙ pieces ws next (loaded m p (data_bytes w n)) (p + length (data_bytes w n)) (n - 4) (ap (λ (e : ℕ). awaited e (n - 4)) end) (omega arith)
    ∙ ap₂ (λ (r : ℕ) (left : List ℕ). quiet (await k (with_checksum k r) phase.Opcode) leaving left) (fed_next k.on k.tally.checksum n w ws more)
    (loaded_append m p (data_bytes w n) (take (n - 4) (words_bytes ws)) ∙ ap (loaded m p) (all_bytes n w ws))

-- words have four bytes each
bytes_length : (ws : List ℕ) → length (words_bytes ws) ≡ 4 * length ws
bytes_length [] = refl
bytes_length (w ∷ ws) = omega (arith, bytes_length ws)

-- so a load that has all its words has all its bytes
pub data_count : (size : ℕ) (ws : List ℕ) → length ws ≡ (size + 3) / 4 → length (take size (words_bytes ws)) ≡ size
data_count size ws whole = length-take-le size (words_bytes ws) (omega (arith, bytes_length ws))

-- address and size fed first, then the data: what the whole load feeds
load-fed : (on : Bool) (r address n : ℕ) (bytes : List ℕ) → length bytes ≡ n
    → pick on (words_fed (pick on (fed_words r (address ∷ n ∷ [])) r) ((n + 3) / 4) bytes) (pick on (fed_words r (address ∷ n ∷ [])) r)
    ≡ pick on (load_fed r address bytes) r
unfolding pick load_fed
load-fed true r address n bytes e = ap (λ (x : ℕ). words_fed (fed_words r (address ∷ x ∷ [])) ((x + 3) / 4) bytes) (sym e)
load-fed false r address n bytes e = refl

-- a load that is granted at its size word, with its data: to checksum, totals and memory it does what the whole load does
pub load_in_pieces : (k : Core) (m : List ℕ) (kept : Kept) (size place : ℕ) (ws : List ℕ)
    → out_of_numbers k (overflowing k size (load_judged k.windows kept.third size)) ≡ Ok place → length ws ≡ (size + 3) / 4
    → unwritten (after_words (performed command.Load k m kept size) ws)
    ≡ quiet
    (await k (tallied (pick k.on (load_fed k.tally.checksum kept.third (take size (words_bytes ws))) k.tally.checksum) (counted_on k size))
    phase.Opcode)
    leaving loaded m place (take size (words_bytes ws))
load_in_pieces k m kept size place ws granted whole =
    let address : ℕ = kept.third in
    let r : ℕ = k.tally.checksum in
    let next = await k (tallied (pick k.on (fed_words r (address ∷ size ∷ [])) r) (counted_on k size)) (awaited (place + size) size) in
    ap (λ (j : Judged). unwritten (after_words (load_begun k address size j leaving m) ws)) granted
    ∙ pieces ws next m place size refl whole
    ∙ ap (λ (x : ℕ). quiet (await k (tallied x (counted_on k size)) phase.Opcode) leaving loaded m place (take size (words_bytes ws)))
    (load-fed k.on r address size _ (data_count size ws whole))
