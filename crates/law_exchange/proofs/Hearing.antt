-- What the host has heard once a reply came ends with that reply: each byte comes in at the top of the last eight, so four bytes are a word there.
use Prim.Native.Nat.{ℕ, ◌+◌, ◌-◌, ◌*◌, ◌/◌, ◌%◌, ◌^◌, ◌<◌, min}
use mathlib.Core.Bool.{Bool, true, ◌&&◌}
use mathlib.Core.List.{List, [], ◌∷◌, ◌++◌}
use mathlib.Core.Path.{◌≡◌, refl, ap, ap₂, ◌∙◌}
use native.Mathlib.Omega.{arith}
use lib.Dec.{leb, eqb}
use borrow.Author.Tests.{eq-eqb}
use Rattle.words.specs.rules.Bits.{join}
use Rattle.words.specs.rules.Bytes.{byte, number}
use Rattle.machine_answers.specs.rules.Replies.{one_word, word_then, acknowledged, sent_bytes}
use Rattle.sent.specs.rules.Line.{start_answer}
use Rattle.sent.specs.rules.Opening.{greeting}
use Rattle.sent.specs.declared.Bus.{Bus}
use Rattle.sent.specs.declared.Bus.TheVariants.{Bytes, Halves}
use Rattle.host_ear.proofs.Words.{word_again as word_number}
use Rattle.host_ear.specs.rules.Ear.{nothing_heard, hearing, newest, ends_with, ends_with_checksum}
use Rattle.host_ear.specs.declared.Ear.{Ear}
use Rattle.host_laws.proofs.HearingLaws.{heard_by, acknowledged_small}

-- the four bytes of a word
abbrev pub word_bytes : ℕ → List ℕ
word_bytes v = byte v 0 ∷ byte v 1 ∷ byte v 2 ∷ byte v 3 ∷ []

-- four bytes come in above what stood there
four_in : (x a b c d : ℕ)
    → (((x / 2 ^ 8 + a * 2 ^ 56) / 2 ^ 8 + b * 2 ^ 56) / 2 ^ 8 + c * 2 ^ 56) / 2 ^ 8 + d * 2 ^ 56
    ≡ x / 2 ^ 32 + (a + b * 2 ^ 8 + c * 2 ^ 16 + d * 2 ^ 24) * 2 ^ 32
four_in x a b c d =
    let two : (x / 2 ^ 8 + a * 2 ^ 56) / 2 ^ 8 + b * 2 ^ 56 ≡ x / 2 ^ 16 + a * 2 ^ 48 + b * 2 ^ 56 = omega arith in
    let three : (x / 2 ^ 16 + a * 2 ^ 48 + b * 2 ^ 56) / 2 ^ 8 + c * 2 ^ 56 ≡ x / 2 ^ 24 + a * 2 ^ 40 + b * 2 ^ 48 + c * 2 ^ 56 = omega arith in
    let four : (x / 2 ^ 24 + a * 2 ^ 40 + b * 2 ^ 48 + c * 2 ^ 56) / 2 ^ 8 + d * 2 ^ 56
    ≡ x / 2 ^ 32 + (a + b * 2 ^ 8 + c * 2 ^ 16 + d * 2 ^ 24) * 2 ^ 32 = omega arith in
    ap (λ (y : ℕ). (y / 2 ^ 8 + c * 2 ^ 56) / 2 ^ 8 + d * 2 ^ 56) two ∙ ap (λ (y : ℕ). y / 2 ^ 8 + d * 2 ^ 56) three ∙ four

-- the bytes of a word are the word
word_again : (v : ℕ) → v < 2 ^ 32 → byte v 0 + byte v 1 * 2 ^ 8 + byte v 2 * 2 ^ 16 + byte v 3 * 2 ^ 24 ≡ v
unfolding byte
word_again v h =
    let low : v / 256 ≡ 256 * (v / 65536) + v / 256 % 256 = omega arith in
    let middle : v / 65536 ≡ 256 * (v / 16777216) + v / 65536 % 256 = omega arith in
    let high : v / 16777216 % 256 ≡ v / 16777216 = omega arith in
    omega arith

-- a word heard, the count apart
abbrev pub ear_of : ℕ → ℕ → Ear
ear_of last count = record { last = last; count = count; fresh = true }

heard-word : (ear : Ear) (v : ℕ) → v < 2 ^ 32
    → heard_by ear (word_bytes v) ≡ ear_of (ear.last / 2 ^ 32 + v * 2 ^ 32) (min (min (min (min (ear.count + 1) 8 + 1) 8 + 1) 8 + 1) 8)
unfolding heard_by hearing
heard-word ear v h =
    ap (λ (x : ℕ). ear_of x (min (min (min (min (ear.count + 1) 8 + 1) 8 + 1) 8 + 1) 8))
    (four_in ear.last (byte v 0) (byte v 1) (byte v 2) (byte v 3) ∙ ap (λ (w : ℕ). ear.last / 2 ^ 32 + w * 2 ^ 32) (word_again v h))

-- one word after nothing: it is the newest
pub one_word_heard : (v : ℕ) → v < 2 ^ 32 → ends_with (heard_by nothing_heard (sent_bytes (one_word v))) (one_word v) ≡ true
unfolding ends_with newest one_word
one_word_heard v h =
    let heard = heard-word nothing_heard v h in
    let whole : (0 / 2 ^ 32 + v * 2 ^ 32) / 2 ^ (64 - 8 * 4) ≡ v = omega arith in
    ap₂ (λ (e : Ear) (n : ℕ). leb 4 e.count && eqb (e.last / 2 ^ (64 - 8 * 4)) n) heard (word_number v h)
    ∙ ap (λ (t : Bool). true && t) (eq-eqb ((0 / 2 ^ 32 + v * 2 ^ 32) / 2 ^ (64 - 8 * 4)) v whole)

heard_append : (bs cs : List ℕ) (ear : Ear) → heard_by ear (bs ++ cs) ≡ heard_by (heard_by ear bs) cs
unfolding heard_by
heard_append [] cs ear = refl
heard_append (b ∷ bs) cs ear = heard_append bs cs (hearing ear b)

-- a Request's answer: the acknowledgement, and the checksum after it
pub checksum_heard : (opcode c : ℕ) → c < 2 ^ 32
    → heard_by nothing_heard (sent_bytes (word_then (acknowledged opcode) (one_word c))) ≡ ear_of (acknowledged opcode + c * 2 ^ 32) 8
unfolding word_then one_word
checksum_heard opcode c h =
    let a = acknowledged opcode in
    let first = heard-word nothing_heard a (acknowledged_small opcode) in
    heard_append (word_bytes a) (word_bytes c) nothing_heard
    ∙ ap (λ (e : Ear). heard_by e (word_bytes c)) first
    ∙ heard-word (ear_of (0 / 2 ^ 32 + a * 2 ^ 32) 4) c h
    ∙ ap (λ (x : ℕ). ear_of x 8) (omega arith)

pub ends-with-checksum : (opcode c : ℕ) → ends_with_checksum (ear_of (acknowledged opcode + c * 2 ^ 32) 8) opcode ≡ true
unfolding ends_with_checksum
ends-with-checksum opcode c =
    let low : (acknowledged opcode + c * 2 ^ 32) % 2 ^ 32 ≡ acknowledged opcode = omega (arith, acknowledged_small opcode) in
    ap (λ (t : Bool). true && t) (eq-eqb ((acknowledged opcode + c * 2 ^ 32) % 2 ^ 32) (acknowledged opcode) low)

pub newest_checksum : (opcode c : ℕ) → newest (ear_of (acknowledged opcode + c * 2 ^ 32) 8) 4 ≡ c
unfolding newest
newest_checksum opcode c = omega (arith, acknowledged_small opcode)

-- the newest word of one that was heard
pub newest_word : (v : ℕ) → v < 2 ^ 32 → newest (heard_by nothing_heard (sent_bytes (one_word v))) 4 ≡ v
unfolding newest one_word
newest_word v h = ap (λ (e : Ear). e.last / 2 ^ (64 - 8 * 4)) (heard-word nothing_heard v h) ∙ omega arith

pub word_count : (v : ℕ) → v < 2 ^ 32 → (heard_by nothing_heard (sent_bytes (one_word v))).count ≡ 4
unfolding one_word
word_count v h = ap (λ (e : Ear). e.count) (heard-word nothing_heard v h)

-- the greeting and the answer to the start unit
pub greeting_heard : (bus : Bus) → ends_with (heard_by nothing_heard (sent_bytes (greeting bus))) (greeting bus) ≡ true
unfolding ends_with newest heard_by hearing number join
greeting_heard Bytes = refl
greeting_heard Halves = refl

pub start_heard : (bus : Bus) → ends_with (heard_by nothing_heard (sent_bytes (start_answer bus))) (start_answer bus) ≡ true
unfolding ends_with newest heard_by hearing start_answer byte number join
start_heard Bytes = refl
start_heard Halves = refl
