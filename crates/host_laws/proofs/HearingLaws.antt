-- The last eight bytes stand in the ear as the number that they make, the newest highest; numbers of as many bytes are equal only where the bytes are.
use Prim.Native.Nat.{ℕ, zero, suc, ◌+◌, ◌-◌, ◌*◌, ◌/◌, ◌%◌, ◌^◌, ◌≤◌, ◌<◌, min}
use mathlib.Core.Bool.{Bool, true, ◌&&◌}
use mathlib.Core.List.{List, [], ◌∷◌, ◌++◌, append_assoc, append-nil}
use mathlib.Core.Path.{◌≡◌, refl, sym, ap, ap₂, ◌∙◌, subst}
use native.Mathlib.Nat.{zero-div, mul_assoc}
use native.Mathlib.Omega.{arith}
use lib.Dec.{leb, ltb, eqb, lit<, lit≤}
use lib.ListN.{length, take, drop, length-append, length-take, length-drop, take-append-drop}
use lib.Pow.{shr-shr, pow-add}
use lib.Seq.{ext_get_or, get_or-drop, drop-drop, drop-append-add, drop_at, length-take-le}
use borrow.Author.Tests.{eq-eqb, eqb-true, leb-true, le-leb, ltb-true}
use Rattle.words.specs.rules.Bits.{join}
use Rattle.words.specs.rules.Bytes.{byte, number, AreBytes, words_bytes}
use Rattle.words.proofs.Choice.{both}
use Rattle.words.proofs.Joins.{join_high, join_lt}
use Rattle.words.proofs.Numbers.{byte_number}
use Rattle.machine_answers.specs.rules.Replies.{sent_bytes, one_word, acknowledged}
use Rattle.machine_answers.specs.declared.Reply.{Reply}
use Rattle.sent.specs.rules.Line.{start_answer}
use Rattle.sent.specs.rules.Opening.{greeting}
use Rattle.sent.specs.declared.Bus.{Bus}
use Rattle.sent.specs.declared.Bus.TheVariants.{Bytes, Halves}
use Rattle.host_ear.proofs.Words.{word_again}
use Rattle.host_ear.specs.rules.Ear.{nothing_heard, hearing, newest, ends_with, ends_with_checksum}
use Rattle.host_answers.specs.rules.Hosts.{changed, heard, heard_all}
use Rattle.host_ear.specs.declared.Ear.{Ear}
use Rattle.host_answers.specs.declared.Host.{Host}
use Rattle.host_laws.specs.claims.Hearing.{EndIn, IsReply, HeardExactly, WhatIsHeard, AreReplies}

-- an ear after some bytes
unfoldable pub heard_by : Ear → List ℕ → Ear
heard_by ear [] = ear
heard_by ear (b ∷ bs) = heard_by (hearing ear b) bs

-- a host with another ear
abbrev pub with_ear : Host → Ear → Host
with_ear h ear = changed h h.ended h.retries h.offset h.spent h.stage.wait ear

-- hearing changes the ear alone
pub only_the_ear : (bs : List ℕ) (h : Host) → heard_all h bs ≡ with_ear h (heard_by h.ear bs)
unfolding heard_all heard heard_by
only_the_ear [] h = refl
only_the_ear (b ∷ bs) h = only_the_ear bs (heard h b)

-- the number without its lowest bytes
number_above : (k : ℕ) (xs : List ℕ) → number xs / 2 ^ (8 * k) ≡ number (drop k xs)
unfolding number
number_above zero xs = omega arith
number_above (suc k) [] = zero-div (2 ^ (8 * suc k))
number_above (suc k) (x ∷ xs) =
    let next : 8 * suc k ≡ 8 + 8 * k = omega arith in
    ap (λ (n : ℕ). join 8 x (number xs) / 2 ^ n) next
    ∙ sym (shr-shr (join 8 x (number xs)) 8 (8 * k))
    ∙ ap (λ (n : ℕ). n / 2 ^ (8 * k)) (join_high 8 x (number xs))
    ∙ number_above k xs

-- so many bytes make a number so small
number_small : (xs : List ℕ) → number xs < 2 ^ (8 * length xs)
unfolding number
number_small [] = omega arith
number_small (x ∷ xs) =
    let next : 8 * length xs + 8 ≡ 8 * suc (length xs) = omega arith in
    subst (λ (n : ℕ). join 8 x (number xs) < 2 ^ n) next (join_lt 8 (8 * length xs) x (number_small xs))

-- the number of bytes with others above them
number_append : (xs ys : List ℕ) → number (xs ++ ys) ≡ number xs + number ys * 2 ^ (8 * length xs)
unfolding number join
number_append [] ys = omega arith
number_append (x ∷ xs) ys =
    let next : 8 * suc (length xs) ≡ 8 * length xs + 8 = omega arith in
    let power : number ys * 2 ^ (8 * suc (length xs)) ≡ number ys * 2 ^ (8 * length xs) * 2 ^ 8
    = ap (λ (n : ℕ). number ys * 2 ^ n) next ∙ ap (λ (n : ℕ). number ys * n) (pow-add 2 (8 * length xs) 8)
    ∙ sym (mul_assoc (number ys) (2 ^ (8 * length xs)) (2 ^ 8)) in
    ap (λ (n : ℕ). n * 2 ^ 8 + x % 2 ^ 8) (number_append xs ys)
    ∙ above (number xs) (number ys * 2 ^ (8 * length xs)) (x % 2 ^ 8)
    ∙ ap (λ (n : ℕ). number xs * 2 ^ 8 + x % 2 ^ 8 + n) (sym power)
  where
    above : (a b c : ℕ) → (a + b) * 2 ^ 8 + c ≡ a * 2 ^ 8 + c + b * 2 ^ 8
    above a b c = omega arith

-- equal numbers of as many bytes are of the same bytes
same_bytes : (xs ys : List ℕ) → AreBytes xs → AreBytes ys → length xs ≡ length ys → number xs ≡ number ys → xs ≡ ys
same_bytes xs ys of-xs of-ys long e =
    ext_get_or 0 xs ys long (λ i inside. sym (byte_number xs of-xs i) ∙ ap (λ (n : ℕ). byte n i) e ∙ byte_number ys of-ys i)

-- the bytes from a place on are bytes
bytes_from : (k : ℕ) (xs : List ℕ) → AreBytes xs → AreBytes (drop k xs)
bytes_from k xs of-xs i = subst (λ (b : ℕ). b < 256) (sym (get_or-drop k xs i 0)) (of-xs (k + i))

-- the last eight bytes after some more
unfoldable last_eight : List ℕ → List ℕ → List ℕ
last_eight xs [] = xs
last_eight xs (b ∷ bs) = last_eight (drop 1 xs ++ (b ∷ [])) bs

-- one byte more comes in above, and the lowest goes
one_in : (xs : List ℕ) (b : ℕ) → length xs ≡ 8 → b < 256 → number xs / 2 ^ 8 + b * 2 ^ 56 ≡ number (drop 1 xs ++ (b ∷ []))
unfolding number join
one_in xs b eight small =
    let seven : length (drop 1 xs) ≡ 7 = length-drop 1 xs ∙ ap (λ (n : ℕ). n - 1) eight in
    let alone : 0 * 2 ^ 8 + b % 2 ^ 8 ≡ b = omega arith in
    ap₂ (λ (n m : ℕ). n + m) (number_above 1 xs) (ap₂ (λ (v k : ℕ). v * 2 ^ (8 * k)) (sym alone) (sym seven))
    ∙ sym (number_append (drop 1 xs) (b ∷ []))

last_is : (bs xs : List ℕ) (ear : Ear) → length xs ≡ 8 → AreBytes bs → ear.last ≡ number xs → (heard_by ear bs).last ≡ number (last_eight xs bs)
unfolding heard_by hearing last_eight
last_is [] xs ear eight of-bs e = e
last_is (b ∷ bs) xs ear eight of-bs e =
    last_is bs (drop 1 xs ++ (b ∷ [])) (hearing ear b)
    (length-append (drop 1 xs) (b ∷ []) ∙ ap (λ (n : ℕ). n + 1) (length-drop 1 xs ∙ ap (λ (n : ℕ). n - 1) eight))
    (λ i. of-bs (suc i))
    (ap (λ (n : ℕ). n / 2 ^ 8 + b * 2 ^ 56) e ∙ one_in xs b eight (of-bs 0))

count_is : (bs : List ℕ) (ear : Ear) → ear.count ≤ 8 → (heard_by ear bs).count ≡ min (ear.count + length bs) 8
unfolding heard_by hearing
count_is [] ear few = omega arith
count_is (b ∷ bs) ear few = count_is bs (hearing ear b) (omega arith) ∙ omega arith

-- they are the end of all that came
the_end : (bs : List ℕ) (x : ℕ) (xs : List ℕ) → last_eight (x ∷ xs) bs ≡ drop (length bs) ((x ∷ xs) ++ bs)
unfolding last_eight
the_end [] x xs = sym (append-nil (x ∷ xs))
the_end (b ∷ bs) x [] = the_end bs b []
the_end (b ∷ bs) x (y ∷ ys) =
    the_end bs y (ys ++ (b ∷ [])) ∙ ap (λ (zs : List ℕ). drop (length bs) (y ∷ zs)) (append_assoc ys (b ∷ []) bs)

abbrev no_bytes : List ℕ
no_bytes = 0 ∷ 0 ∷ 0 ∷ 0 ∷ 0 ∷ 0 ∷ 0 ∷ 0 ∷ []

none : 0 ≡ number no_bytes
unfolding number join
none = refl

module _ (bs : List ℕ) (of-bs : AreBytes bs) where
  -- the newest n bytes, where so many came
  newest_is : (n : ℕ) → n ≤ 8 → n ≤ length bs → newest (heard_by nothing_heard bs) n ≡ number (drop (length bs - n) bs)
  unfolding newest
  newest_is n short came =
      let place : 64 - 8 * n ≡ 8 * (8 - n) = omega arith in
      let sum : length bs + (8 - n) ≡ 8 + (length bs - n) = omega arith in
      let last : (heard_by nothing_heard bs).last ≡ number (drop (length bs) (no_bytes ++ bs))
      = last_is bs no_bytes nothing_heard refl of-bs none ∙ ap number (the_end bs 0 (0 ∷ 0 ∷ 0 ∷ 0 ∷ 0 ∷ 0 ∷ 0 ∷ [])) in
      ap₂ (λ (l k : ℕ). l / 2 ^ k) last place
      ∙ number_above (8 - n) (drop (length bs) (no_bytes ++ bs))
      ∙ ap number (drop-drop (8 - n) (length bs) (no_bytes ++ bs))
      ∙ ap (λ (k : ℕ). number (drop k (no_bytes ++ bs))) sum
      ∙ ap number (drop-append-add no_bytes bs (length bs - n))

  came : (heard_by nothing_heard bs).count ≡ min (length bs) 8
  came = count_is bs nothing_heard (omega arith) ∙ omega arith

  -- bytes that end as these do
  ends_so : (last : List ℕ) → drop (length bs - length last) bs ≡ last → EndIn bs last
  ends_so last e =
      sym (take-append-drop (length bs - length last) bs) ∙ ap (λ (ys : List ℕ). take (length bs - length last) bs ++ ys) e

  as_many : (last : List ℕ) → EndIn bs last → length last ≤ length bs
  as_many last e =
      let long : length bs ≡ min (length bs - length last) (length bs) + length last
      = ap length e ∙ length-append (take (length bs - length last) bs) last ∙ ap (λ (n : ℕ). n + length last) (length-take (length bs - length last) bs) in
      omega (arith, long)

  so_ends : (last : List ℕ) → EndIn bs last → drop (length bs - length last) bs ≡ last
  so_ends last e =
      ap (λ (ys : List ℕ). drop (length bs - length last) ys) e
      ∙ drop_at (take (length bs - length last) bs) last (length bs - length last) (length-take-le (length bs - length last) bs (omega arith))

  -- the newest bytes have the number of a last part exactly where they are it
  newest_only : (last : List ℕ) → AreBytes last → length last ≤ 8 → length last ≤ length bs
      → newest (heard_by nothing_heard bs) (length last) ≡ number last → EndIn bs last
  newest_only last of-last short long e =
      ends_so last
      (same_bytes (drop (length bs - length last) bs) last (bytes_from (length bs - length last) bs of-bs) of-last
      (length-drop (length bs - length last) bs ∙ omega arith) (sym (newest_is (length last) short long) ∙ e))

  newest_always : (last : List ℕ) → length last ≤ 8 → EndIn bs last → newest (heard_by nothing_heard bs) (length last) ≡ number last
  newest_always last short e = newest_is (length last) short (as_many last e) ∙ ap number (so_ends last e)

-- those of two words make the first below the second
two-words : (v w : ℕ) → v < 2 ^ 32 → w < 2 ^ 32 → number (words_bytes (v ∷ w ∷ [])) ≡ v + w * 2 ^ 32
two-words v w small-v small-w =
    number_append (words_bytes (v ∷ [])) (words_bytes (w ∷ [])) ∙ ap₂ (λ (a b : ℕ). a + b * 2 ^ 32) (word_again v small-v) (word_again w small-w)

-- the bytes of words are bytes
byte_small : (v i : ℕ) → byte v i < 256
unfolding byte
byte_small v i = omega arith

words_are_bytes : (words : List ℕ) → AreBytes (words_bytes words)
words_are_bytes [] i = omega arith
words_are_bytes (v ∷ words) zero = byte_small v 0
words_are_bytes (v ∷ words) (suc zero) = byte_small v 1
words_are_bytes (v ∷ words) (suc (suc zero)) = byte_small v 2
words_are_bytes (v ∷ words) (suc (suc (suc zero))) = byte_small v 3
words_are_bytes (v ∷ words) (suc (suc (suc (suc i)))) = words_are_bytes words i

-- an acknowledgement is a word
pub acknowledged_small : (opcode : ℕ) → acknowledged opcode < 2 ^ 32
unfolding acknowledged
acknowledged_small opcode = omega arith

-- the laws of the ear, from an ear that has heard nothing
module _ (bs : List ℕ) (of-bs : AreBytes bs) where
  only_it : (reply : Reply) → IsReply reply → ends_with (heard_by nothing_heard bs) reply ≡ true → EndIn bs (sent_bytes reply)
  unfolding ends_with
  only_it reply is e =
      let tests = both (leb reply.count (heard_by nothing_heard bs).count)
      (eqb (newest (heard_by nothing_heard bs) reply.count) (number (sent_bytes reply))) e in
      let enough : reply.count ≤ (heard_by nothing_heard bs).count = leb-true reply.count (heard_by nothing_heard bs).count tests.0 in
      let count = came bs of-bs in
      newest_only bs of-bs (sent_bytes reply) is.bytes (omega (arith, is.counted, is.short)) (omega (arith, is.counted, enough, count))
      (ap (λ (n : ℕ). newest (heard_by nothing_heard bs) n) is.counted
      ∙ eqb-true (newest (heard_by nothing_heard bs) reply.count) (number (sent_bytes reply)) tests.1)

  always_it : (reply : Reply) → IsReply reply → EndIn bs (sent_bytes reply) → ends_with (heard_by nothing_heard bs) reply ≡ true
  unfolding ends_with
  always_it reply is e =
      let long = as_many bs of-bs (sent_bytes reply) e in
      let count = came bs of-bs in
      let enough : reply.count ≤ (heard_by nothing_heard bs).count = omega (arith, is.counted, is.short, long, count) in
      let same : newest (heard_by nothing_heard bs) reply.count ≡ number (sent_bytes reply)
      = ap (λ (n : ℕ). newest (heard_by nothing_heard bs) n) (sym is.counted)
      ∙ newest_always bs of-bs (sent_bytes reply) (omega (arith, is.counted, is.short)) e in
      ap₂ (λ (s t : Bool). s && t) (le-leb reply.count (heard_by nothing_heard bs).count enough)
      (eq-eqb (newest (heard_by nothing_heard bs) reply.count) (number (sent_bytes reply)) same)

  -- the newest word is a word, and all eight bytes are in the ear
  newest_small : 8 ≤ length bs → newest (heard_by nothing_heard bs) 4 < 2 ^ 32
  newest_small long =
      let four : length (drop (length bs - 4) bs) ≡ 4 = length-drop (length bs - 4) bs ∙ omega arith in
      subst (λ (n : ℕ). n < 2 ^ 32) (sym (newest_is bs of-bs 4 (omega arith) (omega arith)))
      (subst (λ (k : ℕ). number (drop (length bs - 4) bs) < 2 ^ (8 * k)) four (number_small (drop (length bs - 4) bs)))

  whole : newest (heard_by nothing_heard bs) 8 ≡ (heard_by nothing_heard bs).last
  unfolding newest
  whole = omega arith

  only_a_checksum : (opcode : ℕ) → ends_with_checksum (heard_by nothing_heard bs) opcode ≡ true
      → EndIn bs (words_bytes (acknowledged opcode ∷ newest (heard_by nothing_heard bs) 4 ∷ []))
  unfolding ends_with_checksum newest
  only_a_checksum opcode e =
      let ear = heard_by nothing_heard bs in
      let tests = both (leb 8 ear.count) (eqb (ear.last % 2 ^ 32) (acknowledged opcode)) e in
      let enough : 8 ≤ ear.count = leb-true 8 ear.count tests.0 in
      let count = came bs of-bs in
      let low : ear.last % 2 ^ 32 ≡ acknowledged opcode = eqb-true (ear.last % 2 ^ 32) (acknowledged opcode) tests.1 in
      let long : 8 ≤ length bs = omega (arith, enough, count) in
      let parts : ear.last ≡ acknowledged opcode + newest ear 4 * 2 ^ 32 = omega (arith, low) in
      newest_only bs of-bs (words_bytes (acknowledged opcode ∷ newest ear 4 ∷ [])) (words_are_bytes (acknowledged opcode ∷ newest ear 4 ∷ []))
      (omega arith) long
      (whole ∙ parts ∙ sym (two-words (acknowledged opcode) (newest ear 4) (acknowledged_small opcode) (newest_small long)))

  always_a_checksum : (opcode checksum : ℕ) → checksum < 2 ^ 32 → EndIn bs (words_bytes (acknowledged opcode ∷ checksum ∷ []))
      → ends_with_checksum (heard_by nothing_heard bs) opcode ≡ true
  unfolding ends_with_checksum
  always_a_checksum opcode checksum small e =
      let ear = heard_by nothing_heard bs in
      let long : 8 ≤ length bs = as_many bs of-bs (words_bytes (acknowledged opcode ∷ checksum ∷ [])) e in
      let count = came bs of-bs in
      let enough : 8 ≤ ear.count = omega (arith, count, long) in
      let all : ear.last ≡ acknowledged opcode + checksum * 2 ^ 32
      = sym whole ∙ newest_always bs of-bs (words_bytes (acknowledged opcode ∷ checksum ∷ [])) (omega arith) e
      ∙ two-words (acknowledged opcode) checksum (acknowledged_small opcode) small in
      let low : ear.last % 2 ^ 32 ≡ acknowledged opcode = omega (arith, all, acknowledged_small opcode) in
      ap₂ (λ (s t : Bool). s && t) (le-leb 8 ear.count enough) (eq-eqb (ear.last % 2 ^ 32) (acknowledged opcode) low)

pub what_is_heard : WhatIsHeard
what_is_heard h bs silent of-bs =
    let heard : (heard_all h bs).ear ≡ heard_by nothing_heard bs
    = ap (λ (k : Host). k.ear) (only_the_ear bs h) ∙ ap (λ (e : Ear). heard_by e bs) silent in
    subst (λ (e : Ear). HeardExactly e bs) (sym heard)
    (record {
      only_it = only_it bs of-bs;
      always_it = always_it bs of-bs;
      only_a_checksum = only_a_checksum bs of-bs;
      always_a_checksum = always_a_checksum bs of-bs;
    })

-- bytes by a test
unfoldable pub all_small : List ℕ → Bool
all_small [] = true
all_small (b ∷ bs) = ltb b 256 && all_small bs

pub bytes_by : (bs : List ℕ) → all_small bs ≡ true → AreBytes bs
unfolding all_small
bytes_by [] e i = lit< tt
bytes_by (b ∷ bs) e zero = ltb-true b 256 (both (ltb b 256) (all_small bs) e).0
bytes_by (b ∷ bs) e (suc i) = bytes_by bs (both (ltb b 256) (all_small bs) e).1 i

greetings : (bus : Bus) → IsReply (greeting bus)
unfolding all_small byte
greetings Bytes = record { counted = refl; short = lit≤ tt; bytes = bytes_by (sent_bytes (greeting Bytes)) refl }
greetings Halves = record { counted = refl; short = lit≤ tt; bytes = bytes_by (sent_bytes (greeting Halves)) refl }

start_answers : (bus : Bus) → IsReply (start_answer bus)
unfolding all_small byte start_answer
start_answers Bytes = record { counted = refl; short = lit≤ tt; bytes = bytes_by (sent_bytes (start_answer Bytes)) refl }
start_answers Halves = record { counted = refl; short = lit≤ tt; bytes = bytes_by (sent_bytes (start_answer Halves)) refl }

word_replies : (word : ℕ) → IsReply (one_word word)
unfolding one_word
word_replies word = record { counted = refl; short = lit≤ tt; bytes = words_are_bytes (word ∷ []) }

pub are_replies : AreReplies
are_replies = record { greetings = greetings; start_answers = start_answers; words = word_replies }
