-- The six pairs of a line, each a key, a value and the byte that closes it: a space, and behind the last pair a line feed.
use Rattle.std.specs.Prelude.{ℕ, suc, ◌+◌, Bool, ◌&&◌, List, [], ◌∷◌, leb, ltb, eqb, length, take, drop, Option, Some, None, option_map, option_and_then}
use Prim.Native.Char.{code}
use Rattle.words.specs.rules.Choice.{pick}
use Rattle.field_lines.specs.rules.Text.{bytes_of, part, same, decimal_of, address_of, name_of}
use Rattle.field_lines.specs.declared.Pair.{Pair}
use Rattle.field_lines.specs.declared.Span.{Span}

-- does a key stand at a place of the text?
unfoldable pub stands : List ℕ → ℕ → List ℕ → Bool
stands text at key = leb (at + length key) (length text) && same (take (length key) (drop at text)) key

-- how many bytes stand before the first c; all of them where there is none
unfoldable pub index_of : ℕ → List ℕ → ℕ
index_of c [] = 0
index_of c (b ∷ s) = pick (eqb b c) 0 (suc (index_of c s))

-- where the first closing byte stands from a place on; the text's end where there is none
unfoldable pub closed_at : List ℕ → ℕ → ℕ → ℕ
closed_at text from close = from + index_of close (drop from text)

-- a value lies behind its key and ends before the closing byte
unfoldable pub value_at : List ℕ → ℕ → List ℕ → ℕ → Option Span
value_at text at key close =
    pick (stands text at key && ltb (closed_at text (at + length key) close) (length text))
    (Some (record { from = at + length key; to = closed_at text (at + length key) close })) None

-- what follows from a value, if there is one
abbrev pub and_then : {A B : Type 0} → Option A → (A → Option B) → Option B
and_then value next = option_and_then next value

-- a pair of a value: the next begins behind the closing byte
abbrev pub pair_to : {A : Type 0} → Option A → ℕ → Option (Pair A)
pair_to value to = option_map (λ x. record { value = x; next = to + 1 }) value

-- KEY=N, with N in a range
abbrev pub decimal_in : List ℕ → ℕ → ℕ → Span → Option (Pair ℕ)
decimal_in text least most v = pair_to (decimal_of least most (part text v.from v.to)) v.to

abbrev pub decimal_pair : List ℕ → ℕ → ℕ → ℕ → List ℕ → ℕ → Option (Pair ℕ)
decimal_pair key least most close text at = and_then (value_at text at key close) (decimal_in text least most)

-- start=N and stop=N: a bit of a word
abbrev pub start_pair : List ℕ → ℕ → Option (Pair ℕ)
start_pair = decimal_pair (bytes_of "start=") 0 31 (code " ")

abbrev pub stop_pair : List ℕ → ℕ → Option (Pair ℕ)
stop_pair = decimal_pair (bytes_of "stop=") 0 31 (code " ")

-- since=N: a release
abbrev pub since_pair : List ℕ → ℕ → Option (Pair ℕ)
since_pair = decimal_pair (bytes_of "since=") 1 9999 (code " ")

-- until=N: a release, or 0; it closes the line
abbrev pub until_pair : List ℕ → ℕ → Option (Pair ℕ)
until_pair = decimal_pair (bytes_of "until=") 0 9999 (code "\n")

-- word=0xADDR
abbrev pub word_in : List ℕ → Span → Option (Pair ℕ)
word_in text v = pair_to (address_of (part text v.from v.to)) v.to

abbrev pub word_pair : List ℕ → ℕ → Option (Pair ℕ)
word_pair text at = and_then (value_at text at (bytes_of "word=0x") (code " ")) (word_in text)

-- field=NAME
abbrev pub field_in : List ℕ → Span → Option (Pair (List ℕ))
field_in text v = pair_to (name_of (part text v.from v.to)) v.to

abbrev pub field_pair : List ℕ → ℕ → Option (Pair (List ℕ))
field_pair text at = and_then (value_at text at (bytes_of "field=") (code " ")) (field_in text)
