-- A well-formed line, written out from what it names. Every such line is read, and what is read is such a line; so is a text.
use Rattle.std.specs.Prelude.{ℕ, zero, suc, ◌+◌, ◌-◌, ◌/◌, ◌%◌, ◌^◌, ◌≤◌, ◌<◌, false, List, [], ◌∷◌, ◌++◌, map, ◌≡◌, ltb, length, get_or, drop, replicate, Some, IsOk}
use Prim.Native.Char.{code}
use Rattle.words.specs.rules.Choice.{pick}
use Rattle.digits.specs.rules.Digits.{digit_of}
use Rattle.hex_text.specs.claims.RoundTrip.{capital}
use Rattle.hex_text.specs.rules.Digits.{digits_of}
use Rattle.field_lines.specs.rules.Clashes.{clash}
use Rattle.field_lines.specs.rules.Lines.{line_at}
use Rattle.field_lines.specs.rules.Text.{bytes_of}
use Rattle.field_lines.specs.declared.FieldLine.{FieldLine}
use Rattle.field_lines.specs.declared.Parsed.{Parsed}
use Rattle.field_register.specs.rules.Reading.{most_lines, read_as, reading_of}
use Rattle.field_laws.specs.claims.Meanings.{nth, lines_of}

-- a number written with at most so many decimal digits: its last digit behind those of the rest, and no zero before them
unfoldable pub decimal : ℕ → ℕ → List ℕ
decimal zero n = []
decimal (suc digits) n = pick (ltb n 10) (digit_of n ∷ []) (decimal digits (n / 10) ++ digit_of (n % 10) ∷ [])

-- N: the numbers of a line have at most four
abbrev pub written : ℕ → List ℕ
written n = decimal 4 n

-- NAME is 1 to 16 small letters; it is kept with zeros behind it
pub record IsName (name kept : List ℕ) : Type 0 where
  pub some : 1 ≤ length name
  pub most : length name ≤ 16
  pub letters : (i : ℕ) → i < length name → (code "a" ≤ get_or name i 0) × (get_or name i 0 ≤ code "z")
  pub is_kept : kept ≡ name ++ replicate (16 - length name) 0

-- what a line may name
pub record InRanges (l : FieldLine) : Type 0 where
  pub small : l.word < 2 ^ 32
  pub aligned : l.word % 4 ≡ 0
  pub order : l.start ≤ l.stop
  pub last : l.stop ≤ 31
  pub first : 1 ≤ l.since
  pub since_most : l.since ≤ 9999
  pub until_most : l.until ≤ 9999
  pub ends : (l.until ≡ 0 → ⊥) → l.since ≤ l.until

-- the text of a line, its name and address given as they are written
abbrev pub line_text : FieldLine → List ℕ → List ℕ → List ℕ
line_text l name address =
    bytes_of "field=" ++ name ++ bytes_of " word=0x" ++ address ++ bytes_of " start=" ++ written l.start ++ bytes_of " stop=" ++ written l.stop
    ++ bytes_of " since=" ++ written l.since ++ bytes_of " until=" ++ written l.until ++ bytes_of "\n"

-- a line in its ranges, and a text that says it: ADDR is the eight digits of the word, in either letter case
pub record WellFormed (l : FieldLine) (text : List ℕ) : Type 0 where
  pub name : List ℕ
  pub address : List ℕ
  pub in_ranges : InRanges l
  pub is_name : IsName name l.name
  pub is_address : map capital address ≡ digits_of l.word
  pub is_text : text ≡ line_text l name address

-- a line of a text that was read at a place: it is well-formed, it stands there, and the next begins behind it
pub record Stands (text : List ℕ) (at : ℕ) (p : Parsed) : Type 0 where
  pub line : List ℕ
  pub well_formed : WellFormed p.line line
  pub there : drop at text ≡ line ++ drop p.next text
  pub behind : p.next ≡ at + length line

-- a text of well-formed lines, one behind the other
pub data TextOf : List FieldLine → List ℕ → Type 0 where
  none : TextOf [] []
  more : {l : FieldLine} {ls : List FieldLine} {line text : List ℕ} → WellFormed l line → TextOf ls text → TextOf (l ∷ ls) (line ++ text)

pub record ReadsWellFormed : Type 0 where
  -- a well-formed line is read, wherever it stands
  pub line_read : (before line after : List ℕ) (l : FieldLine) → WellFormed l line
      → line_at (before ++ line ++ after) (length before) ≡ Some (record { line = l; next = length before + length line })
  -- and what is read as a line is one
  pub line_written : (text : List ℕ) (at : ℕ) (p : Parsed) → line_at text at ≡ Some p → Stands text at p
  -- up to 200 well-formed lines of which no two clash are read
  pub text_read : (ls : List FieldLine) (text : List ℕ) → TextOf ls text → length ls ≤ most_lines
      → ((i j : ℕ) → i < j → j < length ls → clash (nth ls i) (nth ls j) ≡ false) → reading_of text ≡ read_as ls
  -- and a text that is read is such lines
  pub text_written : (text : List ℕ) → IsOk (reading_of text) → TextOf (lines_of text) text
  pub text_counted : (text : List ℕ) → length (lines_of text) ≤ most_lines
