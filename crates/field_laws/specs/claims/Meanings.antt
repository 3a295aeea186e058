-- What a ward may rely on in a register that was read: each question has one answer, the two questions agree, and a command does what it says.
use Rattle.std.specs.Prelude.{ℕ, ◌^◌, ◌≤◌, ◌<◌, max, true, false, ◌&&◌, List, [], ◌∷◌, ◌≡◌, eqb, length, get_or, Option, Some, None, unwrap_or, Ok, Err, IsErr, ok_or}
use Rattle.words.specs.rules.Bits.{within}
use Rattle.words.specs.rules.Bytes.{byte}
use Rattle.words.specs.rules.Choice.{pick}
use Rattle.windows.specs.rules.Window.{sum_of, place_of}
use Rattle.windows.specs.declared.Window.{Window}
use Rattle.windows.specs.declared.Right.TheVariants.{Set}
use Rattle.opcodes.specs.rules.Opcodes.{looked_up, with_words}
use Rattle.opcodes.specs.declared.Command.TheVariants.{BootTable}
use Rattle.opcodes.specs.declared.Dialect.{Dialect}
use Rattle.opcodes.specs.declared.Mode.{Mode}
use Rattle.commands.specs.rules.Commands.{start_of, stop_of, setting_judged, setting_memory}
use Rattle.opcodes.specs.declared.Refusal.TheVariants.{Range}
use Rattle.law_effects.specs.claims.Fields.{NamesField, field_width, Holds}
use Rattle.field_lines.specs.rules.Clashes.{in_force, has_bit, clash}
use Rattle.field_lines.specs.rules.Lines.{no_line, in_order}
use Rattle.field_lines.specs.rules.Text.{same}
use Rattle.field_lines.specs.declared.FieldLine.{FieldLine}
use Rattle.field_register.specs.rules.Commands.{command_for}
use Rattle.field_register.specs.rules.Questions.{is_about, answers, asked, field_of, line_of_name, stretch_from}
use Rattle.field_register.specs.rules.Reading.{Reading, kept, lines_in, reading_of}
use Rattle.field_register.specs.declared.Register.{Register}
use Rattle.field_register.specs.declared.Subject.{Subject}

-- the register that was read, empty where the text is refused
abbrev pub register_in : Reading → Register
register_in (Ok r) = r
register_in (Err q) = kept []

-- the register of a text
abbrev pub register_of : List ℕ → Register
register_of text = register_in (reading_of text)

-- its lines, and the one with a number from 0 on
abbrev pub lines_of : List ℕ → List FieldLine
lines_of text = lines_in (register_of text)

abbrev pub nth : List FieldLine → ℕ → FieldLine
nth ls i = get_or ls i no_line

-- two lines clash exactly where a release has both and they share a name, or a bit of a word
pub record ClashMeans : Type 0 where
  pub by_name : (a b : FieldLine) (release : ℕ) → in_force a release ≡ true → in_force b release ≡ true → same a.name b.name ≡ true
      → clash a b ≡ true
  pub by_bit : (a b : FieldLine) (release word bit : ℕ) → in_force a release ≡ true → in_force b release ≡ true
      → has_bit a word bit ≡ true → has_bit b word bit ≡ true → clash a b ≡ true
  -- the later of their first releases has both, and where the names differ, the higher of their first bits is in both
  pub only_release : (a b : FieldLine) → in_order a ≡ true → in_order b ≡ true → clash a b ≡ true
      → (in_force a (max a.since b.since) ≡ true) × (in_force b (max a.since b.since) ≡ true)
  pub only_bit : (a b : FieldLine) → in_order a ≡ true → in_order b ≡ true → clash a b ≡ true → same a.name b.name ≡ false
      → (has_bit a a.word (max a.start b.start) ≡ true) × (has_bit b a.word (max a.start b.start) ≡ true)

-- a bit and a release have at most one line, and so has a name and a release
pub record OneAnswer : Type 0 where
  pub at_most_one : (text : List ℕ) (s : Subject) (release i j : ℕ) → i < length (lines_of text) → j < length (lines_of text)
      → answers s release (nth (lines_of text) i) ≡ true → answers s release (nth (lines_of text) j) ≡ true → i ≡ j
  -- so that line is the answer
  pub the_answer : (text : List ℕ) (s : Subject) (release i : ℕ) → i < length (lines_of text)
      → answers s release (nth (lines_of text) i) ≡ true → asked (register_of text) s release ≡ Some (nth (lines_of text) i)
  -- and 28 is given where no line answers
  pub no_answer : (text : List ℕ) (s : Subject) (release i : ℕ) → i < length (lines_of text) → asked (register_of text) s release ≡ None
      → answers s release (nth (lines_of text) i) ≡ false
  -- a refused text leaves no line, so every question is answered with 28
  pub refused : (text : List ℕ) → IsErr (reading_of text) → lines_of text ≡ []
  pub refused_none : (text : List ℕ) (s : Subject) (release : ℕ) → IsErr (reading_of text) → asked (register_of text) s release ≡ None

-- a stretch of releases that begins at a release, up to its last one or with no end, has one answer
pub record StretchMeans : Type 0 where
  pub one_answer_through : (text : List ℕ) (s : Subject) (release q : ℕ) → release ≤ q → 1 ≤ release
      → (((stretch_from (register_of text) s release).last ≡ 0 → ⊥) → q ≤ (stretch_from (register_of text) s release).last)
      → asked (register_of text) s q ≡ (stretch_from (register_of text) s release).found

-- a release later than any that some lines name
abbrev pub LaterThanAny : List FieldLine → ℕ → Type 0
LaterThanAny ls release = (i : ℕ) → i < length ls → ((nth ls i).since < release) × ((nth ls i).until < release)

-- the first of some lines that is about a subject and still in force
unfoldable pub still_in_force : Subject → List FieldLine → Option FieldLine
still_in_force s [] = None
still_in_force s (l ∷ ls) = pick (is_about s l && eqb l.until 0) (Some l) (still_in_force s ls)

-- a release later than any named is answered by the fields still in force
pub record LaterReleases : Type 0 where
  pub answered : (text : List ℕ) (s : Subject) (release : ℕ) → LaterThanAny (lines_of text) release
      → asked (register_of text) s release ≡ still_in_force s (lines_of text)
  -- so every such release has the same answer
  pub one_answer_for_all : (text : List ℕ) (s : Subject) (release q : ℕ) → LaterThanAny (lines_of text) release → LaterThanAny (lines_of text) q
      → asked (register_of text) s release ≡ asked (register_of text) s q
  -- and each from 10,000 on is one
  pub past_all : (text : List ℕ) (release : ℕ) → 9999 < release → LaterThanAny (lines_of text) release

-- the words of a command: which bits of which word it writes
abbrev pub kind_in : List ℕ → ℕ
kind_in words = get_or words 1 0

abbrev pub address_in : List ℕ → ℕ
address_in words = get_or words 2 0

abbrev pub writes_bit : List ℕ → ℕ → ℕ → Type 0
writes_bit words word bit = (word ≡ address_in words) × (within (start_of (kind_in words)) (field_width (kind_in words)) bit ≡ true)

-- the command that was made for a name, a release and a value
pub record Made (text name : List ℕ) (release value : ℕ) (words : List ℕ) : Type 0 where
  pub made : command_for (register_of text) name release value ≡ Ok words

pub record QuestionsAgree : Type 0 where
  -- every bit that it writes is that field in that release
  pub written : (text name : List ℕ) (release value : ℕ) (words : List ℕ) → Made text name release value words
      → (word bit : ℕ) → writes_bit words word bit → field_of (register_of text) word bit release ≡ line_of_name (register_of text) name release
  -- and no other bit is
  pub not_written : (text name : List ℕ) (release value : ℕ) (words : List ℕ) → Made text name release value words
      → (word bit : ℕ) → (writes_bit words word bit → ⊥) → field_of (register_of text) word bit release ≡ line_of_name (register_of text) name release → ⊥

-- the line that a name is in a release
abbrev pub line_named : List ℕ → List ℕ → ℕ → FieldLine
line_named text name release = unwrap_or (line_of_name (register_of text) name release) no_line

-- five words of 32 bits: the opcode, which is Boot Table in either mode and dialect; a type word that names a field, of kind 3, with the line's START and
-- STOP; the line's word, the value, and delay 0
pub record IsBootTable (l : FieldLine) (value : ℕ) (words : List ℕ) : Type 0 where
  pub five : length words ≡ 5
  pub small : (i : ℕ) → get_or words i 0 < 2 ^ 32
  pub opcode : get_or words 0 0 ≡ 0x58535907
  pub in_table : (mode : Mode) (dialect : Dialect) → looked_up (get_or words 0 0) mode dialect ≡ Ok (with_words BootTable 4)
  pub names_field : NamesField (kind_in words)
  pub kind : byte (kind_in words) 0 ≡ 3
  pub start : start_of (kind_in words) ≡ l.start
  pub stop : stop_of (kind_in words) ≡ l.stop
  pub address : address_in words ≡ l.word
  pub data_word : get_or words 3 0 ≡ value
  pub no_delay : get_or words 4 0 ≡ 0

pub record DoesWhatItSays : Type 0 where
  pub boot-table : (text name : List ℕ) (release value : ℕ) (words : List ℕ) → Made text name release value words
      → IsBootTable (line_named text name release) value words
  -- a loader judges it by the windows over the word alone: 7 where none lets it be set
  pub by_window : (text name : List ℕ) (release value : ℕ) (words : List ℕ) → Made text name release value words → (windows : List Window)
      → setting_judged windows (kind_in words) (address_in words) value ≡ ok_or (place_of windows Set (address_in words) 4) Range
  -- on a loader with a set window over the word it is accepted; the field then holds the value, and every other bit is kept
  pub accepted : (text name : List ℕ) (release value : ℕ) (words : List ℕ) → Made text name release value words
      → (windows : List Window) (memory : List ℕ) (place : ℕ) → length memory ≡ sum_of windows
      → place_of windows Set (address_in words) 4 ≡ Some place
      → (setting_judged windows (kind_in words) (address_in words) value ≡ Ok place)
      × Holds (kind_in words) place value memory (setting_memory (Ok place) memory (kind_in words) value)
