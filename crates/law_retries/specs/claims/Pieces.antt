-- Loads, fills and settings as they are sent, and the bits that they write.
use Rattle.std.specs.Prelude.{ℕ, ◌+◌, ◌/◌, Bool, true, List, [], ◌∷◌, ◌++◌, ◌≡◌, length, take, Ok, Err}
use Rattle.windows.specs.declared.Window.{Window}
use Rattle.commands.specs.rules.Commands.{load_judged, unit_of, fill_judged, shape_of, setting_judged, Judged}
use Rattle.law_effects.specs.claims.Effects.{Effect, no_effect, load_effect, fill_effect, setting_effect, some_writes}
use Rattle.words.specs.rules.Bytes.{words_bytes}
use Rattle.sent_laws.specs.claims.Lines.{AreWords}

-- the opcodes that are sent here
abbrev pub load_opcode : ℕ
load_opcode = 0x58535901

abbrev pub fill_opcode : ℕ
fill_opcode = 0x5853590A

abbrev pub setting_opcode : ℕ
setting_opcode = 0x58535907

abbrev pub enable_opcode : ℕ
enable_opcode = 0x58535903

abbrev pub request_opcode : ℕ
request_opcode = 0x58535902

abbrev pub start_over_opcode : ℕ
start_over_opcode = 0x58535908

-- a command that writes: a load of so many bytes with its words of data, a fill, a setting
pub data Piece : Type 0 where
  load : (address size : ℕ) (contents : List ℕ) → Piece
  fill : (address size kind pattern : ℕ) → Piece
  setting : (word address value delay : ℕ) → Piece

-- the words of a command
abbrev pub words_of : Piece → List ℕ
words_of (load address size contents) = load_opcode ∷ address ∷ size ∷ contents
words_of (fill address size kind pattern) = fill_opcode ∷ address ∷ size ∷ kind ∷ pattern ∷ []
words_of (setting word address value delay) = setting_opcode ∷ word ∷ address ∷ value ∷ delay ∷ []

-- of several commands, one after the other
unfoldable pub all_words : List Piece → List ℕ
all_words [] = []
all_words (c ∷ cs) = words_of c ++ all_words cs

-- the bytes that a load loads: the first of its words' bytes, as many as its size says; the others are pad bytes
abbrev pub bytes_loaded : ℕ → List ℕ → List ℕ
bytes_loaded size contents = take size (words_bytes contents)

-- a load has as many words of data as its size needs
abbrev pub Complete : Piece → Type 0
Complete (load address size contents) = length contents ≡ (size + 3) / 4
Complete (fill address size kind pattern) = Unit {0}
Complete (setting word address value delay) = Unit {0}

-- a command that can be sent
abbrev pub Sendable : Piece → Type 0
Sendable c = AreWords (words_of c) × Complete c

unfoldable pub AllSendable : List Piece → Type 0
AllSendable [] = Unit {0}
AllSendable (c ∷ cs) = Sendable c × AllSendable cs

-- how the map judges a command: its place in memory, or a refusal
abbrev pub judged_of : List Window → Piece → Judged
judged_of windows (load address size contents) = load_judged windows address size
judged_of windows (fill address size kind pattern) = fill_judged windows address size kind
judged_of windows (setting word address value delay) = setting_judged windows word address value

-- the bits that a command writes from a place on: of a load or fill those of its range, of a setting those of its unit or field
abbrev pub effect_at : Piece → ℕ → Effect
effect_at (load address size contents) place = load_effect place (bytes_loaded size contents)
effect_at (fill address size kind pattern) place = fill_effect place size (unit_of kind) pattern
effect_at (setting word address value delay) place = setting_effect place (shape_of word) value

-- those that it writes where it is granted; none where it is refused
abbrev pub effect_if : Judged → Piece → Effect
effect_if (Ok place) c = effect_at c place
effect_if (Err q) c = no_effect

unfoldable pub effect_of : List Window → Piece → Effect
effect_of windows c = effect_if (judged_of windows c) c

-- so of several commands
abbrev pub effects_of : List Window → List Piece → List Effect
effects_of windows [] = []
effects_of windows (c ∷ cs) = effect_of windows c ∷ effects_of windows cs

-- does one of them write bit p?
abbrev pub any_writes : List Window → List Piece → ℕ → Bool
any_writes windows cs p = some_writes (effects_of windows cs) p

-- what follows writes every bit that the attempt wrote
abbrev pub Covers : List Window → List Piece → List Piece → Type 0
Covers windows attempt following = (p : ℕ) → any_writes windows attempt p ≡ true → any_writes windows following p ≡ true
