-- Which command set this bit, and to what (02, request 6), told from the history alone: the accepted commands in order, each with its effect and the number
-- it had.
use Rattle.std.specs.Prelude.{ℕ, ◌+◌, ◌*◌, ◌≤◌, ◌<◌, Bool, true, false, ◌&&◌, List, [], ◌∷◌, ◌++◌, ◌≡◌, ltb, length, get_or, replicate}
use Rattle.words.specs.rules.Bytes.{bit_at, AreBytes}
use Rattle.words.specs.rules.Choice.{pick}
use Rattle.commands.specs.rules.Wrote.{bits_wrote, none_wrote}
use Rattle.commands.specs.declared.Wrote.{Wrote}
use Rattle.law_effects.specs.claims.Effects.{Effect, writes, becomes, some_writes}
use Rattle.law_effects.specs.claims.Wrote.{Tells}
use Rattle.bit_stamps.specs.rules.Stamps.{stamped, entry_at}

-- a command of the history: what it did to memory, and its number
pub record Numbered : Type 0 where
  pub effect : Effect
  pub number : ℕ

-- the effects of the commands
abbrev pub effects_in : List Numbered → List Effect
effects_in [] = []
effects_in (c ∷ cs) = c.effect ∷ effects_in cs

-- does one of the commands write bit p?
abbrev pub any_writes : List Numbered → ℕ → Bool
any_writes history p = some_writes (effects_in history) p

-- what is read off the last one that writes bit p; what was there before where none does
unfoldable pub last_of : (Numbered → ℕ) → List Numbered → ℕ → ℕ → ℕ
last_of reads [] p was = was
last_of reads (c ∷ cs) p was = pick (any_writes cs p) (last_of reads cs p was) (pick (writes c.effect p) (reads c) was)

-- its number; 0 where none does
abbrev pub last_number : List Numbered → ℕ → ℕ
last_number history p = last_of (λ c. c.number) history p 0

-- what it gives the bit; what the bit was where none does
abbrev pub last_given : List Numbered → ℕ → ℕ → ℕ
last_given history p was = last_of (λ c. becomes c.effect p) history p was

-- memory before and after the commands of a history: each bit is what the last of them that writes it gives, and what it was where none does
pub record LeftBy (history : List Numbered) (before after : List ℕ) : Type 0 where
  pub same_length : length after ≡ length before
  pub each_bit : (p : ℕ) → p < 8 * length before → bit_at after p ≡ last_given history p (bit_at before p)

-- what a step tells, and the memory before and after it, are as its history lists it: with no command nothing is told, and memory is as it was; with one, its
-- bits are told by its number, and memory is given what its effect gives them
abbrev pub AsListed : List Numbered → Wrote → List ℕ → List ℕ → Type 0
AsListed [] w before after = (w ≡ none_wrote) × (after ≡ before)
AsListed (c ∷ []) w before after = (w.number ≡ c.number) × Tells c.effect w before after
AsListed (c ∷ d ∷ cs) w before after = ⊥

-- the last command that writes bit p, between those before it and those after it
pub record LastWriter (history : List Numbered) (p : ℕ) : Type 0 where
  pub before : List Numbered
  pub writer : Numbered
  pub after : List Numbered
  pub stands : history ≡ before ++ (writer ∷ after)
  pub written : writes writer.effect p ≡ true
  pub last : any_writes after p ≡ false

-- two histories say the same of every bit: whether it is written, by which number, and to what
pub record SaySame (a b : List Numbered) : Type 0 where
  pub same_bits : (p : ℕ) → any_writes a p ≡ any_writes b p
  pub same_numbers : (p : ℕ) → last_number a p ≡ last_number b p
  pub same_values : (p was : ℕ) → last_given a p was ≡ last_given b p was

-- the bits that a command wrote, counted from the first byte of memory on, by its number
abbrev pub wrote_by : Numbered → Wrote
wrote_by c = bits_wrote 0 c.effect.first c.effect.count c.number

-- the entries after the commands of a history, stamped one after the other
unfoldable pub stamped_all : List ℕ → List ℕ → List Numbered → List ℕ
stamped_all entries places [] = entries
stamped_all entries places (c ∷ cs) = stamped_all (stamped entries places (wrote_by c)) places cs

-- is every number below 65,536?
unfoldable pub numbers_fit : List Numbered → Bool
numbers_fit [] = true
numbers_fit (c ∷ cs) = ltb c.number 65536 && numbers_fit cs

-- the bit of memory that is bit k of chosen word j
abbrev pub chosen_bit : List ℕ → ℕ → ℕ → ℕ
chosen_bit places j k = 8 * get_or places j 0 + k

pub record HistoryLaws : Type 0 where
  -- where some command writes a bit, there is a last one
  pub there_is_one : (history : List Numbered) (p : ℕ) → any_writes history p ≡ true → LastWriter history p
  -- number and value are both read off it: it is the one after which none writes the bit
  pub last_one : (reads : Numbered → ℕ) (before after : List Numbered) (c : Numbered) (p was : ℕ) → writes c.effect p ≡ true → any_writes after p ≡ false
      → last_of reads (before ++ (c ∷ after)) p was ≡ reads c
  -- where no command writes it, it is what it was
  pub no_one : (reads : Numbered → ℕ) (history : List Numbered) (p was : ℕ) → any_writes history p ≡ false → last_of reads history p was ≡ was
  -- of two histories one after the other the later one goes on from the earlier
  pub one_after_other : (reads : Numbered → ℕ) (earlier later : List Numbered) (p was : ℕ)
      → last_of reads (earlier ++ later) p was ≡ last_of reads later p (last_of reads earlier p was)
  -- so commands that are abandoned leave no trace in a bit that is written again after them, or that they did not write
  pub no_trace : (reads : Numbered → ℕ) (before abandoned after : List Numbered) (p was : ℕ) → (any_writes abandoned p ≡ true → any_writes after p ≡ true)
      → last_of reads (before ++ (abandoned ++ after)) p was ≡ last_of reads (before ++ after) p was
  -- memory goes on too, and a history leaves one memory of bytes
  pub left_on : (earlier later : List Numbered) (first middle last : List ℕ) → LeftBy earlier first middle → LeftBy later middle last
      → LeftBy (earlier ++ later) first last
  pub one_memory : (history : List Numbered) (m left other : List ℕ) → AreBytes left → AreBytes other → LeftBy history m left → LeftBy history m other
      → left ≡ other
  -- the entries go on from those of the history so far
  pub stamped_on : (entries places : List ℕ) (earlier later : List Numbered)
      → stamped_all entries places (earlier ++ later) ≡ stamped_all (stamped_all entries places earlier) places later
  pub same_length : (entries places : List ℕ) (history : List Numbered) → length (stamped_all entries places history) ≡ length entries
  -- entry k of chosen word j, from entries that are all 0, is what the history says of its bit
  pub told : (places : List ℕ) (history : List Numbered) → numbers_fit history ≡ true → (j k : ℕ) → j < length places → k < 32
      → entry_at (stamped_all (replicate (64 * length places) 0) places history) j k ≡ last_number history (chosen_bit places j k)
  -- from any entries, it is what it was where the history does not write its bit
  pub told_on : (entries places : List ℕ) (history : List Numbered) → numbers_fit history ≡ true → 64 * length places ≤ length entries
      → (j k : ℕ) → j < length places → k < 32
      → entry_at (stamped_all entries places history) j k ≡ last_of (λ c. c.number) history (chosen_bit places j k) (entry_at entries j k)
