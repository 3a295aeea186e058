-- What stamping comes to, entry by entry: the written bits get the number and all else is kept, so a write in pieces stamps what the whole would,
-- and one that covers another leaves no trace of it.
use Rattle.std.specs.Prelude.{ℕ, ◌+◌, ◌*◌, ◌≤◌, ◌<◌, List, ◌≡◌, length, get_or}
use Rattle.words.specs.rules.Bits.{within}
use Rattle.words.specs.rules.Choice.{pick}
use Rattle.commands.specs.rules.Wrote.{first_bit}
use Rattle.commands.specs.declared.Wrote.{Wrote}
use Rattle.bit_stamps.specs.rules.Stamps.{stamped, entry_at}

-- two writes, one just above the other, that are a third in pieces
pub record Pieces (lower upper whole : Wrote) : Type 0 where
  pub low : first_bit lower ≡ first_bit whole
  pub next : first_bit upper ≡ first_bit whole + lower.count
  pub count : lower.count + upper.count ≡ whole.count
  pub numbers : (lower.number ≡ whole.number) × (upper.number ≡ whole.number)

pub record StampLaws (entries places : List ℕ) : Type 0 where
  pub same_length : (w : Wrote) → length (stamped entries places w) ≡ length entries
  -- entry k of chosen word j: the number where the bit was written, else as it was
  pub each_entry : (w : Wrote) (j k : ℕ) → w.number < 65536 → j < length places → k < 32 → 64 * length places ≤ length entries
      → entry_at (stamped entries places w) j k ≡ pick (within (first_bit w) w.count (8 * get_or places j 0 + k)) w.number (entry_at entries j k)
  -- what lies past the chosen words' entries is kept
  pub past_kept : (w : Wrote) (n : ℕ) → 64 * length places ≤ n → n < length entries → get_or (stamped entries places w) n 0 ≡ get_or entries n 0
  -- a write that covers the one before it leaves what it would have left alone
  pub covered : (v w : Wrote) → first_bit w ≤ first_bit v → first_bit v + v.count ≤ first_bit w + w.count
      → stamped (stamped entries places v) places w ≡ stamped entries places w
  -- two pieces of one write are the whole
  pub in_pieces : (lower upper whole : Wrote) → Pieces lower upper whole
      → stamped (stamped entries places lower) places upper ≡ stamped entries places whole
  -- no entry is 65,536 or more
  pub below : (j k : ℕ) → entry_at entries j k < 65536
