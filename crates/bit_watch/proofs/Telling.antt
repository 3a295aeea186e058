-- Entries by what an answer tells: it tells what the rule's answer tells, since it is that answer; where that is nothing, or no word is chosen, all entries are
-- kept.
use Prim.Native.Nat.{ℕ}
use mathlib.Core.List.{List}
use mathlib.Core.Path.{◌≡◌, sym, ap, ◌∙◌}
use lib.ListN.{take}
use Rattle.commands.specs.declared.Wrote.{Wrote}
use Rattle.bit_stamps.specs.rules.Stamps.{stamped}
use Rattle.bit_stamps.proofs.Stamping.{none_taken, none_written}

module _ (entries places : List ℕ) (count : ℕ) {w v : Wrote} (same : w ≡ v) where
  pub all_told : {after : List ℕ} → after ≡ stamped entries (take count places) w → after ≡ stamped entries (take count places) v
  all_told stamps = stamps ∙ ap (λ (x : Wrote). stamped entries (take count places) x) same

  pub nothing_told : w.count ≡ 0 → entries ≡ stamped entries (take count places) v
  nothing_told none = all_told (sym (none_written entries (take count places) w none))

  pub no_word_told : count ≡ 0 → entries ≡ stamped entries (take count places) v
  no_word_told none = all_told (sym (none_taken entries places count w none))
