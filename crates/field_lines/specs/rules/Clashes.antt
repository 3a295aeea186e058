-- What a line names in a release, and when two lines clash.
use Rattle.std.specs.Prelude.{ℕ, Bool, ◌&&◌, ◌||◌, leb, eqb}
use Rattle.field_lines.specs.rules.Text.{same}
use Rattle.field_lines.specs.declared.FieldLine.{FieldLine}

-- is a release none after the line's last? until=0 has no end
unfoldable pub lasts : FieldLine → ℕ → Bool
lasts l release = eqb l.until 0 || leb release l.until

-- is the line in force in a release?
unfoldable pub in_force : FieldLine → ℕ → Bool
in_force l release = leb l.since release && lasts l release

-- is a bit of a word one of the field's?
unfoldable pub has_bit : FieldLine → ℕ → ℕ → Bool
has_bit l word bit = eqb l.word word && leb l.start bit && leb bit l.stop

-- has a release both lines? each begins before the other ends
unfoldable pub share_release : FieldLine → FieldLine → Bool
share_release a b = lasts a b.since && lasts b a.since

-- is a bit of one word in both fields?
unfoldable pub share_bit : FieldLine → FieldLine → Bool
share_bit a b = eqb a.word b.word && leb a.start b.stop && leb b.start a.stop

-- two lines clash: a release has both, and they share a name, or a bit of one word
unfoldable pub clash : FieldLine → FieldLine → Bool
clash a b = share_release a b && (same a.name b.name || share_bit a b)
