-- What each turn keeps: the words so far are laid into the room, and the rest of the text is left.
use Rattle.std.proofs.Common.{◌≡◌, ◌*◌, ◌≤◌, length, drop}
use Rattle.hex_text.specs.rules.Text.{each_word, read_word, laid}
use Rattle.hex_text.proofs.read_words.Given as goal

abbrev pub invariant-loop-i : goal.invariant-loop-i
invariant-loop-i l = record {
  size : l.i-iterator.iter.size ≡ 8;
  rest : l.i-iterator.iter.rest.now ≡ drop (8 * l.i-iterator.count) l.text;
  counted : 8 * l.i-iterator.count ≤ length l.text;
  laid_so_far : l.room ≡ laid (each_word 8 read_word l.i-iterator.count l.text) l.initial.room;
}
