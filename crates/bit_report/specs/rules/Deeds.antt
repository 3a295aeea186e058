-- What the command at an offset of an image is, and which bits of a chosen word it writes, by the words that it has there.
use Rattle.std.specs.Prelude.{ℕ, ◌+◌, List, Result, Ok, Err}
use Rattle.words.specs.rules.Bytes.{word_at}
use Rattle.opcodes.specs.rules.Opcodes.{by_writing, looked_up}
use Rattle.opcodes.specs.declared.Command.{Command}
use Rattle.opcodes.specs.declared.Dialect.TheVariants.{Am17xx}
use Rattle.opcodes.specs.declared.Mode.TheVariants.{Flash}
use Rattle.opcodes.specs.declared.Known.{Known}
use Rattle.opcodes.specs.declared.Refusal.{Refusal}
use Rattle.commands.specs.rules.Wrote.{first_bit, bytes_wrote, setting_wrote}
use Rattle.commands.specs.declared.Wrote.{Wrote}
use Rattle.bit_stamps.specs.rules.Stamps.{word_bits_below}
use Rattle.bit_report.specs.declared.Deed.{Deed}
use Rattle.bit_report.specs.declared.Kind.{Kind}
use Rattle.bit_report.specs.declared.Kind.TheVariants as kind

-- bits that were written, as the word at a place has them: from its first that was written up to before the first behind them
unfoldable pub spread : Kind → ℕ → Wrote → Deed
spread k word w =
    record {
      kind = k;
      from = word_bits_below word (first_bit w);
      to = word_bits_below word (first_bit w + w.count);
    }

abbrev pub no_deed : Deed
no_deed = record { kind = kind.Other; from = 0; to = 0 }

-- a load or a fill: its address, then its size; the addresses stand for the places
unfoldable pub bytes_deed : Kind → List ℕ → ℕ → ℕ → Deed
bytes_deed k image at word = spread k word (bytes_wrote (Ok (word_at image (at + 4))) (word_at image (at + 8)) 0)

-- a setting: its type word, then its address
unfoldable pub setting_deed : List ℕ → ℕ → ℕ → Deed
setting_deed image at word = spread kind.Setting word (setting_wrote (Ok (word_at image (at + 8))) (word_at image (at + 4)) 0)

-- no other command writes
abbrev pub command_deed : Command → List ℕ → ℕ → ℕ → Deed
command_deed command image at word =
    by_writing command (bytes_deed kind.Load image at word) (bytes_deed kind.Fill image at word) (setting_deed image at word) no_deed

abbrev pub found_deed : Result Known Refusal → List ℕ → ℕ → ℕ → Deed
found_deed (Ok known) image at word = command_deed known.command image at word
found_deed (Err q) image at word = no_deed

-- the command at an offset, and the word at an address
unfoldable pub deed_at : List ℕ → ℕ → ℕ → Deed
deed_at image at word = found_deed (looked_up (word_at image at) Flash Am17xx) image at word
