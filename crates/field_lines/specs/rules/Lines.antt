-- A line of the register: field=NAME word=0xADDR start=N stop=N since=N until=N and a line feed.
use Rattle.std.specs.Prelude.{ℕ, ◌%◌, Bool, ◌&&◌, ◌||◌, List, leb, eqb, replicate, Option, Some, None}
use Rattle.words.specs.rules.Choice.{pick}
use Rattle.field_lines.specs.rules.Pairs.{and_then, field_pair, word_pair, start_pair, stop_pair, since_pair, until_pair}
use Rattle.field_lines.specs.declared.FieldLine.{FieldLine}
use Rattle.field_lines.specs.declared.Pair.{Pair}
use Rattle.field_lines.specs.declared.Parsed.{Parsed}

-- the word is a multiple of 4, start is not above stop, and until is 0 or not below since
unfoldable pub in_order : FieldLine → Bool
in_order l = eqb (l.word % 4) 0 && leb l.start l.stop && (eqb l.until 0 || leb l.since l.until)

-- no line
abbrev pub no_line : FieldLine
no_line = record { name = replicate 16 0; word = 0; start = 0; stop = 0; since = 0; until = 0 }

-- a line whose pairs are right together
unfoldable pub parsed_if : FieldLine → ℕ → Option Parsed
parsed_if line next = pick (in_order line) (Some (record { line = line; next = next })) None

-- what six pairs say
abbrev pub line_of : Pair (List ℕ) → Pair ℕ → Pair ℕ → Pair ℕ → Pair ℕ → Pair ℕ → FieldLine
line_of field word start stop since until =
    record {
      name = field.value;
      word = word.value;
      start = start.value;
      stop = stop.value;
      since = since.value;
      until = until.value;
    }

-- the line that begins at a place of the text, and where the next begins: all six pairs are right, each where the one before it ends, and right together
unfoldable pub line_at : List ℕ → ℕ → Option Parsed
line_at text at =
    and_then (field_pair text at)
    (λ field.
    and_then (word_pair text field.next)
    (λ word.
    and_then (start_pair text word.next)
    (λ start.
    and_then (stop_pair text start.next)
    (λ stop.
    and_then (since_pair text stop.next)
    (λ since.
    and_then (until_pair text since.next)
    (λ until. parsed_if (line_of field word start stop since until) until.next))))))
