-- The opening of a flash session: 1, then 3, then 4.
use Rattle.std.specs.Prelude.{ℕ, Bool, true, false, not, ◌&&◌, List, leb, eqb, length, replicate}
use Rattle.words.specs.rules.Bytes.{word_at}
use Rattle.words.specs.rules.Choice.{pick}
use Rattle.windows.specs.rules.Map.{good_map, kept_of, zero_window}
use Rattle.windows.specs.declared.Window.{Window}
use Rattle.opcodes.specs.rules.Answers.{accepted}
use Rattle.opcodes.specs.declared.Dialect.{Dialect}
use Rattle.opcodes.specs.declared.Dialect.TheVariants.{Am17xx}
use Rattle.opcodes.specs.rules.Refusals.{Verdict}
use Rattle.opcodes.specs.rules.Refusals.{None, Map, Image, Magic}
use Rattle.ledger.specs.rules.Totals.{at_opening, from_one}
use Rattle.commands.specs.rules.Commands.{multiple}
use Rattle.flash_session.specs.rules.Sessions.{with_totals}
use Rattle.flash_session.specs.declared.Opened.{Opened}

-- the longest image, in bytes
abbrev pub longest : ℕ
longest = 65536

-- an image's length is a multiple of 4 from 4 to the longest
unfoldable pub good_length : ℕ → Bool
good_length n = multiple n 4 && leb 4 n && leb n longest

-- the first word of an image
abbrev pub magic : ℕ
magic = 0x41504954

-- a refused opening gives a session of AM17xx that is ended, all else of it zero or off but the count of words fetched
abbrev pub refused_by : Verdict → ℕ → Opened
refused_by q fetched =
    record {
      refusal = q;
      session = record {
        windows = replicate 8 zero_window;
        ended = true;
        on = false;
        checksum = 0;
        offset = 0;
        length = 0;
        limit = 0;
        retries = 0;
        fetched = fetched;
        dialect = Am17xx;
        totals = at_opening;
      };
    }

-- an accepted one is at the first command: checksum off, checksum and totals 0, no retry counted, the first word fetched
abbrev pub begun : Dialect → List Window → ℕ → ℕ → Opened
begun dialect windows length limit =
    record {
      refusal = None;
      session = record {
        windows = windows;
        ended = false;
        on = false;
        checksum = 0;
        offset = 4;
        length = length;
        limit = limit;
        retries = 0;
        fetched = 1;
        dialect = dialect;
        totals = at_opening;
      };
    }

-- the opening: a dialect, a map, an image and a retry limit; the first word is fetched once map and length are good
unfoldable pub opened_by : Dialect → ℕ → List Window → List ℕ → ℕ → Opened
opened_by dialect count windows image limit =
    pick (not (good_map count windows)) (refused_by Map 0)
    (pick (not (good_length (length image))) (refused_by Image 0)
    (pick (not (eqb (word_at image 0) magic)) (refused_by Magic 1)
    (begun dialect (kept_of count windows) (length image) limit)))

-- an opening whose session numbers its commands, from 1; a refused one is as it was
unfoldable pub numbering_from : Opened → Opened
numbering_from o =
    pick (accepted o.refusal)
    (record { refusal = o.refusal; session = with_totals o.session (from_one o.session.totals) })
    o
