-- What each command but Load comes to in a flash session, judged in the order of document 01.
use Rattle.std.specs.Prelude.{ℕ, List, leb, eqb, Some, Ok, Err}
use Rattle.words.specs.rules.Choice.{pick}
use Rattle.opcodes.specs.declared.Event.TheVariants.{Nothing}
use Rattle.opcodes.specs.declared.Refusal.TheVariants as why
use Rattle.opcodes.specs.rules.Refusals as refusal
use Rattle.ledger.specs.rules.Totals.{standing, would_pass, differs, is_spent}
use Rattle.ledger.specs.declared.Happening.TheVariants as happening
use Rattle.commands.specs.rules.Commands.{barred, fill_judged, fill_done, fill_memory}
use Rattle.commands.specs.rules.Commands.{setting_judged, setting_done, setting_memory, entry_judged, close_done, sought_from, Judged, Sought}
use Rattle.commands.specs.rules.Wrote.{none_wrote, bytes_wrote, setting_wrote}
use Rattle.flash_session.specs.rules.Sessions.{CallOutcome, ◌leaving◌, stop, go_to, go_back, stopped, accepted_as, after}
use Rattle.flash_session.specs.declared.Called.{Called}
use Rattle.flash_session.specs.declared.Session.{Session}

-- Below, `next` is the offset past the command's opcode and argument words.

-- 18, of a load or a fill of so many bytes that was judged
abbrev pub overflowing : Session → ℕ → Judged → Judged
overflowing s size judged = barred (would_pass s.dialect s.totals size) why.Overflow judged

-- 25, of a command that was judged
abbrev pub out_of_numbers : Session → Judged → Judged
out_of_numbers s judged = barred (is_spent s.totals) why.Number judged

-- a fill by its judgement
abbrev pub fill_judged_as : Session → List ℕ → ℕ → ℕ → ℕ → ℕ → ℕ → Judged → CallOutcome
fill_judged_as s m next address size kind pattern judged =
    after s (happening.Section size) (bytes_wrote judged size s.totals.next) (fill_done judged s.on s.checksum address size kind pattern) next
    leaving fill_memory judged m size kind pattern

-- Fill: .., 7, 18, 25
abbrev pub fill_of : Session → List ℕ → ℕ → ℕ → ℕ → ℕ → ℕ → CallOutcome
fill_of s m next address size kind pattern =
    fill_judged_as s m next address size kind pattern (out_of_numbers s (overflowing s size (fill_judged s.windows address size kind)))

-- a setting by its judgement; it is numbered, and not counted
abbrev pub setting_judged_as : Session → List ℕ → ℕ → ℕ → ℕ → ℕ → Judged → CallOutcome
setting_judged_as s m next word value delay judged =
    after s happening.Setting (setting_wrote judged word s.totals.next) (setting_done judged s.checksum delay) next
    leaving setting_memory judged m word value

-- Boot Table, its type word first: .., 7, 25
abbrev pub setting_of : Session → List ℕ → ℕ → ℕ → ℕ → ℕ → ℕ → CallOutcome
setting_of s m next word address value delay =
    setting_judged_as s m next word value delay (out_of_numbers s (setting_judged s.windows word address value))

-- a mismatch by where its seek leads: one retry is counted, or 12; the checksum becomes 0 either way
abbrev pub sought_as : Session → Sought → Called
sought_as s (Ok offset) = accepted_as s happening.Retried none_wrote Nothing (go_back s offset)
sought_as s (Err q) = stopped (Some q) (go_to s 0 s.offset)

-- Request: a match goes on; a mismatch with retries spent is 11; else the seek. The checksum becomes 0 in each case
unfoldable pub requested : Session → ℕ → ℕ → ℕ → Called
requested s next expected seek =
    pick (eqb expected s.checksum) (accepted_as s happening.Passed none_wrote Nothing (go_to s 0 next))
    (pick (leb s.limit s.retries) (stopped refusal.Checksum (go_to s 0 s.offset))
    (sought_as s (sought_from s.offset seek)))

-- entered, the session is ended
abbrev pub entered : Called → Called
entered a = record { refusal = a.refusal; event = a.event; at = a.at; session = stop a.session; wrote = a.wrote }

-- Jump & Close: 10, then 17 where the totals are not those that it names
abbrev pub closed : Session → ℕ → ℕ → ℕ → ℕ → Called
closed s next address sections bytes =
    entered
    (after s happening.Other none_wrote
    (close_done
    (barred (differs s.dialect s.totals (standing sections bytes)) why.Totals (entry_judged s.windows address)) s.checksum address)
    next)
