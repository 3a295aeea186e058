-- What the events of a flash run are: the waits of its accepted settings in order, and last the entry, exactly where the run enters.
use Rattle.std.specs.Prelude.{ℕ, zero, suc, ◌≤◌, List, [], ◌∷◌, ◌++◌, ◌≡◌, length, Result, Ok, Err}
use Rattle.words.specs.rules.Choice.{pick}
use Rattle.windows.specs.declared.Window.{Window}
use Rattle.opcodes.specs.rules.Answers.{accepted}
use Rattle.opcodes.specs.rules.Opcodes.{by_writing}
use Rattle.opcodes.specs.declared.Dialect.{Dialect}
use Rattle.opcodes.specs.declared.Event.TheVariants.{Enter}
use Rattle.opcodes.specs.declared.Known.{Known}
use Rattle.reading.specs.rules.Reading.{argument, read_at}
use Rattle.reading.specs.declared.Unread.{Unread}
use Rattle.flash.specs.rules.Step.{step_of}
use Rattle.flash_session.specs.rules.Opening.{opened_by}
use Rattle.flash_session.specs.declared.Called.{Called}
use Rattle.flash_session.specs.declared.Opened.{Opened}
use Rattle.flash_session.specs.declared.Session.{Session}
use Rattle.flash_runs.specs.rules.Events.{waits_of, last_of, events_from, most_events}
use Rattle.flash_runs.specs.rules.Run.{goes_on, enough, opens, ran_from}

-- the delay of a setting, its fourth word; of any other command none
abbrev pub delay_of : List ℕ → ℕ → Result Known Unread → List ℕ
delay_of image offset (Err said) = []
delay_of image offset (Ok known) = by_writing known.command [] [] (argument image offset 3 ∷ []) []

-- the delay of the command at the session's offset, where it is a setting and accepted
abbrev pub setting_delay : Session → List ℕ → Called → List ℕ
setting_delay s image a = pick (accepted a.refusal) (delay_of image s.offset (read_at image s.offset s.dialect)) []

-- those of a call of a session, and of at most n calls more while it goes on
unfoldable pub delays_on : ℕ → Session → List ℕ → List ℕ → List ℕ
delays_on zero s m image = setting_delay s image (step_of s m image).answer
delays_on (suc n) s m image =
    setting_delay s image (step_of s m image).answer
    ++ pick (goes_on (step_of s m image).answer) (delays_on n (step_of s m image).answer.session (step_of s m image).memory image) []

-- of a run from an opening
unfoldable pub delays_from : Opened → List ℕ → List ℕ → List ℕ
delays_from o m image = pick (opens o) (delays_on (enough o.session) o.session m image) []

pub record EventsOfARun : Type 0 where
  -- the waits are those of the accepted settings, in order
  pub waits : (o : Opened) (m image : List ℕ) → waits_of (events_from o m image) ≡ delays_from o m image
  -- the last event is an entry exactly where the run enters, and the same
  pub enters : (o : Opened) (m image : List ℕ) (address : ℕ) → (ran_from o m image).answer.event ≡ Enter address
      → last_of (events_from o m image) ≡ Enter address
  pub only : (o : Opened) (m image : List ℕ) (address : ℕ) → last_of (events_from o m image) ≡ Enter address
      → (ran_from o m image).answer.event ≡ Enter address

-- a run from an opening has no more events than its limit and its image allow
abbrev pub EventsFit : Type 0
EventsFit = (dialect : Dialect) (count : ℕ) (windows : List Window) (m image : List ℕ) (limit : ℕ)
    → length (events_from (opened_by dialect count windows image limit) m image) ≤ most_events limit (length image)
