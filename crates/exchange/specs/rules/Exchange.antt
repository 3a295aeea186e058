-- The exchange of a host and a loader on one line: turn by turn what the host sends is fed to the loader, and every reply is heard before the next turn. No
-- unit is lost, and nobody else speaks.
use Rattle.std.specs.Prelude.{ℕ, zero, suc, List, [], ◌∷◌, ◌++◌, eqb}
use Rattle.words.specs.rules.Choice.{pick}
use Rattle.windows.specs.declared.Window.{Window}
use Rattle.std.specs.Option.{option_or}
use Rattle.opcodes.specs.rules.Answers.{code_of}
use Rattle.opcodes.specs.rules.Refusals.{Verdict, None}
use Rattle.opcodes.specs.declared.Dialect.{Dialect}
use Rattle.opcodes.specs.declared.Event.{Event}
use Rattle.machine_answers.specs.rules.Replies.{sent_bytes}
use Rattle.sent.specs.rules.Bus.{start_unit, units_of, units_fed}
use Rattle.sent.specs.rules.Feeding.{State, Heard, fed, answers, replied, events_heard}
use Rattle.sent.specs.rules.Opening as sent
use Rattle.sent.specs.declared.Bus.{Bus}
use Rattle.host_answers.specs.rules.Ends.{most_turns}
use Rattle.host_answers.specs.rules.Hosts.{heard_all, opened_by}
use Rattle.host_answers.specs.rules.Sendings.{stretch_of}
use Rattle.host.specs.rules.Turn.{turned}
use Rattle.host_answers.specs.declared.Host.{Host}
use Rattle.host_answers.specs.declared.Sending.{Sending}
use Rattle.host_answers.specs.declared.Sending.TheVariants as sending
use Rattle.host_answers.specs.declared.Turned.{Turned}

-- what stands after some turns: the host, the loader with its memory, the events in order, the host's first refusal and the loader's; 14, which is for
-- one that has ended, counts on neither side
pub record Talk : Type 0 where
  pub host : Host
  pub loader : State
  pub events : List Event
  pub host_refused : Verdict
  pub loader_refused : Verdict

-- the units that go out on a line
abbrev pub units_sent : Bus → Sending → List ℕ → List ℕ
units_sent bus sending.Nothing image = []
units_sent bus sending.Start image = start_unit bus ∷ []
units_sent bus (sending.Word word) image = units_of bus word
units_sent bus (sending.Stretch from to) image = units_fed bus (stretch_of (sending.Stretch from to) image)

-- a verdict, of which 14 is none
abbrev pub but_ended : Verdict → Verdict
but_ended q = pick (eqb (code_of q) 14) None q

-- the first refusal that is heard and is not 14
unfoldable pub first_but_ended : List Heard → Verdict
first_but_ended [] = None
first_but_ended (h ∷ hs) = option_or (but_ended h.refusal) (first_but_ended hs)

-- after a turn of the host: its units are fed, and the replies to them are heard
abbrev pub after : Turned → List ℕ → Talk → Talk
after turn units t =
    let bus : Bus = t.host.bus in
    record {
      host = heard_all turn.host (replied (answers bus t.loader units));
      loader = fed bus t.loader units;
      events = t.events ++ events_heard (answers bus t.loader units);
      host_refused = option_or t.host_refused (but_ended turn.refusal);
      loader_refused = option_or t.loader_refused (first_but_ended (answers bus t.loader units));
    }

-- one turn, the image lent to it
unfoldable pub onward : Talk → List ℕ → Talk
onward t image = after (turned t.host image) (units_sent t.host.bus (turned t.host image).sending image) t

-- n turns, the image unchanged
unfoldable pub talked : ℕ → Talk → List ℕ → Talk
talked zero t image = t
talked (suc n) t image = talked n (onward t image) image

-- a freshly opened host and a freshly opened loader, whose greeting is heard
abbrev pub meeting : Bus → Dialect → ℕ → List Window → List ℕ → List ℕ → ℕ → ℕ → ℕ → Talk
meeting bus dialect count windows memory image tries limit pings =
    record {
      host = heard_all (opened_by bus dialect image tries limit pings).host (sent_bytes (sent.opened_by bus dialect count windows).reply);
      loader = record { session = (sent.opened_by bus dialect count windows).session; memory = memory };
      events = [];
      host_refused = (opened_by bus dialect image tries limit pings).refusal;
      loader_refused = None;
    }

-- a talk to the host's end
unfoldable pub exchanged : Talk → List ℕ → Talk
exchanged t image = talked (most_turns t.host) t image
