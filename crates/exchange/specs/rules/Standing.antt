-- What an exchange comes to, and what stands between its turns where the events are told in a room and only the last is kept.
use Rattle.std.specs.Prelude.{ℕ, List, [], ◌∷◌}
use Rattle.std.specs.Option.{option_or}
use Rattle.opcodes.specs.rules.Answers.{told}
use Rattle.opcodes.specs.declared.Event.{Event}
use Rattle.opcodes.specs.declared.Event.TheVariants.{Nothing}
use Rattle.event_room.specs.rules.Room.{place_after, room_after}
use Rattle.machine_answers.specs.rules.Replies.{sent_bytes}
use Rattle.sent.specs.rules.Feeding.{State, fed, answers, replied, events_heard}
use Rattle.sent.specs.declared.Answer.{Answer}
use Rattle.sent.specs.declared.Bus.{Bus}
use Rattle.host_answers.specs.rules.Hosts.{heard_all}
use Rattle.host.specs.rules.Turn.{turned}
use Rattle.host_answers.specs.declared.Turned.{Turned}
use Rattle.exchange.specs.rules.Exchange.{Talk, units_sent, but_ended, first_but_ended}
use Rattle.exchange.specs.declared.Exchanged.{Exchanged}
use Rattle.exchange.specs.declared.Standing.{Standing}

-- the last of some events, or the one before them where there is none
unfoldable pub last_after : Event → List Event → Event
last_after before [] = before
last_after before (event ∷ events) = last_after event events

-- the last event, Nothing where there is none
abbrev pub last_event : List Event → Event
last_event events = last_after Nothing events

-- what a talk comes to, its events told in a room of so many bytes: the host's first refusal and its retries, the loader's first refusal but 14, the last
-- event, and the bytes that hold events
abbrev pub outcome_of : ℕ → Talk → Exchanged
outcome_of size t =
    record {
      refusal = t.host_refused;
      retries = t.host.retries;
      refused = t.loader_refused;
      event = last_event t.events;
      told = place_after size 0 t.events;
    }

-- what is kept of a talk beside its memory and the room
abbrev pub standing_of : ℕ → Talk → Standing
standing_of size t =
    record {
      host = t.host;
      session = t.loader.session;
      event = last_event t.events;
      refusal = t.host_refused;
      refused = t.loader_refused;
      told = place_after size 0 t.events;
    }

-- what an exchange comes to where this stands at its end
abbrev pub left_by : Standing → Exchanged
left_by s = record { refusal = s.refusal; retries = s.host.retries; refused = s.refused; event = s.event; told = s.told }

-- the loader with the memory lent to it
abbrev pub loader_of : Standing → List ℕ → State
loader_of s memory = record { session = s.session; memory = memory }

-- what a unit's answer changes
abbrev pub noted : ℕ → Standing → Answer → Standing
noted size s a =
    record {
      host = heard_all s.host (sent_bytes a.reply);
      session = a.session;
      event = last_after s.event (told a.event);
      refusal = s.refusal;
      refused = option_or s.refused (but_ended a.refusal);
      told = place_after size s.told (told a.event);
    }

-- what some units change, and the memory and the room that they leave
unfoldable pub standing_fed : ℕ → Bus → Standing → List ℕ → List ℕ → Standing
standing_fed size bus s memory units =
    record {
      host = heard_all s.host (replied (answers bus (loader_of s memory) units));
      session = (fed bus (loader_of s memory) units).session;
      event = last_after s.event (events_heard (answers bus (loader_of s memory) units));
      refusal = s.refusal;
      refused = option_or s.refused (first_but_ended (answers bus (loader_of s memory) units));
      told = place_after size s.told (events_heard (answers bus (loader_of s memory) units));
    }

unfoldable pub memory_fed : Bus → Standing → List ℕ → List ℕ → List ℕ
memory_fed bus s memory units = (fed bus (loader_of s memory) units).memory

unfoldable pub room_fed : Bus → Standing → List ℕ → List ℕ → List ℕ → List ℕ
room_fed bus s memory room units = room_after room s.told (events_heard (answers bus (loader_of s memory) units))

-- what the host's own turn changes
abbrev pub host_turned : Standing → Turned → Standing
host_turned s turn =
    record {
      host = turn.host;
      session = s.session;
      event = s.event;
      refusal = option_or s.refusal (but_ended turn.refusal);
      refused = s.refused;
      told = s.told;
    }

-- a turn, its units fed
unfoldable pub standing_onward : ℕ → Standing → List ℕ → List ℕ → Standing
standing_onward size s memory image =
    let turn : Turned = turned s.host image in
    standing_fed size s.host.bus (host_turned s turn) memory (units_sent s.host.bus turn.sending image)

unfoldable pub memory_onward : Standing → List ℕ → List ℕ → List ℕ
memory_onward s memory image =
    let turn : Turned = turned s.host image in
    memory_fed s.host.bus (host_turned s turn) memory (units_sent s.host.bus turn.sending image)

unfoldable pub room_onward : Standing → List ℕ → List ℕ → List ℕ → List ℕ
room_onward s memory room image =
    let turn : Turned = turned s.host image in
    room_fed s.host.bus (host_turned s turn) memory room (units_sent s.host.bus turn.sending image)
