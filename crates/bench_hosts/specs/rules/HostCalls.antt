-- The host's calls for C, on a host lent as 41 bytes, and a whole exchange: each a number, and the bytes that are left.
use Rattle.std.specs.Prelude.{ℕ, ◌+◌, ◌-◌, ◌*◌, ◌^◌, Bool, not, ◌&&◌, List, eqb, leb, length}
use Rattle.words.specs.rules.Choice.{pick}
use Rattle.windows.specs.rules.Map.{good_map, kept_of}
use Rattle.windows.specs.rules.Window.{sum_of}
use Rattle.opcodes.specs.rules.Answers.{code_of}
use Rattle.opcodes.specs.declared.Event.{Event}
use Rattle.opcodes.specs.declared.Event.TheVariants as event
use Rattle.opcodes.specs.rules.Refusals.{Verdict}
use Rattle.opcodes.specs.rules.Refusals as refusal
use Rattle.host_answers.specs.rules.Hosts.{heard, opened_by}
use Rattle.host.specs.rules.Turn.{turned}
use Rattle.host_answers.specs.declared.Opened.{Opened}
use Rattle.host_answers.specs.declared.Sending.{Sending}
use Rattle.host_answers.specs.declared.Sending.TheVariants as sending
use Rattle.host_answers.specs.declared.Turned.{Turned}
use Rattle.exchange.specs.rules.Exchange.{Talk, meeting, exchanged}
use Rattle.exchange.specs.rules.Standing.{outcome_of}
use Rattle.exchange.specs.declared.Exchanged.{Exchanged}
use Rattle.bench_sessions.specs.rules.Map.{windows_of, count_of}
use Rattle.bench_sessions.specs.rules.Numbers.{line_of, dialect_of}
use Rattle.bench_hosts.specs.rules.HostBytes.{host_bytes, flag_of, written_host, read_host}

-- what a call comes to: the number that C gets, and the lent bytes as they are left
pub record CallOutcome : Type 0 where
  pub value : ℕ
  pub bytes : List ℕ

abbrev pub leaving : ℕ → List ℕ → CallOutcome
leaving value bytes = record { value = value; bytes = bytes }

-- a line and a dialect are 0 or 1
unfoldable pub are_named : ℕ → ℕ → Bool
are_named line dialect = leb line 1 && leb dialect 1

-- a host that opened, or was refused, written out, and its code
abbrev pub opened_into : Opened → CallOutcome
opened_into o = leaving (code_of o.refusal) (written_host o.host)

-- an opening: 19 for another length, line or dialect, nothing changed
unfoldable pub host_opened : List ℕ → ℕ → ℕ → List ℕ → ℕ → ℕ → ℕ → CallOutcome
host_opened host line dialect image tries limit pings =
    pick (eqb (length host) host_bytes && are_named line dialect)
    (opened_into (opened_by (line_of line) (dialect_of dialect) image tries limit pings))
    (leaving (code_of refusal.Call) host)

-- a byte heard: 19 for another length, nothing changed
unfoldable pub host_heard : List ℕ → ℕ → CallOutcome
host_heard host byte =
    pick (eqb (length host) host_bytes) (leaving 0 (written_host (heard (read_host host) byte))) (leaving (code_of refusal.Call) host)

-- what goes out, as a number: its kind, then a word's value, or a stretch's length and offset
abbrev pub sent_value : Sending → ℕ
sent_value sending.Nothing = 0
sent_value sending.Start = 1 * 2 ^ 48
sent_value (sending.Word word) = 2 * 2 ^ 48 + word
sent_value (sending.Stretch from to) = 3 * 2 ^ 48 + (to - from) * 2 ^ 24 + from

-- a turn as a number: refusal, whether the host has ended, what goes out
abbrev pub turn_value : Turned → ℕ
turn_value t = code_of t.refusal * 2 ^ 56 + flag_of t.host.ended * 2 ^ 52 + sent_value t.sending

abbrev pub turned_into : Turned → CallOutcome
turned_into t = leaving (turn_value t) (written_host t.host)

-- a turn: 19 for another length, nothing changed
unfoldable pub host_turned : List ℕ → List ℕ → CallOutcome
host_turned host image =
    pick (eqb (length host) host_bytes) (turned_into (turned (read_host host) image)) (leaving (code_of refusal.Call * 2 ^ 56) host)

-- an entry as a number: 1 above its address, 0 where there is none
abbrev pub entry_value : Event → ℕ
entry_value event.Nothing = 0
entry_value (event.Wait cycles) = 0
entry_value (event.Enter address) = 2 ^ 32 + address

-- what an exchange comes to as a number: the host's refusal, its retries, the loader's refusal, the entry
abbrev pub exchange_value : Exchanged → ℕ
exchange_value e = code_of e.refusal * 2 ^ 56 + e.retries * 2 ^ 48 + code_of e.refused * 2 ^ 40 + entry_value e.event

abbrev pub exchanged_into : Talk → CallOutcome
exchanged_into t = leaving (exchange_value (outcome_of 0 t)) t.loader.memory

-- why an exchange does not begin: 19 for a line or a dialect, 1 for the map, 2 for the memory
unfoldable pub exchange_refused : ℕ → ℕ → List ℕ → ℕ → Verdict
exchange_refused line dialect map lent =
    pick (not (are_named line dialect)) refusal.Call
    (pick (not (good_map (count_of map) (windows_of map))) refusal.Map
    (pick (not (eqb lent (sum_of (kept_of (count_of map) (windows_of map))))) refusal.Memory refusal.None))

-- an exchange of a freshly opened host and loader, the memory as the loader left it
unfoldable pub exchange_session : ℕ → ℕ → List ℕ → List ℕ → List ℕ → ℕ → ℕ → ℕ → CallOutcome
exchange_session line dialect map memory image tries limit pings =
    let q : Verdict = exchange_refused line dialect map (length memory) in
    pick (eqb (code_of q) 0)
    (exchanged_into (exchanged (meeting (line_of line) (dialect_of dialect) (count_of map) (windows_of map) memory image tries limit pings) image))
    (leaving (code_of q * 2 ^ 56) memory)
