-- A host as 41 bytes: eight words, then nine bytes, each at its place; and the host that any bytes are.
use Rattle.std.specs.Prelude.{ℕ, ◌+◌, ◌*◌, ◌/◌, ◌%◌, ◌^◌, Bool, true, false, not, List, [], ◌∷◌, ◌++◌, eqb, length, get_or}
use Rattle.words.specs.rules.Bytes.{word_at, words_bytes}
use Rattle.words.specs.rules.Choice.{pick}
use Rattle.opcodes.specs.declared.Command.{Command}
use Rattle.opcodes.specs.declared.Command.TheVariants.{Load, Fill, BootTable, Enable, Disable, Request, StartOver, JumpAndClose, Ping, SequentialRead}
use Rattle.opcodes.specs.declared.Dialect.{Dialect}
use Rattle.opcodes.specs.declared.Dialect.TheVariants.{Am17xx, Dm648}
use Rattle.sent.specs.declared.Bus.{Bus}
use Rattle.sent.specs.declared.Bus.TheVariants.{Bytes, Halves}
use Rattle.host_ear.specs.declared.Ear.{Ear}
use Rattle.host_answers.specs.declared.Host.{Host}
use Rattle.host_answers.specs.declared.Stage.{Stage}
use Rattle.host_answers.specs.declared.Wait.{Wait}
use Rattle.host_answers.specs.declared.Wait.TheVariants as wait
use Rattle.bench_sessions.specs.rules.Numbers.{line_of, dialect_of}

-- the bytes of a host
abbrev pub host_bytes : ℕ
host_bytes = 41

-- a flag as a number, and back: any number but 0 is set
abbrev pub flag_of : Bool → ℕ
flag_of true = 1
flag_of false = 0

abbrev pub is_set : ℕ → Bool
is_set n = not (eqb n 0)

-- the numbers of a line, of a dialect and of a command
abbrev pub line_number : Bus → ℕ
line_number Bytes = 0
line_number Halves = 1

abbrev pub dialect_number : Dialect → ℕ
dialect_number Am17xx = 0
dialect_number Dm648 = 1

abbrev pub command_number : Command → ℕ
command_number Load = 0
command_number Fill = 1
command_number BootTable = 2
command_number Enable = 3
command_number Disable = 4
command_number Request = 5
command_number StartOver = 6
command_number JumpAndClose = 7
command_number Ping = 8
command_number SequentialRead = 9

-- the command of a number; any above 9 counts as 9
unfoldable pub command_of : ℕ → Command
command_of n =
    pick (eqb n 0) Load
    (pick (eqb n 1) Fill
    (pick (eqb n 2) BootTable
    (pick (eqb n 3) Enable
    (pick (eqb n 4) Disable
    (pick (eqb n 5) Request
    (pick (eqb n 6) StartOver
    (pick (eqb n 7) JumpAndClose
    (pick (eqb n 8) Ping SequentialRead))))))))

-- the number of a wait, its value and the number of its command, 0 where it has none
abbrev pub wait_number : Wait → ℕ
wait_number wait.Greeting = 0
wait_number wait.Start = 1
wait_number wait.Ping = 2
wait_number (wait.Echo k) = 3
wait_number wait.Nothing = 4
wait_number (wait.Opcode command end) = 5
wait_number (wait.Over offset) = 6
wait_number wait.Closing = 7

abbrev pub wait_value : Wait → ℕ
wait_value wait.Greeting = 0
wait_value wait.Start = 0
wait_value wait.Ping = 0
wait_value (wait.Echo k) = k
wait_value wait.Nothing = 0
wait_value (wait.Opcode command end) = end
wait_value (wait.Over offset) = offset
wait_value wait.Closing = 0

abbrev pub wait_command : Wait → ℕ
wait_command wait.Greeting = 0
wait_command wait.Start = 0
wait_command wait.Ping = 0
wait_command (wait.Echo k) = 0
wait_command wait.Nothing = 0
wait_command (wait.Opcode command end) = command_number command
wait_command (wait.Over offset) = 0
wait_command wait.Closing = 0

-- the wait of a number, with a command and a value where it has them; any above 7 counts as 7
unfoldable pub wait_of : ℕ → Command → ℕ → Wait
wait_of n command value =
    pick (eqb n 0) wait.Greeting
    (pick (eqb n 1) wait.Start
    (pick (eqb n 2) wait.Ping
    (pick (eqb n 3) (wait.Echo value)
    (pick (eqb n 4) wait.Nothing
    (pick (eqb n 5) (wait.Opcode command value)
    (pick (eqb n 6) (wait.Over value) wait.Closing))))))

-- the eight words of a host, from 0 on: length, tries, pings, offset, tries spent, the wait's value, the last eight bytes heard
abbrev pub host_words : Host → List ℕ
host_words h =
    h.length ∷ h.tries ∷ h.pings ∷ h.offset ∷ h.spent ∷ wait_value h.stage.wait ∷ h.ear.last % 2 ^ 32 ∷ h.ear.last / 2 ^ 32 ∷ []

-- the nine bytes, from 32 on: line, dialect, ended, limit, retries, wait, its command, how many bytes were heard, whether one is new
abbrev pub host_marks : Host → List ℕ
host_marks h =
    line_number h.bus ∷ dialect_number h.dialect ∷ flag_of h.ended ∷ h.limit ∷ h.retries ∷ wait_number h.stage.wait ∷ wait_command h.stage.wait
    ∷ h.ear.count ∷ flag_of h.ear.fresh ∷ []

-- a host written out
unfoldable pub written_host : Host → List ℕ
written_host h = words_bytes (host_words h) ++ host_marks h

-- written into lent bytes; into any but 41 it is not
unfoldable pub host_laid : List ℕ → Host → List ℕ
host_laid bytes h = pick (eqb (length bytes) host_bytes) (written_host h) bytes

-- what bytes say of the wait, and of the ear; those that are missing count as 0
abbrev pub read_stage : List ℕ → Stage
read_stage bytes = record { wait = wait_of (get_or bytes 37 0) (command_of (get_or bytes 38 0)) (word_at bytes 20) }

abbrev pub read_ear : List ℕ → Ear
read_ear bytes = record { last = word_at bytes 24 + word_at bytes 28 * 2 ^ 32; count = get_or bytes 39 0; fresh = is_set (get_or bytes 40 0) }

-- the host that bytes are
unfoldable pub read_host : List ℕ → Host
read_host bytes =
    record {
      bus = line_of (get_or bytes 32 0);
      dialect = dialect_of (get_or bytes 33 0);
      length = word_at bytes 0;
      tries = word_at bytes 4;
      pings = word_at bytes 8;
      limit = get_or bytes 35 0;
      ended = is_set (get_or bytes 34 0);
      retries = get_or bytes 36 0;
      offset = word_at bytes 12;
      spent = word_at bytes 16;
      stage = read_stage bytes;
      ear = read_ear bytes;
    }
