-- A host written out is read back: each part by itself.
use Prim.Native.Nat.{ℕ, ◌+◌, ◌*◌, ◌/◌, ◌%◌, ◌^◌, ◌<◌}
use mathlib.Core.Bool.{Bool, true, false}
use mathlib.Core.Path.{◌≡◌, refl, ap, ap₂}
use native.Mathlib.Omega.{arith}
use Rattle.words.specs.rules.Bytes.{bytes_at, word_at}
use Rattle.words.specs.rules.Choice.{pick}
use Rattle.opcodes.specs.declared.Command.{Command}
use Rattle.opcodes.specs.declared.Command.TheVariants.{Load, Fill, BootTable, Enable, Disable, Request, StartOver, JumpAndClose, Ping, SequentialRead}
use Rattle.opcodes.specs.declared.Dialect.{Dialect}
use Rattle.opcodes.specs.declared.Dialect.TheVariants.{Am17xx, Dm648}
use Rattle.sent.specs.declared.Bus.{Bus}
use Rattle.sent.specs.declared.Bus.TheVariants.{Bytes, Halves}
use Rattle.host_ear.specs.declared.Ear.{Ear}
use Rattle.host_answers.specs.declared.Host.{Host}
use Rattle.host_answers.specs.declared.Wait.{Wait}
use Rattle.host_answers.specs.declared.Wait.TheVariants as wait
use Rattle.host_ear.proofs.Words.{word_again}
use Rattle.bench_sessions.specs.rules.Numbers.{line_of, dialect_of}
use Rattle.bench_hosts.specs.rules.HostBytes.{flag_of, is_set, line_number, dialect_number, command_number, command_of}
use Rattle.bench_hosts.specs.rules.HostBytes.{wait_number, wait_value, wait_command, wait_of, written_host, read_host}
use Rattle.bench_hosts.specs.claims.RoundTrip.{EachWritten, ReadBack}

line_back : (bus : Bus) → line_of (line_number bus) ≡ bus
unfolding line_of pick
line_back Bytes = refl
line_back Halves = refl

dialect_back : (dialect : Dialect) → dialect_of (dialect_number dialect) ≡ dialect
unfolding dialect_of pick
dialect_back Am17xx = refl
dialect_back Dm648 = refl

flag_back : (b : Bool) → is_set (flag_of b) ≡ b
flag_back true = refl
flag_back false = refl

command_back : (command : Command) → command_of (command_number command) ≡ command
unfolding command_of pick
command_back Load = refl
command_back Fill = refl
command_back BootTable = refl
command_back Enable = refl
command_back Disable = refl
command_back Request = refl
command_back StartOver = refl
command_back JumpAndClose = refl
command_back Ping = refl
command_back SequentialRead = refl

-- a wait, whose value was read
wait_back : (w : Wait) {value : ℕ} → value ≡ wait_value w → wait_of (wait_number w) (command_of (wait_command w)) value ≡ w
unfolding wait_of pick
wait_back wait.Greeting e = refl
wait_back wait.Start e = refl
wait_back wait.Ping e = refl
wait_back (wait.Echo k) e = ap wait.Echo e
wait_back wait.Nothing e = refl
wait_back (wait.Opcode command end) e = ap₂ wait.Opcode (command_back command) e
wait_back (wait.Over offset) e = ap wait.Over e
wait_back wait.Closing e = refl

-- the last bytes heard, in two words
last_back : (n : ℕ) {low high : ℕ} → low ≡ n % 2 ^ 32 → high ≡ n / 2 ^ 32 → low + high * 2 ^ 32 ≡ n
last_back n e f = omega arith

high_small : (n : ℕ) → n < 2 ^ 64 → n / 2 ^ 32 < 2 ^ 32
high_small n fits = omega arith

same_ear : {last last₁ count : ℕ} {fresh fresh₁ : Bool} → last ≡ last₁ → fresh ≡ fresh₁
    → ◌≡◌ {A = Ear} (record { last = last; count = count; fresh = fresh }) (record { last = last₁; count = count; fresh = fresh₁ })
same_ear e f = rw (e, f) refl

-- hosts whose parts are the same
same_host : {bus bus₁ : Bus} {dialect dialect₁ : Dialect} {length length₁ tries tries₁ pings pings₁ limit retries offset offset₁ spent spent₁ : ℕ}
    {ended ended₁ : Bool} {wait wait₁ : Wait} {ear ear₁ : Ear}
    → bus ≡ bus₁ → dialect ≡ dialect₁ → length ≡ length₁ → tries ≡ tries₁ → pings ≡ pings₁ → ended ≡ ended₁ → offset ≡ offset₁ → spent ≡ spent₁
    → wait ≡ wait₁ → ear ≡ ear₁
    → ◌≡◌ {A = Host}
    (record {
      bus = bus;
      dialect = dialect;
      length = length;
      tries = tries;
      pings = pings;
      limit = limit;
      ended = ended;
      retries = retries;
      offset = offset;
      spent = spent;
      stage = record { wait = wait };
      ear = ear;
    })
    (record {
      bus = bus₁;
      dialect = dialect₁;
      length = length₁;
      tries = tries₁;
      pings = pings₁;
      limit = limit;
      ended = ended₁;
      retries = retries;
      offset = offset₁;
      spent = spent₁;
      stage = record { wait = wait₁ };
      ear = ear₁;
    })
same_host a b c d e f g h i j = rw (a, b, c, d, e, f, g, h, i, j) refl

pub each_written : EachWritten
unfolding written_host
each_written h = refl

pub read_back : ReadBack
unfolding read_host written_host word_at bytes_at
read_back h r =
    same_host (line_back h.bus) (dialect_back h.dialect) (word_again h.length r.length) (word_again h.tries r.tries)
    (word_again h.pings r.pings) (flag_back h.ended) (word_again h.offset r.offset) (word_again h.spent r.spent)
    (wait_back h.stage.wait (word_again (wait_value h.stage.wait) r.value))
    (same_ear
    (last_back h.ear.last (word_again (h.ear.last % 2 ^ 32) (omega arith)) (word_again (h.ear.last / 2 ^ 32) (high_small h.ear.last r.last)))
    (flag_back h.ear.fresh))
