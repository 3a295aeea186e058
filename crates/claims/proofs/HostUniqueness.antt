-- Two results that meet one contract of the host's crates coincide, and so do the lent bytes and the memory at exit, as for every other public function
-- (`Uniqueness`): the calls for C say that number and bytes together are one outcome.
use Prim.Native.Nat.{ℕ}
use mathlib.Core.List.{List}
use mathlib.Core.Path.{◌≡◌, ap}
use Rattle.host_ear.proofs.unheard.Reads as ear-unheard
use Rattle.host_ear.proofs.hear.Reads as ear-hear
use Rattle.host_ear.proofs.look.Reads as ear-look
use Rattle.host_ear.proofs.newest_word.Reads as ear-newest-word
use Rattle.host_ear.proofs.ends_with_greeting.Reads as ear-ends-with-greeting
use Rattle.host_ear.proofs.ends_with_start.Reads as ear-ends-with-start
use Rattle.host_ear.proofs.ends_with_word.Reads as ear-ends-with-word
use Rattle.host_ear.proofs.acknowledges.Reads as ear-acknowledges
use Rattle.host_ear.proofs.ends_with_checksum.Reads as ear-ends-with-checksum
use Rattle.host_answers.proofs.Host.«open».Reads as host-opening
use Rattle.host_answers.proofs.Host.hear.Reads as host-hearing
use Rattle.host_answers.proofs.stretch.Reads as stretch
use Rattle.host_answers.proofs.sendings.echo_of.Reads as sendings-echo-of
use Rattle.host_answers.proofs.sendings.opcode_at.Reads as sendings-opcode-at
use Rattle.host_answers.proofs.sendings.opening.Reads as sendings-opening
use Rattle.host_answers.proofs.sendings.repetition.Reads as sendings-repetition
use Rattle.host_answers.proofs.sendings.is_part.Reads as sendings-is-part
use Rattle.host_answers.proofs.sendings.part.Reads as sendings-part
use Rattle.host_answers.proofs.answers.keep.Reads as host-keep
use Rattle.host_answers.proofs.answers.stop.Reads as host-stop
use Rattle.host_answers.proofs.answers.refuse.Reads as host-refuse
use Rattle.host_answers.proofs.answers.send.Reads as host-send
use Rattle.host_answers.proofs.answers.wait_for.Reads as host-wait-for
use Rattle.host_answers.proofs.answers.enter.Reads as host-enter
use Rattle.host_answers.proofs.answers.at.Reads as host-at
use Rattle.host_answers.proofs.answers.go_to.Reads as host-go-to
use Rattle.host_answers.proofs.answers.again.Reads as host-again
use Rattle.host_answers.proofs.answers.answered_by.Reads as host-answered-by
use Rattle.host_commands.proofs.role_of.Reads as role-of
use Rattle.host_commands.proofs.await_acknowledgement.Reads as await-acknowledgement
use Rattle.host.proofs.turn.Reads as host-turn
use Rattle.bench_sessions.proofs.line_of.Reads as Line-of
use Rattle.bench_hosts.proofs.layout.flag.Reads as flag
use Rattle.bench_hosts.proofs.layout.write_host.Reads as write-host
use Rattle.bench_hosts.proofs.layout.read_host.Reads as read-host
use Rattle.bench_hosts.proofs.open_host.Reads as opening-of-host
use Rattle.bench_hosts.proofs.hear_host.Reads as hear-host
use Rattle.bench_hosts.proofs.turn_host.Reads as turn-host
use Rattle.bench_hosts.proofs.exchange_session.Reads as exchange-session
use Rattle.bench_hosts.proofs.are_named.Reads as are-named
use Rattle.bench_hosts.proofs.bar.Reads as exchange-bar
use Rattle.bench_hosts.specs.rules.HostCalls.{CallOutcome, leaving}
use Rattle.bench.proofs.hosts.ais_host_open.Reads as opening-for-c
use Rattle.bench.proofs.hosts.ais_host_hear.Reads as ais-host-hear
use Rattle.bench.proofs.hosts.ais_host_turn.Reads as ais-host-turn
use Rattle.bench.proofs.hosts.ais_host_session.Reads as ais-host-session
use Rattle.claims.proofs.Uniqueness.{Coincide, OneResult, OneMemory, OneResultAndMemory, same}

-- two outcomes that are one agree in both parts
same_call : {v w : ℕ} {m n : List ℕ} {x : CallOutcome} → leaving v m ≡ x → leaving w n ≡ x → (v ≡ w) × (m ≡ n)
same_call p q =
    let one = same p q in
    (ap (λ (o : CallOutcome). o.value) one, ap (λ (o : CallOutcome). o.bytes) one)

-- what the host hears
pub ear_unheard_unique : OneResult ear-unheard.Post
ear_unheard_unique κs a r s e f = same

pub ear_hear_unique : OneResult ear-hear.Post
ear_hear_unique κs a r s e f = same

pub ear_look_unique : OneResult ear-look.Post
ear_look_unique κs a r s e f = same

pub ear_newest_word_unique : OneResult ear-newest-word.Post
ear_newest_word_unique κs a r s e f = same

pub ear_ends_with_greeting_unique : OneResult ear-ends-with-greeting.Post
ear_ends_with_greeting_unique κs a r s e f = same

pub ear_ends_with_start_unique : OneResult ear-ends-with-start.Post
ear_ends_with_start_unique κs a r s e f = same

pub ear_ends_with_word_unique : OneResult ear-ends-with-word.Post
ear_ends_with_word_unique κs a r s e f = same

pub ear_acknowledges_unique : OneResult ear-acknowledges.Post
ear_acknowledges_unique κs a r s e f = same

pub ear_ends_with_checksum_unique : OneResult ear-ends-with-checksum.Post
ear_ends_with_checksum_unique κs a r s e f = same

-- the host, and what goes out of it: of an image a part, told by its bytes
pub host_opening_unique : OneResult host-opening.Post
host_opening_unique κs a r s e f = same

pub host_hearing_unique : OneResult host-hearing.Post
host_hearing_unique κs a r s e f = same

pub stretch_unique : Coincide stretch.Post (λ κs r s e f. r.now ≡ s.now)
stretch_unique κs a r s e f = same

pub sendings_echo_of_unique : OneResult sendings-echo-of.Post
sendings_echo_of_unique κs a r s e f = same

pub sendings_opcode_at_unique : OneResult sendings-opcode-at.Post
sendings_opcode_at_unique κs a r s e f = same

pub sendings_opening_unique : OneResult sendings-opening.Post
sendings_opening_unique κs a r s e f = same

pub sendings_repetition_unique : OneResult sendings-repetition.Post
sendings_repetition_unique κs a r s e f = same

pub sendings_is_part_unique : OneResult sendings-is-part.Post
sendings_is_part_unique κs a r s e f = same

pub sendings_part_unique : Coincide sendings-part.Post (λ κs r s e f. r.now ≡ s.now)
sendings_part_unique κs a r s e f = same

-- the answers to a turn
pub host_keep_unique : OneResult host-keep.Post
host_keep_unique κs a r s e f = same

pub host_stop_unique : OneResult host-stop.Post
host_stop_unique κs a r s e f = same

pub host_refuse_unique : OneResult host-refuse.Post
host_refuse_unique κs a r s e f = same

pub host_send_unique : OneResult host-send.Post
host_send_unique κs a r s e f = same

pub host_wait_for_unique : OneResult host-wait-for.Post
host_wait_for_unique κs a r s e f = same

pub host_enter_unique : OneResult host-enter.Post
host_enter_unique κs a r s e f = same

pub host_at_unique : OneResult host-at.Post
host_at_unique κs a r s e f = same

pub host_go_to_unique : OneResult host-go-to.Post
host_go_to_unique κs a r s e f = same

pub host_again_unique : OneResult host-again.Post
host_again_unique κs a r s e f = same

pub host_answered_by_unique : OneResult host-answered-by.Post
host_answered_by_unique κs a r s e f = same

-- its commands, and a turn
pub role_of_unique : OneResult role-of.Post
role_of_unique κs a r s e f = same

pub await_acknowledgement_unique : OneResult await-acknowledgement.Post
await_acknowledgement_unique κs a r s e f = same

pub host_turn_unique : OneResult host-turn.Post
host_turn_unique κs a r s e f = same

-- a host as bytes
pub line_of_unique : OneResult Line-of.Post
line_of_unique κs a r s e f = same

pub flag_unique : OneResult flag.Post
flag_unique κs a r s e f = same

pub write_host_unique : OneMemory write-host.Post (λ κs e. e.0.now)
write_host_unique κs a r s e f = same

pub read_host_unique : OneResult read-host.Post
read_host_unique κs a r s e f = same

-- its calls
pub open_host_unique : OneResultAndMemory opening-of-host.Post (λ κs e. e.0.now)
open_host_unique κs a r s e f = same_call

pub hear_host_unique : OneResultAndMemory hear-host.Post (λ κs e. e.0.now)
hear_host_unique κs a r s e f = same_call

pub turn_host_unique : OneResultAndMemory turn-host.Post (λ κs e. e.0.now)
turn_host_unique κs a r s e f = same_call

pub are_named_unique : OneResult are-named.Post
are_named_unique κs a r s e f = same

pub exchange_bar_unique : OneResult exchange-bar.Post
exchange_bar_unique κs a r s e f = same

pub exchange_session_unique : OneResultAndMemory exchange-session.Post (λ κs e. e.1.1.1.0.now)
exchange_session_unique κs a r s e f = same_call

-- bench
pub ais_host_open_unique : OneResultAndMemory opening-for-c.Post (λ κs e. e.0.now)
ais_host_open_unique κs a r s e f = same_call

pub ais_host_hear_unique : OneResultAndMemory ais-host-hear.Post (λ κs e. e.0.now)
ais_host_hear_unique κs a r s e f = same_call

pub ais_host_turn_unique : OneResultAndMemory ais-host-turn.Post (λ κs e. e.0.now)
ais_host_turn_unique κs a r s e f = same_call

pub ais_host_session_unique : OneResultAndMemory ais-host-session.Post (λ κs e. e.1.1.1.0.now)
ais_host_session_unique κs a r s e f = same_call
