-- How many turns a host can still take, whatever it hears: a wait takes as many as its tries, a command waits twice, a retry goes through the image again.
use Rattle.std.specs.Prelude.{ℕ, ◌+◌, ◌-◌, ◌*◌}
use Rattle.words.specs.rules.Choice.{pick}
use Rattle.host_answers.specs.declared.Host.{Host}
use Rattle.host_answers.specs.declared.Wait.{Wait}
use Rattle.host_answers.specs.declared.Wait.TheVariants as wait

-- the turns that a wait may take, and what is done before and after it
abbrev pub wait_turns : Host → ℕ
wait_turns h = h.tries + 2

-- the tries that this wait has left
abbrev pub tries_left : Host → ℕ
tries_left h = h.tries - h.spent

-- the turns that suffice for the commands from an offset on, through the image once more for each retry that is left
abbrev pub command_turns : Host → ℕ → ℕ
command_turns h offset = ((h.limit - h.retries) * (h.length + 2) + (h.length - offset)) * wait_turns h

-- the turns that suffice from a wait on
abbrev pub turns_in : Wait → Host → ℕ
turns_in wait.Greeting h = (h.pings + 3) * wait_turns h + command_turns h h.offset + tries_left h + 2
turns_in wait.Start h = (h.pings + 2) * wait_turns h + command_turns h h.offset + tries_left h + 2
turns_in wait.Ping h = (h.pings + 1) * wait_turns h + command_turns h h.offset + tries_left h + 2
turns_in (wait.Echo k) h = (h.pings - k) * wait_turns h + command_turns h h.offset + tries_left h + 2
turns_in wait.Nothing h = command_turns h h.offset + 1
turns_in (wait.Opcode command end) h = command_turns h end + wait_turns h + tries_left h + 1
turns_in (wait.Over offset) h = command_turns h offset + tries_left h + 2
turns_in wait.Closing h = tries_left h + 1

-- the turns that suffice to a host's end
unfoldable pub most_turns : Host → ℕ
most_turns h = pick h.ended 0 (turns_in h.stage.wait h)
