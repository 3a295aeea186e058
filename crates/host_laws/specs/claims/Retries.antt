-- Retries, of every host value: 11, then 12, else one retry, with Start-Over before the seek.
use Rattle.std.specs.Prelude.{ℕ, ◌+◌, Bool, true, false, not, ◌&&◌, List, ◌≡◌, leb, ltb, eqb, Ok, Err}
use Rattle.words.specs.rules.Choice.{pick}
use Rattle.opcodes.specs.rules.Answers.{code_of}
use Rattle.reading.specs.rules.Reading.{argument}
use Rattle.commands.specs.rules.Commands.{sought_from, Sought}
use Rattle.host_ear.specs.rules.Ear.{newest}
use Rattle.host.specs.rules.Turn.{turned}
use Rattle.host_laws.specs.claims.Looks.{is_request, is_turn, right_answer}
use Rattle.host_answers.specs.declared.Host.{Host}
use Rattle.host_answers.specs.declared.Sending.TheVariants.{Word}
use Rattle.host_answers.specs.declared.Turned.{Turned}
use Rattle.host_answers.specs.declared.Wait.{Wait}
use Rattle.host_answers.specs.declared.Wait.TheVariants as wait

-- a Request was answered with another checksum than its first argument
abbrev pub mismatches : Wait → Host → List ℕ → Bool
mismatches wait.Greeting h image = false
mismatches wait.Start h image = false
mismatches wait.Ping h image = false
mismatches (wait.Echo k) h image = false
mismatches wait.Nothing h image = false
mismatches (wait.Opcode command end) h image =
    is_request command && right_answer (wait.Opcode command end) h image && not (eqb (argument image h.offset 0) (newest h.ear 4))
mismatches (wait.Over offset) h image = false
mismatches wait.Closing h image = false

-- does a seek lead to an offset?
abbrev pub leads : Sought → Bool
leads (Ok offset) = true
leads (Err q) = false

-- where the host seeks: from the Request at its offset, by its second argument
abbrev pub sought_by : Host → List ℕ → Sought
sought_by h image = sought_from h.offset (argument image h.offset 1)

-- the three ends of a mismatch: no retry left, a seek that leads nowhere, a retry
abbrev pub none_left : Host → List ℕ → Bool
none_left h image = is_turn h image && mismatches h.stage.wait h image && leb h.limit h.retries

abbrev pub astray : Host → List ℕ → Bool
astray h image = is_turn h image && mismatches h.stage.wait h image && ltb h.retries h.limit && not (leads (sought_by h image))

abbrev pub retried : Host → List ℕ → Bool
retried h image = is_turn h image && mismatches h.stage.wait h image && ltb h.retries h.limit && leads (sought_by h image)

-- a retry: Start-Over goes out, and the host waits for its acknowledgement before it goes to the offset sought
pub record StartsOver (h : Host) (image : List ℕ) (t : Turned) : Type 0 where
  pub offset : ℕ
  pub led : sought_by h image ≡ Ok offset
  pub sent : t.sending ≡ Word 0x58535908
  pub waits : t.host.stage.wait ≡ wait.Over offset
  pub same_offset : t.host.offset ≡ h.offset
  pub running : t.host.ended ≡ false

-- one retry is counted exactly then, 11 is exactly for a mismatch with none left, and 12 for one whose seek leads nowhere
pub record Retrying (h : Host) (image : List ℕ) (t : Turned) : Type 0 where
  pub counted : t.host.retries ≡ pick (retried h image) (h.retries + 1) h.retries
  pub eleven : eqb (code_of t.refusal) 11 ≡ none_left h image
  pub twelve : eqb (code_of t.refusal) 12 ≡ astray h image
  pub starts_over : retried h image ≡ true → StartsOver h image t

abbrev pub RetriesAreCounted : Type 0
RetriesAreCounted = (h : Host) (image : List ℕ) → Retrying h image (turned h image)
