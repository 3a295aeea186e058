-- Refused turns, of every host value: what they leave, and which of them comes first.
use Rattle.std.specs.Prelude.{ℕ, Bool, true, false, not, ◌&&◌, ◌||◌, List, ◌≡◌, ltb, eqb, length, Some, Result, Ok, Err}
use Rattle.words.specs.rules.Choice.{pick}
use Rattle.opcodes.specs.rules.Answers.{code_of, accepted}
use Rattle.opcodes.specs.rules.Refusals.{Verdict}
use Rattle.opcodes.specs.rules.Refusals as refusal
use Rattle.opcodes.specs.declared.Known.{Known}
use Rattle.reading.specs.rules.Reading.{past_data, read_at}
use Rattle.reading.specs.declared.Unread.{Unread}
use Rattle.host.specs.rules.Turn.{turned}
use Rattle.host_laws.specs.claims.Looks.{is_turn, is_lent}
use Rattle.host_answers.specs.declared.Host.{Host}
use Rattle.host_answers.specs.declared.Sending.TheVariants.{Nothing}
use Rattle.host_answers.specs.declared.Turned.{Turned}
use Rattle.host_answers.specs.declared.Wait.TheVariants as wait

-- what an opening fixes is never changed
pub record SameSettings (h g : Host) : Type 0 where
  pub bus : g.bus ≡ h.bus
  pub dialect : g.dialect ≡ h.dialect
  pub length : g.length ≡ h.length
  pub tries : g.tries ≡ h.tries
  pub pings : g.pings ≡ h.pings
  pub limit : g.limit ≡ h.limit

abbrev pub KeepsSettings : Type 0
KeepsSettings = (h : Host) (image : List ℕ) → SameSettings h (turned h image).host

-- a host that has ended, and is else another
pub record Stopped (h g : Host) : Type 0 where
  pub ended : g.ended ≡ true
  pub retries : g.retries ≡ h.retries
  pub offset : g.offset ≡ h.offset
  pub spent : g.spent ≡ h.spent
  pub wait : g.stage.wait ≡ h.stage.wait
  pub ear : g.ear ≡ h.ear

-- 14 and 3 spare the host
abbrev pub spares : Verdict → Bool
spares q = eqb (code_of q) 14 || eqb (code_of q) 3

-- nothing goes out; a host that is spared is as it was, any other has ended
pub record Refuses (h : Host) (t : Turned) : Type 0 where
  pub silent : t.sending ≡ Nothing
  pub spared : spares t.refusal ≡ true → t.host ≡ h
  pub stopped : spares t.refusal ≡ false → Stopped h t.host

abbrev pub RefusedSendsNothing : Type 0
RefusedSendsNothing = (h : Host) (image : List ℕ) → accepted (turned h image).refusal ≡ false → Refuses h (turned h image)

-- 14 exactly for a host that has ended, and then 3 exactly for an image of another length
pub record FirstOfAll (h : Host) (image : List ℕ) (q : Verdict) : Type 0 where
  pub fourteen : eqb (code_of q) 14 ≡ h.ended
  pub three : eqb (code_of q) 3 ≡ (not h.ended && not (is_lent h image))

abbrev pub JudgedFirst : Type 0
JudgedFirst = (h : Host) (image : List ℕ) → FirstOfAll h image (turned h image).refusal

-- what is read where a command is met: 5, 6 or 15, 5 for its arguments, then 5 for the data of a load
abbrev pub met_with : Host → List ℕ → Result Known Unread → Verdict
met_with h image (Err said) = Some said.refusal
met_with h image (Ok known) = pick (ltb (length image) (past_data known.command known.words image h.offset)) refusal.Missing refusal.None

-- so is a turn that waits for nothing, as flash reads it; what goes out then, its opcode or nothing, goes out where none of these is
abbrev pub JudgedBeforeTheOpcode : Type 0
JudgedBeforeTheOpcode = (h : Host) (image : List ℕ) → is_turn h image ≡ true → h.stage.wait ≡ wait.Nothing
    → (turned h image).refusal ≡ met_with h image (read_at image h.offset h.dialect)
