-- What follows the right answer, and what goes out, of every host value and image: the tables of request 1.
use Rattle.std.specs.Prelude.{ℕ, ◌+◌, ◌-◌, ◌≤◌, ◌<◌, true, false, List, ◌⊎◌, ◌≡◌, length, Ok}
use Rattle.words.specs.rules.Bytes.{bytes_at, word_at}
use Rattle.opcodes.specs.rules.Answers.{accepted}
use Rattle.opcodes.specs.rules.Opcodes.{looked_up, with_words}
use Rattle.opcodes.specs.declared.Command.{Command}
use Rattle.opcodes.specs.declared.Dialect.{Dialect}
use Rattle.opcodes.specs.declared.Dialect.TheVariants.{Am17xx, Dm648}
use Rattle.opcodes.specs.declared.Mode.TheVariants.{Flash}
use Rattle.reading.specs.rules.Reading.{argument, past_data}
use Rattle.host_ear.specs.rules.Ear.{newest}
use Rattle.host_answers.specs.rules.Hosts.{changed}
use Rattle.host_answers.specs.rules.Sendings.{stretch_of}
use Rattle.host.specs.rules.Turn.{turned}
use Rattle.host_laws.specs.claims.Looks.{is_request, is_close, is_sent, right_answer, repeated}
use Rattle.host_laws.specs.claims.Retries.{mismatches, sought_by}
use Rattle.host_answers.specs.declared.Host.{Host}
use Rattle.host_answers.specs.declared.Sending.{Sending}
use Rattle.host_answers.specs.declared.Sending.TheVariants.{Nothing, Start, Word, Stretch}
use Rattle.host_answers.specs.declared.Wait.{Wait}
use Rattle.host_answers.specs.declared.Wait.TheVariants as wait

-- a command stands at an offset by the flash rows of a dialect, its arguments and data all in the image, up to an end
pub record Stands (dialect : Dialect) (offset : ℕ) (image : List ℕ) (command : Command) (end : ℕ) : Type 0 where
  pub words : ℕ
  pub row : looked_up (word_at image offset) Flash dialect ≡ Ok (with_words command words)
  pub upto : end ≡ past_data command words image offset
  pub inside : end ≤ length image

-- a new wait at an offset, with so many retries: no try is spent, and nothing has been heard
abbrev pub anew : Host → ℕ → ℕ → Wait → Host
anew h retries offset wait = changed h h.ended retries offset 0 wait (record { last = 0; count = 0; fresh = false })

-- at the same offset, and at another where the next command is met
abbrev pub into : Host → Wait → Host
into h wait = anew h h.retries h.offset wait

abbrev pub on_from : Host → ℕ → Host
on_from h offset = anew h h.retries offset wait.Nothing

-- ended, all else as it was
abbrev pub over : Host → Host
over h = changed h true h.retries h.offset h.spent h.stage.wait h.ear

module _ (h : Host) (image : List ℕ) where
  -- the wait before, the wait that begins, what goes out: the start unit, Ping, its count, its words 1 to the count, then commands; of a command that stands
  -- there and is sent the opcode, when all of it was seen to be there
  pub data Begins : Wait → Wait → Sending → Type 0 where
    greeted : Begins wait.Greeting wait.Start Start
    started : Begins wait.Start wait.Ping (Word 0x5853590B)
    pinged : Begins wait.Ping (wait.Echo 0) (Word h.pings)
    echoed : {k : ℕ} → k < h.pings → Begins (wait.Echo k) (wait.Echo (k + 1)) (Word (k + 1))
    echoed_last : {k : ℕ} → h.pings ≤ k → Begins (wait.Echo k) wait.Nothing Nothing
    met : {command : Command} {end : ℕ} → Stands h.dialect h.offset image command end → is_sent command ≡ true
        → Begins wait.Nothing (wait.Opcode command end) (Word (word_at image h.offset))

  -- the words after an opcode go out as one part of the image, up to the command's end, of any command but a Request
  pub record Words (command : Command) (end : ℕ) : Type 0 where
    pub asks_nothing : is_request command ≡ false
    pub from : h.offset + 4 ≤ end
    pub inside : end ≤ length image
    pub bytes : stretch_of (Stretch (h.offset + 4) end) image ≡ bytes_at image (h.offset + 4) (end - (h.offset + 4))

  -- the wait before, the offset of the next command, what goes out: a Sequential Read is passed over, words are out, a checksum matches, the seek is made
  pub data Moves : Wait → ℕ → Sending → Type 0 where
    passed : {command : Command} {end : ℕ} → Stands h.dialect h.offset image command end → is_sent command ≡ false → Moves wait.Nothing end Nothing
    went : {command : Command} {end : ℕ} → Words command end → is_close command ≡ false
        → Moves (wait.Opcode command end) end (Stretch (h.offset + 4) end)
    matched : {command : Command} {end : ℕ} → is_request command ≡ true → argument image h.offset 0 ≡ newest h.ear 4
        → Moves (wait.Opcode command end) end Nothing
    sought : {offset : ℕ} → Moves (wait.Over offset) offset Nothing

  -- the wait before, the host after, what goes out; a mismatch with a retry left sends Start-Over before it seeks; a close ends an AM17xx, DONE a DM648
  pub data Next : Wait → Host → Sending → Type 0 where
    begins : {before next : Wait} {out : Sending} → Begins before next out → Next before (into h next) out
    moves : {before : Wait} {offset : ℕ} {out : Sending} → Moves before offset out → Next before (on_from h offset) out
    starts_over : {command : Command} {end offset : ℕ} → mismatches (wait.Opcode command end) h image ≡ true → h.retries < h.limit
        → sought_by h image ≡ Ok offset
        → Next (wait.Opcode command end) (anew h (h.retries + 1) h.offset (wait.Over offset)) (Word 0x58535908)
    closed : {command : Command} {end : ℕ} → Words command end → is_close command ≡ true → h.dialect ≡ Am17xx
        → Next (wait.Opcode command end) (over (on_from h end)) (Stretch (h.offset + 4) end)
    closes : {command : Command} {end : ℕ} → Words command end → is_close command ≡ true → h.dialect ≡ Dm648
        → Next (wait.Opcode command end) (anew h h.retries end wait.Closing) (Stretch (h.offset + 4) end)
    done : Next wait.Closing (over h) Nothing

-- the right answer is followed so
abbrev pub WhatFollows : Type 0
WhatFollows = (h : Host) (image : List ℕ) → accepted (turned h image).refusal ≡ true → right_answer h.stage.wait h image ≡ true
    → Next h image h.stage.wait (turned h image).host (turned h image).sending

-- what a new wait repeats, if it repeats anything, is what went out as it began
abbrev pub RepeatsWhatBegan : Type 0
RepeatsWhatBegan = (h : Host) (image : List ℕ) → accepted (turned h image).refusal ≡ true → right_answer h.stage.wait h image ≡ true
    → (turned h image).host.ended ≡ false
    → (repeated (turned h image).host.stage.wait (turned h image).host image ≡ Nothing)
    ⊎ (repeated (turned h image).host.stage.wait (turned h image).host image ≡ (turned h image).sending)

-- all that goes out: nothing, what the wait repeats, or what the right answer is followed by
pub data GoesOut (h : Host) (image : List ℕ) : Wait → Host → Sending → Type 0 where
  nothing : {before : Wait} {g : Host} → GoesOut h image before g Nothing
  again : {before : Wait} {g : Host} → g.stage.wait ≡ before → GoesOut h image before g (repeated before h image)
  next : {before : Wait} {g : Host} {out : Sending} → right_answer before h image ≡ true → Next h image before g out → GoesOut h image before g out

abbrev pub WhatGoesOut : Type 0
WhatGoesOut = (h : Host) (image : List ℕ) → GoesOut h image h.stage.wait (turned h image).host (turned h image).sending

-- an opcode that is out is that of a command that stands at the host's offset and is sent
abbrev pub AwaitsIn : Wait → Dialect → ℕ → List ℕ → Type 0
AwaitsIn wait.Greeting dialect offset image = Unit {0}
AwaitsIn wait.Start dialect offset image = Unit {0}
AwaitsIn wait.Ping dialect offset image = Unit {0}
AwaitsIn (wait.Echo k) dialect offset image = Unit {0}
AwaitsIn wait.Nothing dialect offset image = Unit {0}
AwaitsIn (wait.Opcode command end) dialect offset image = Stands dialect offset image command end × (is_sent command ≡ true)
AwaitsIn (wait.Over target) dialect offset image = Unit {0}
AwaitsIn wait.Closing dialect offset image = Unit {0}

abbrev pub Awaits : Host → List ℕ → Type 0
Awaits h image = AwaitsIn h.stage.wait h.dialect h.offset image

-- and stays so from turn to turn, so that no other opcode is repeated
abbrev pub AwaitsWhatStands : Type 0
AwaitsWhatStands = (h : Host) (image : List ℕ) → Awaits h image → Awaits (turned h image).host image
