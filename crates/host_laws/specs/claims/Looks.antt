-- Tries, of every host value: when a turn is 20, what a turn without the right answer sends and keeps, and that a new wait counts and hears anew.
use Rattle.std.specs.Prelude.{ℕ, ◌+◌, Bool, true, false, not, ◌&&◌, ◌||◌, List, ◌≡◌, leb, eqb, length}
use Rattle.words.specs.rules.Bytes.{word_at}
use Rattle.words.specs.rules.Choice.{pick}
use Rattle.opcodes.specs.rules.Answers.{code_of, accepted}
use Rattle.opcodes.specs.declared.Command.{Command}
use Rattle.opcodes.specs.declared.Command.TheVariants.{Load, Fill, BootTable, Enable, Disable, Request, StartOver, JumpAndClose, Ping, SequentialRead}
use Rattle.opcodes.specs.declared.Dialect.TheVariants.{Dm648}
use Rattle.flash_session.specs.rules.Opening.{good_length}
use Rattle.machine_answers.specs.rules.Replies.{one_word, acknowledged, farewell}
use Rattle.sent.specs.rules.Line.{start_answer}
use Rattle.sent.specs.rules.Opening.{greeting}
use Rattle.host_ear.specs.rules.Ear.{newest, ends_with, ends_with_checksum}
use Rattle.host.specs.rules.Turn.{turned}
use Rattle.host_answers.specs.declared.Host.{Host}
use Rattle.host_answers.specs.declared.Sending.{Sending}
use Rattle.host_answers.specs.declared.Sending.TheVariants.{Nothing, Start, Word}
use Rattle.host_answers.specs.declared.Turned.{Turned}
use Rattle.host_answers.specs.declared.Wait.{Wait}
use Rattle.host_answers.specs.declared.Wait.TheVariants as wait

-- a choice by what the host does with a command: it asks for the checksum, it closes, its words go out, or it never goes out, as Ping and Start-Over are no
-- commands of an image
abbrev pub by_going : {A : Type 0} → Command → A → A → A → A → A
by_going Load asks closes goes stays = goes
by_going Fill asks closes goes stays = goes
by_going BootTable asks closes goes stays = goes
by_going Enable asks closes goes stays = goes
by_going Disable asks closes goes stays = goes
by_going Request asks closes goes stays = asks
by_going StartOver asks closes goes stays = stays
by_going JumpAndClose asks closes goes stays = closes
by_going Ping asks closes goes stays = stays
by_going SequentialRead asks closes goes stays = stays

abbrev pub is_request : Command → Bool
is_request command = by_going command true false false false

abbrev pub is_close : Command → Bool
is_close command = by_going command false true false false

abbrev pub is_sent : Command → Bool
is_sent command = by_going command true true true false

-- the host has not ended, and is lent an image of its length: the turn is not 14, nor 3
abbrev pub is_lent : Host → List ℕ → Bool
is_lent h image = good_length (length image) && eqb (length image) h.length

abbrev pub is_turn : Host → List ℕ → Bool
is_turn h image = not h.ended && is_lent h image

-- the echo that is waited for: Ping's count, then 1, 2, ..
abbrev pub echo_of : ℕ → Host → ℕ
echo_of k h = pick (eqb k 0) h.pings k

-- the right answer: BOOTME, the start unit's answer, an acknowledgement, with a checksum after it for a Request, the word that went out, DONE; where nothing is
-- waited for there is nothing to look for, and the turn goes on
abbrev pub right_answer : Wait → Host → List ℕ → Bool
right_answer wait.Greeting h image = ends_with h.ear (greeting h.bus)
right_answer wait.Start h image = ends_with h.ear (start_answer h.bus)
right_answer wait.Ping h image = ends_with h.ear (one_word (acknowledged 0x5853590B))
right_answer (wait.Echo k) h image = leb 4 h.ear.count && eqb (newest h.ear 4) (echo_of k h)
right_answer wait.Nothing h image = true
right_answer (wait.Opcode command end) h image =
    pick (is_request command) (ends_with_checksum h.ear (word_at image h.offset))
    (ends_with h.ear (one_word (acknowledged (word_at image h.offset))))
right_answer (wait.Over offset) h image = ends_with h.ear (one_word (acknowledged 0x58535908))
right_answer wait.Closing h image = ends_with h.ear (farewell Dm648)

-- four bytes came in place of an echo, and are another word
abbrev pub echo_differs : Wait → Host → Bool
echo_differs wait.Greeting h = false
echo_differs wait.Start h = false
echo_differs wait.Ping h = false
echo_differs (wait.Echo k) h = leb 4 h.ear.count && not (eqb (newest h.ear 4) (echo_of k h))
echo_differs wait.Nothing h = false
echo_differs (wait.Opcode command end) h = false
echo_differs (wait.Over offset) h = false
echo_differs wait.Closing h = false

-- the look finds no right answer and is the last of its wait's tries; or the echo differs
abbrev pub fails : Wait → Host → List ℕ → Bool
fails wait h image = (not (right_answer wait h image) && leb h.tries (h.spent + 1)) || echo_differs wait h

-- 20 exactly then
abbrev pub TwentyExactly : Type 0
TwentyExactly = (h : Host) (image : List ℕ)
    → eqb (code_of (turned h image).refusal) 20 ≡ (is_turn h image && fails h.stage.wait h image)

-- what a wait repeats: the start unit, Ping's opcode, the opcode at the host's offset, Start-Over; neither Ping's count nor its words
abbrev pub repeated : Wait → Host → List ℕ → Sending
repeated wait.Greeting h image = Nothing
repeated wait.Start h image = Start
repeated wait.Ping h image = Word 0x5853590B
repeated (wait.Echo k) h image = Nothing
repeated wait.Nothing h image = Nothing
repeated (wait.Opcode command end) h image = Word (word_at image h.offset)
repeated (wait.Over offset) h image = Word 0x58535908
repeated wait.Closing h image = Nothing

-- one try more in the same wait, what was heard kept; nothing goes out where a byte came since the last turn, and where none came the wait's sending does
pub record Again (h : Host) (image : List ℕ) (t : Turned) : Type 0 where
  pub sent : t.sending ≡ pick h.ear.fresh Nothing (repeated h.stage.wait h image)
  pub spent : t.host.spent ≡ h.spent + 1
  pub same_wait : t.host.stage.wait ≡ h.stage.wait
  pub same_offset : t.host.offset ≡ h.offset
  pub same_retries : t.host.retries ≡ h.retries
  pub heard : t.host.ear ≡ record { last = h.ear.last; count = h.ear.count; fresh = false }
  pub running : t.host.ended ≡ false

abbrev pub WhatIsRepeated : Type 0
WhatIsRepeated = (h : Host) (image : List ℕ) → accepted (turned h image).refusal ≡ true → right_answer h.stage.wait h image ≡ false
    → Again h image (turned h image)

-- no try is spent, and nothing has been heard
pub record Fresh (h : Host) : Type 0 where
  pub untried : h.spent ≡ 0
  pub silent : h.ear ≡ record { last = 0; count = 0; fresh = false }

-- after the right answer a new wait begins, unless the host has ended
abbrev pub EachWaitAnew : Type 0
EachWaitAnew = (h : Host) (image : List ℕ) → accepted (turned h image).refusal ≡ true → right_answer h.stage.wait h image ≡ true
    → (turned h image).host.ended ≡ false → Fresh (turned h image).host
