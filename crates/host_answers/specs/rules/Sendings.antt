-- What goes out: what each wait sends on entering, what it sends again, and a stretch as a part of the image.
use Rattle.std.specs.Prelude.{ℕ, ◌-◌, Bool, ◌&&◌, List, [], leb, eqb, length}
use Rattle.words.specs.rules.Bytes.{bytes_at, word_at}
use Rattle.words.specs.rules.Choice.{pick}
use Rattle.host_answers.specs.declared.Host.{Host}
use Rattle.host_answers.specs.declared.Sending.{Sending}
use Rattle.host_answers.specs.declared.Sending.TheVariants.{Nothing, Start, Word, Stretch}
use Rattle.host_answers.specs.declared.Wait.{Wait}
use Rattle.host_answers.specs.declared.Wait.TheVariants as wait

-- the opcodes that the host sends of its own
abbrev pub ping_opcode : ℕ
ping_opcode = 0x5853590B

abbrev pub start_over : ℕ
start_over = 0x58535908

-- what is echoed: Ping's count first, then the words 1, 2, .. up to it
abbrev pub echoed : Host → ℕ → ℕ
echoed h k = pick (eqb k 0) h.pings k

-- what goes out as a wait begins: the start unit, Ping and what it is to echo, the opcode at the host's offset, Start-Over
abbrev pub opens : Wait → Host → List ℕ → Sending
opens wait.Greeting h image = Nothing
opens wait.Start h image = Start
opens wait.Ping h image = Word ping_opcode
opens (wait.Echo k) h image = Word (echoed h k)
opens wait.Nothing h image = Nothing
opens (wait.Opcode command end) h image = Word (word_at image h.offset)
opens (wait.Over offset) h image = Word start_over
opens wait.Closing h image = Nothing

-- what goes out again: all of these but Ping's count and its words
abbrev pub repeats : Wait → Host → List ℕ → Sending
repeats wait.Greeting h image = Nothing
repeats wait.Start h image = Start
repeats wait.Ping h image = Word ping_opcode
repeats (wait.Echo k) h image = Nothing
repeats wait.Nothing h image = Nothing
repeats (wait.Opcode command end) h image = Word (word_at image h.offset)
repeats (wait.Over offset) h image = Word start_over
repeats wait.Closing h image = Nothing

-- is there a part of the image from one offset to another?
unfoldable pub is_part : List ℕ → ℕ → ℕ → Bool
is_part image from to = leb from to && leb to (length image)

-- the bytes of a stretch; nothing else goes out from the image, nor a stretch that is not there
abbrev pub stretch_of : Sending → List ℕ → List ℕ
stretch_of Nothing image = []
stretch_of Start image = []
stretch_of (Word word) image = []
stretch_of (Stretch from to) image = pick (is_part image from to) (bytes_at image from (to - from)) []
