-- Replies, as bytes on either line: none, the answer to a start unit, a word, or a word and another after it.
use Rattle.std.specs.Prelude.{ℕ, ◌+◌, ◌*◌, ◌%◌, ◌^◌, min, List, [], ◌∷◌, get_or, take}
use Rattle.words.specs.rules.Bytes.{byte}
use Rattle.opcodes.specs.declared.Dialect.{Dialect}
use Rattle.opcodes.specs.declared.Dialect.TheVariants.{Am17xx, Dm648}
use Rattle.machine_answers.specs.declared.Reply.{Reply}

-- no reply
abbrev pub silence : Reply
silence = record { bytes = 0 ∷ 0 ∷ 0 ∷ 0 ∷ 0 ∷ 0 ∷ 0 ∷ 0 ∷ []; count = 0 }

-- one word, lowest byte first
unfoldable pub one_word : ℕ → Reply
one_word v = record { bytes = byte v 0 ∷ byte v 1 ∷ byte v 2 ∷ byte v 3 ∷ 0 ∷ 0 ∷ 0 ∷ 0 ∷ []; count = 4 }

-- a word, and after it the first word of what else is said
unfoldable pub word_then : ℕ → Reply → Reply
word_then v r =
    record {
      bytes = byte v 0 ∷ byte v 1 ∷ byte v 2 ∷ byte v 3 ∷ get_or r.bytes 0 0 ∷ get_or r.bytes 1 0 ∷ get_or r.bytes 2 0 ∷ get_or r.bytes 3 0 ∷ [];
      count = 4 + min r.count 4;
    }

-- an opcode is acknowledged by itself with top byte 0x52
unfoldable pub acknowledged : ℕ → ℕ
acknowledged opcode = 0x52 * 2 ^ 24 + opcode % 2 ^ 24

-- DONE, which a DM648 says on entering; an AM17xx says nothing
abbrev pub done_word : ℕ
done_word = 0x454E4F44

abbrev pub farewell : Dialect → Reply
farewell Am17xx = silence
farewell Dm648 = one_word done_word

-- the bytes of a reply
abbrev pub sent_bytes : Reply → List ℕ
sent_bytes r = take r.count r.bytes
