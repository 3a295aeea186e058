-- What the host hears: the last eight bytes since its wait began, and whether they end with a reply of the loader's.
use Rattle.std.specs.Prelude.{ℕ, ◌+◌, ◌-◌, ◌*◌, ◌/◌, ◌%◌, ◌^◌, min, Bool, true, false, ◌&&◌, leb, eqb}
use Rattle.words.specs.rules.Bytes.{number}
use Rattle.machine_answers.specs.rules.Replies.{sent_bytes, acknowledged}
use Rattle.machine_answers.specs.declared.Reply.{Reply}
use Rattle.host_ear.specs.declared.Ear.{Ear}

-- nothing has come since the wait began
abbrev pub nothing_heard : Ear
nothing_heard = record { last = 0; count = 0; fresh = false }

-- one byte more, the newest and so the highest of the last eight
unfoldable pub hearing : Ear → ℕ → Ear
hearing ear byte = record { last = ear.last / 2 ^ 8 + byte * 2 ^ 56; count = min (ear.count + 1) 8; fresh = true }

-- a turn has looked
abbrev pub looked_at : Ear → Ear
looked_at ear = record { last = ear.last; count = ear.count; fresh = false }

-- the newest n bytes, as a number
unfoldable pub newest : Ear → ℕ → ℕ
newest ear n = ear.last / 2 ^ (64 - 8 * n)

-- do the bytes that came end with this reply?
unfoldable pub ends_with : Ear → Reply → Bool
ends_with ear reply = leb reply.count ear.count && eqb (newest ear reply.count) (number (sent_bytes reply))

-- do they end with the acknowledgement of an opcode and a word after it, a checksum?
unfoldable pub ends_with_checksum : Ear → ℕ → Bool
ends_with_checksum ear opcode = leb 8 ear.count && eqb (ear.last % 2 ^ 32) (acknowledged opcode)
