-- What a host takes for an answer: after whatever bytes it heard since its wait began, its ear says that they end with a reply exactly where they do.
use Rattle.std.specs.Prelude.{ℕ, ◌-◌, ◌^◌, ◌≤◌, ◌<◌, true, List, [], ◌∷◌, ◌++◌, ◌≡◌, length, take}
use Rattle.words.specs.rules.Bytes.{AreBytes, words_bytes}
use Rattle.machine_answers.specs.rules.Replies.{sent_bytes, one_word, acknowledged}
use Rattle.machine_answers.specs.declared.Reply.{Reply}
use Rattle.sent.specs.rules.Line.{start_answer}
use Rattle.sent.specs.rules.Opening.{greeting}
use Rattle.sent.specs.declared.Bus.{Bus}
use Rattle.host_ear.specs.rules.Ear.{nothing_heard, newest, ends_with, ends_with_checksum}
use Rattle.host_answers.specs.rules.Hosts.{heard_all}
use Rattle.host_ear.specs.declared.Ear.{Ear}
use Rattle.host_answers.specs.declared.Host.{Host}

-- some bytes end with these
abbrev pub EndIn : List ℕ → List ℕ → Type 0
EndIn bytes last = bytes ≡ take (length bytes - length last) bytes ++ last

-- a reply of at most eight bytes, as those of the loader are
pub record IsReply (reply : Reply) : Type 0 where
  pub counted : length (sent_bytes reply) ≡ reply.count
  pub short : reply.count ≤ 8
  pub bytes : AreBytes (sent_bytes reply)

-- a reply is heard exactly where the bytes end with it; a Request's answer exactly where they end with the acknowledgement and a word, which is the newest
pub record HeardExactly (ear : Ear) (bytes : List ℕ) : Type 0 where
  pub only_it : (reply : Reply) → IsReply reply → ends_with ear reply ≡ true → EndIn bytes (sent_bytes reply)
  pub always_it : (reply : Reply) → IsReply reply → EndIn bytes (sent_bytes reply) → ends_with ear reply ≡ true
  pub only_a_checksum : (opcode : ℕ) → ends_with_checksum ear opcode ≡ true → EndIn bytes (words_bytes (acknowledged opcode ∷ newest ear 4 ∷ []))
  pub always_a_checksum : (opcode checksum : ℕ) → checksum < 2 ^ 32 → EndIn bytes (words_bytes (acknowledged opcode ∷ checksum ∷ []))
      → ends_with_checksum ear opcode ≡ true

-- of any host in a new wait, whatever bytes come
abbrev pub WhatIsHeard : Type 0
WhatIsHeard = (h : Host) (bytes : List ℕ) → h.ear ≡ nothing_heard → AreBytes bytes → HeardExactly (heard_all h bytes).ear bytes

-- BOOTME or nothing, the answer to the start unit, and any word, DONE and the acknowledgements among them, are such replies
pub record AreReplies : Type 0 where
  pub greetings : (bus : Bus) → IsReply (greeting bus)
  pub start_answers : (bus : Bus) → IsReply (start_answer bus)
  pub words : (word : ℕ) → IsReply (one_word word)
