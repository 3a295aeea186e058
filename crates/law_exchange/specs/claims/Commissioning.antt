-- Request 13 by examples: an image that meets its premises, one beyond them with two waits, a mismatch and a Sequential Read, on both lines and in both
-- dialects; and for each premise that is kept a talk without it that does not agree with the flash run. A byte lost and an image changed in between are in
-- Worked.antt (`Needed`), which spoil the entry.
use Rattle.std.specs.Prelude.{ℕ, ◌≤◌, List, [], ◌∷◌, ◌++◌, ◌≢◌, ◌≡◌, replicate}
use Rattle.words.specs.rules.Bytes.{bytes_at, words_bytes}
use Rattle.windows.specs.rules.Map.{zero_window}
use Rattle.windows.specs.declared.Window.{Window}
use Rattle.opcodes.specs.declared.Dialect.{Dialect}
use Rattle.opcodes.specs.declared.Dialect.TheVariants.{Am17xx, Dm648}
use Rattle.opcodes.specs.declared.Event.TheVariants.{Wait, Enter}
use Rattle.flash_session.specs.rules.Opening.{magic, opened_by}
use Rattle.flash_runs.specs.rules.Events.{events_from}
use Rattle.flash_runs.specs.rules.Run.{ran_from}
use Rattle.sent.specs.declared.Bus.{Bus}
use Rattle.sent.specs.declared.Bus.TheVariants.{Bytes}
use Rattle.law_exchange.specs.claims.Agreement.{Commissioned}
use Rattle.law_exchange.specs.claims.Course.{Premises, talk_after, exchange_turns}
use Rattle.law_exchange.specs.claims.Worked.{windows, memory, attempts, entering}

-- a setting of a whole word, and the cycles to wait after it
abbrev pub setting : ℕ → ℕ → ℕ → List ℕ
setting address value delay = 0x58535907 ∷ 2 ∷ address ∷ value ∷ delay ∷ []

-- the close, in which a DM648 names the sections and the bytes loaded
abbrev pub close : Dialect → ℕ → List ℕ
close Am17xx size = 0x58535906 ∷ 0x10800000 ∷ []
close Dm648 size = 0x58535906 ∷ 0x10800000 ∷ 1 ∷ size ∷ []

-- a setting, a load and a setting: it enters with no mismatch, and holds no Sequential Read
abbrev pub plain : Dialect → List ℕ
plain dialect =
    words_bytes
    (magic ∷ setting 0x10800020 0x5A 100 ++ (0x58535901 ∷ 0x10800040 ∷ 4 ∷ 0xABCD ∷ []) ++ setting 0x10800020 0xA5 200 ++ close dialect 4)

-- a Sequential Read, a setting, the sections that mismatch once, and a setting
abbrev pub beyond : Dialect → List ℕ
beyond dialect =
    words_bytes (magic ∷ 0x58535963 ∷ setting 0x10800020 0x5A 100 ++ attempts ++ setting 0x10800020 0xA5 200 ++ close dialect 12)

-- on either line and in either dialect: the request's premises are met; and beyond them the same waits in the same order, and the entry
pub record Agreed (bus : Bus) (dialect : Dialect) : Type 0 where
  pub commissioned : Commissioned bus dialect 1 windows memory (plain dialect) 3 0 2 0x10800000
  pub premises : Premises bus dialect 1 windows memory (beyond dialect) 3 1 2
  pub retried : (ran_from (opened_by dialect 1 windows (beyond dialect) 1) memory (beyond dialect)).answer.session.retries ≡ 1
  pub waits : (talk_after bus dialect 1 windows memory (beyond dialect) 3 1 2 (exchange_turns bus dialect 1 windows memory (beyond dialect) 3 1 2)).events
      ≡ Wait 100 ∷ Wait 200 ∷ Enter 0x10800000 ∷ []
  pub set : bytes_at (talk_after bus dialect 1 windows memory (beyond dialect) 3 1 2 (exchange_turns bus dialect 1 windows memory (beyond dialect) 3 1 2)
      ).loader.memory 0x20 4 ≡ 0xA5 ∷ 0 ∷ 0 ∷ 0 ∷ []

-- a map whose window lies elsewhere, and a memory that does not start with zeros
abbrev pub elsewhere : List Window
elsewhere = record { first = 0x10900000; length = 76; rights = 7 } ∷ replicate 7 zero_window

abbrev pub ones : List ℕ
ones = replicate 76 1

-- another map: the flash run enters, and the loader with that map never does; another starting memory: the memories differ in the end
pub record Kept : Type 0 where
  pub flash_enters : events_from (opened_by Am17xx 1 windows entering 0) memory entering ≡ Enter 0x10800000 ∷ []
  pub another_map : (n : ℕ) → exchange_turns Bytes Am17xx 1 elsewhere memory entering 3 0 0 ≤ n
      → (talk_after Bytes Am17xx 1 elsewhere memory entering 3 0 0 n).events ≡ []
  pub flash-memory : (ran_from (opened_by Am17xx 1 windows entering 0) memory entering).memory ≡ memory
  pub another_memory : (n : ℕ) → exchange_turns Bytes Am17xx 1 windows ones entering 3 0 0 ≤ n
      → (talk_after Bytes Am17xx 1 windows ones entering 3 0 0 n).loader.memory ≡ ones
  pub differ : memory ≢ ones
