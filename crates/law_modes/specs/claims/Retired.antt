-- Jump, 0x58535905, is retired: what both modes answer where it stands as an opcode.
use Rattle.std.specs.Prelude.{ℕ, ◌+◌, ◌≤◌, true, false, ◌&&◌, List, ◌≡◌, eqb, length}
use Rattle.words.specs.rules.Bytes.{word_at}
use Rattle.windows.specs.rules.Window.{sum_of}
use Rattle.opcodes.specs.rules.Refusals.{Retired}
use Rattle.flash_session.specs.rules.Opening.{good_length}
use Rattle.flash_session.specs.rules.Sessions as flash
use Rattle.flash.specs.rules.Step.{step_of}
use Rattle.flash_session.specs.declared.Session.{Session}
use Rattle.machine_answers.specs.rules.Answers as machine
use Rattle.machine.specs.rules.Machine.{word_step}
use Rattle.machine_answers.specs.declared.Core.{Core}
use Rattle.machine_answers.specs.declared.Phase.TheVariants.{Opcode}

pub record JumpRefused : Type 0 where
  -- a call on it, whatever stands after it in the image, also nothing: 15 at its offset, no event, the session ended, its one word counted and nothing else of
  -- it changed
  pub called : (s : Session) (m image : List ℕ) → s.ended ≡ false → length m ≡ sum_of s.windows
      → (good_length (length image) && eqb (length image) s.length) ≡ true → s.offset + 4 ≤ length image
      → word_at image s.offset ≡ 0x58535905
      → step_of s m image ≡ flash.◌leaving◌ (flash.stopped Retired (flash.fetching 1 s)) m
  -- sent: 15, no reply, no event, the core ended and nothing else of it changed, so that it has begun only if it had
  pub sent : (k : Core) (m : List ℕ) → k.stage.phase ≡ Opcode → word_step k m 0x58535905 ≡ machine.◌leaving◌ (machine.refused k Retired) m
