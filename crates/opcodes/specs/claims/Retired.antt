-- What is retired: Jump, and nothing else, in both modes and dialects.
use Rattle.std.specs.Prelude.{ℕ, ◌≡◌, Err}
use Rattle.opcodes.specs.rules.Opcodes.{looked_up}
use Rattle.opcodes.specs.declared.Dialect.{Dialect}
use Rattle.opcodes.specs.declared.Mode.{Mode}
use Rattle.opcodes.specs.declared.Refusal.TheVariants.{Retired}

-- the look-up answers retired for exactly this opcode
pub record ExactlyJump : Type 0 where
  pub retired : (mode : Mode) (dialect : Dialect) → looked_up 0x58535905 mode dialect ≡ Err Retired
  pub only : (opcode : ℕ) (mode : Mode) (dialect : Dialect) → looked_up opcode mode dialect ≡ Err Retired → opcode ≡ 0x58535905
