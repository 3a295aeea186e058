-- How a command is met, by its role: a Sequential Read is passed over, of any other the opcode goes out.
use Prim.Native.Nat.{ℕ}
use mathlib.Core.List.{List}
use mathlib.Core.Path.{◌≡◌, ◌∙◌}
use Rattle.opcodes.specs.declared.Command.{Command}
use Rattle.host_answers.specs.rules.Answers.{sending, enters, on_to}
use Rattle.host.specs.rules.Turn.{met_to}
use Rattle.host_answers.specs.declared.Host.{Host}
use Rattle.host_commands.specs.declared.Role.{Role}
use Rattle.host_commands.specs.declared.Role.TheVariants.{Passed}
use Rattle.host_answers.specs.declared.Sending.TheVariants.{Nothing}
use Rattle.host_answers.specs.declared.Turned.{Turned}
use Rattle.host_answers.specs.declared.Wait.TheVariants as wait
use Rattle.host_commands.proofs.Roles.{choose, role_of, as_role, others}

module _ (h : Host) (image : List ℕ) (k : Command) (end : ℕ) (r : Role) (known : r ≡ role_of k) where
  pub met_by : met_to h image k end
      ≡ choose r (sending Nothing (on_to h end)) (enters (wait.Opcode k end) h image) (enters (wait.Opcode k end) h image) (enters (wait.Opcode k end) h image)
  met_by =
      let opcode : Turned = enters (wait.Opcode k end) h image in
      as_role k r (sending Nothing (on_to h end)) opcode opcode opcode known

  pub met_other : (r ≡ Passed → ⊥) → met_to h image k end ≡ enters (wait.Opcode k end) h image
  met_other not_passed = met_by ∙ others r (sending Nothing (on_to h end)) (enters (wait.Opcode k end) h image) not_passed
