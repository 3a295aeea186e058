-- A host in the middle of an image of its length, field by field, and its turn: it goes by its wait.
use Prim.Native.Nat.{ℕ}
use mathlib.Core.Bool.{true, false}
use mathlib.Core.List.{List}
use mathlib.Core.Logic.{◌≢◌}
use mathlib.Core.Path.{◌≡◌, refl, ap}
use lib.ListN.{length}
use Rattle.opcodes.specs.declared.Command.{Command}
use Rattle.opcodes.specs.declared.Command.TheVariants.{Load, Fill, BootTable, Enable, Disable, Request, StartOver, JumpAndClose, Ping, SequentialRead}
use Rattle.opcodes.specs.declared.Dialect.{Dialect}
use Rattle.flash_session.specs.rules.Opening.{good_length}
use Rattle.sent.specs.declared.Bus.{Bus}
use Rattle.host_commands.specs.rules.Commands.{by_role}
use Rattle.host.specs.rules.Turn.{turned, in_wait}
use Rattle.host_ear.specs.declared.Ear.{Ear}
use Rattle.host_answers.specs.declared.Host.{Host}
use Rattle.host_answers.specs.declared.Turned.{Turned}
use Rattle.host_answers.specs.declared.Wait.{Wait}
use Rattle.law_exchange.proofs.Scenes.{wait_turned}

-- the roles as numbers, by which they are told apart
abbrev pub role_number : Command → ℕ
role_number c = by_role {A = ℕ} c 0 1 2 3

-- what a host does with a command
pub data Role (c : Command) : Type 0 where
  passes : c ≡ SequentialRead → Role c
  asks : c ≡ Request → Role c
  closes : c ≡ JumpAndClose → Role c
  goes : role_number c ≡ 3 → ((passed asked closed gone : Turned) → by_role c passed asked closed gone ≡ gone) → Role c

pub role_of : (c : Command) → Role c
role_of Load = goes refl (λ p a c g. refl)
role_of Fill = goes refl (λ p a c g. refl)
role_of BootTable = goes refl (λ p a c g. refl)
role_of Enable = goes refl (λ p a c g. refl)
role_of Disable = goes refl (λ p a c g. refl)
role_of Request = asks refl
role_of StartOver = goes refl (λ p a c g. refl)
role_of JumpAndClose = closes refl
role_of Ping = goes refl (λ p a c g. refl)
role_of SequentialRead = passes refl

-- roles are told apart
pub other_role : (c d : Command) → (role_number c ≡ role_number d → ⊥) → c ≢ d
other_role c d differ e = differ (ap role_number e)

module _ (bus : Bus) (dialect : Dialect) (image : List ℕ) (tries limit pings : ℕ) where
  -- a host that has not ended, with so many retries at an offset, and in a wait with so many tries spent and this heard
  abbrev pub host_at : ℕ → ℕ → ℕ → Wait → Ear → Host
  host_at retries offset spent wait ear =
      record {
        bus = bus;
        dialect = dialect;
        length = length image;
        tries = tries;
        pings = pings;
        limit = limit;
        ended = false;
        retries = retries;
        offset = offset;
        spent = spent;
        stage = record { wait = wait };
        ear = ear;
      }

  pub turned_at : good_length (length image) ≡ true → (retries offset spent : ℕ) (wait : Wait) (ear : Ear)
      → turned (host_at retries offset spent wait ear) image ≡ in_wait wait (host_at retries offset spent wait ear) image
  turned_at good retries offset spent wait ear = wait_turned image (host_at retries offset spent wait ear) refl good refl
