-- What a call comes to, by the facts that its tests ask. Each law takes the tests of a definition one after the other.
use Prim.Native.Nat.{ℕ, ◌+◌, ◌≤◌}
use mathlib.Core.Bool.{true, false, not, ◌&&◌}
use mathlib.Core.List.{List}
use mathlib.Core.Path.{◌≡◌, ap, ◌∙◌}
use native.Mathlib.Omega.{arith}
use lib.Dec.{eqb}
use lib.ListN.{length}
use borrow.Author.Tests.{eq-eqb, ne_eqb}
use Rattle.std.specs.declared.result.Result.TheVariants.{Ok}
use Rattle.words.specs.rules.Bytes.{word_at}
use Rattle.words.proofs.Choice.{chosen, passed}
use Rattle.windows.specs.rules.Window.{sum_of}
use Rattle.opcodes.specs.rules.Opcodes.{looked_up, with_words}
use Rattle.opcodes.specs.declared.Command.{Command}
use Rattle.opcodes.specs.declared.Mode.TheVariants.{Flash}
use Rattle.opcodes.specs.rules.Refusals as refusal
use Rattle.ledger.specs.rules.Totals.{is_spent}
use Rattle.reading.specs.rules.Reading.{present, past_words, data_words, read_at}
use Rattle.reading.proofs.Reading.{read_row, row_whole}
use Rattle.flash_session.specs.rules.Opening.{good_length}
use Rattle.flash_session.specs.rules.Sessions.{◌leaving◌, fetching, unchanged, stopped}
use Rattle.flash.specs.rules.Step.{load_done, load_at, performed, followed, step_of}
use Rattle.flash_session.specs.declared.Session.{Session}

module _ (s : Session) (m image : List ℕ) where
  -- a load granted at a place: its data cut short, no number for it, and one
  module _ (next address size place : ℕ) where
    pub load_short : present image next (data_words size) ≡ false → load_at s m image next address size place ≡ stopped refusal.Missing s leaving m
    unfolding load_at
    load_short e = chosen _ _ _ (ap not e)

    module _ (there : present image next (data_words size) ≡ true) where
      pub load_spent : is_spent s.totals ≡ true → load_at s m image next address size place ≡ stopped refusal.Number s leaving m
      unfolding load_at
      load_spent spent = passed _ _ _ (ap not there) ∙ chosen _ _ _ spent

      pub load_whole : is_spent s.totals ≡ false → load_at s m image next address size place ≡ load_done s m image next address size place
      unfolding load_at
      load_whole unspent = passed _ _ _ (ap not there) ∙ passed _ _ _ unspent

  -- a call: each refusal in its case, and what was read where there is none
  pub call_ended : s.ended ≡ true → step_of s m image ≡ unchanged refusal.Ended s leaving m
  unfolding step_of
  call_ended e = chosen _ _ _ e

  module _ (running : s.ended ≡ false) where
    pub call_memory : (length m ≡ sum_of s.windows → ⊥) → step_of s m image ≡ unchanged refusal.Memory s leaving m
    unfolding step_of
    call_memory e = passed _ _ _ running ∙ chosen _ _ _ (ap not (ne_eqb _ _ e))

    module _ (lent : length m ≡ sum_of s.windows) where
      pub call_image : (good_length (length image) && eqb (length image) s.length) ≡ false
          → step_of s m image ≡ unchanged refusal.Image s leaving m
      unfolding step_of
      call_image e = passed _ _ _ running ∙ passed _ _ _ (ap not (eq-eqb _ _ lent)) ∙ chosen _ _ _ (ap not e)

      module _ (sound : (good_length (length image) && eqb (length image) s.length) ≡ true) where
        pub call_read : step_of s m image ≡ followed s m image (read_at image s.offset s.dialect)
        unfolding step_of
        call_read = passed _ _ _ running ∙ passed _ _ _ (ap not (eq-eqb _ _ lent)) ∙ passed _ _ _ (ap not sound)

        -- a row that is found, its command's words there
        pub call_whole : (c : Command) (words : ℕ) → looked_up (word_at image s.offset) Flash s.dialect ≡ Ok (with_words c words)
            → past_words s.offset words ≤ length image
            → step_of s m image ≡ performed c (past_words s.offset words) (fetching (1 + words) s) m image
        call_whole c words known there =
            call_read
            ∙ ap (followed s m image) (read_row image s.offset s.dialect (omega arith) ∙ row_whole image s.offset known there)
