-- By a call: the row is Boot Table's, its words are in the image, and what the call makes of the judgement is read off the rules of flash.
use Prim.Native.Nat.{ℕ, ◌+◌, ◌*◌}
use mathlib.Core.Bool.{false, true≢false}
use mathlib.Core.List.{List, [], ◌∷◌}
use mathlib.Core.Path.{◌≡◌, refl, sym, ap, subst, ◌∙◌}
use native.Mathlib.Omega.{arith}
use lib.ListN.{get_or}
use Rattle.std.specs.declared.result.Result.TheVariants.{Ok}
use Rattle.words.specs.rules.Bytes.{word_at}
use Rattle.words.specs.rules.Choice.{pick}
use Rattle.words.proofs.Choice.{of_choice}
use Rattle.opcodes.specs.rules.Answers.{accepted}
use Rattle.opcodes.specs.rules.Opcodes.{looked_up, with_words}
use Rattle.opcodes.specs.declared.Command.TheVariants.{BootTable}
use Rattle.opcodes.specs.declared.Mode.TheVariants.{Flash}
use Rattle.opcodes.specs.rules.Refusals as refusal
use Rattle.ledger.specs.declared.Happening.{Happening}
use Rattle.reading.specs.rules.Reading.{past_words, argument}
use Rattle.commands.specs.rules.Commands.{setting_done, setting_memory, Judged}
use Rattle.commands.specs.declared.Done.{Done}
use Rattle.commands.specs.declared.Wrote.{Wrote}
use Rattle.flash_session.specs.rules.Sessions.{CallOutcome, fetching, after}
use Rattle.flash_session.specs.declared.Called.{Called}
use Rattle.flash_session.specs.declared.Session.{Session}
use Rattle.flash_commands.specs.rules.Commands.{setting_judged_as, setting_of}
use Rattle.flash.specs.rules.Step.{step_of}
use Rattle.flash.proofs.Cases.{call_whole}
use Rattle.law_modes.specs.claims.Modes.{words_at}
use Rattle.field_laws.specs.claims.Meanings.{kind_in, address_in, Made}
use Rattle.field_commands.specs.claims.CarriedOut.{of_call, CarriedOut, StandsAt, ByCall}
use Rattle.field_commands.proofs.Settings.{Makes, boot, words_are, carried_out}

-- a command that was done and is not refused goes on past its words
after_goes : (s : Session) (happened : Happening) (wrote : Wrote) (done : Done) (next : ℕ) → (after s happened wrote done next).refusal ≡ refusal.None
    → ((after s happened wrote done next).session.offset ≡ next) × ((after s happened wrote done next).session.ended ≡ s.ended)
unfolding after
after_goes s happened wrote done next =
    of_choice (λ (a : Called). a.refusal ≡ refusal.None → (a.session.offset ≡ next) × (a.session.ended ≡ s.ended)) (accepted done.refusal)
    (λ held good. (refl, refl))
    (λ failed good. absurd (true≢false (sym (ap accepted good) ∙ failed)))

module _ (s : Session) (m image : List ℕ) (kind address value : ℕ) where
  abbrev words : List ℕ
  words = 0x58535907 ∷ kind ∷ address ∷ value ∷ 0 ∷ []

  abbrev fetched : Session
  fetched = fetching 5 s

  -- a word of the command, wherever its offset is counted from
  argument_is : (i at : ℕ) → s.offset + 4 + 4 * i ≡ at → argument image s.offset i ≡ word_at image at
  unfolding argument
  argument_is i at e = ap (word_at image) e

  module _ (stands : StandsAt s m image words) (known : looked_up 0x58535907 Flash s.dialect ≡ Ok (with_words BootTable 4)) where
    call_is : step_of s m image ≡ setting_of fetched m (past_words s.offset 4) kind address value 0
    unfolding words_at
    call_is =
        let row : word_at image s.offset ≡ 0x58535907 = ap (λ (ws : List ℕ). get_or ws 0 0) stands.there in
        let first : argument image s.offset 0 ≡ kind = argument_is 0 (s.offset + 4) (omega arith) ∙ ap (λ (ws : List ℕ). get_or ws 1 0) stands.there in
        let second : argument image s.offset 1 ≡ address =
        argument_is 1 (s.offset + 4 + 4) (omega arith) ∙ ap (λ (ws : List ℕ). get_or ws 2 0) stands.there in
        let third : argument image s.offset 2 ≡ value =
        argument_is 2 (s.offset + 4 + 4 + 4) (omega arith) ∙ ap (λ (ws : List ℕ). get_or ws 3 0) stands.there in
        let fourth : argument image s.offset 3 ≡ 0 =
        argument_is 3 (s.offset + 4 + 4 + 4 + 4) (omega arith) ∙ ap (λ (ws : List ℕ). get_or ws 4 0) stands.there in
        call_whole s m image stands.running stands.lent stands.sound BootTable 4
        (ap (λ (w : ℕ). looked_up w Flash s.dialect) row ∙ known) stands.inside
        ∙ rw (first, second, third, fourth)

    -- what a call makes of a judgement
    makes : Makes kind value s.totals.next m (λ (j : Judged). of_call (setting_judged_as fetched m (past_words s.offset 4) kind value 0 j))
    unfolding after setting_done setting_memory pick
    makes = record { granted = λ place. refl; out_of_range = refl; out-of-numbers = refl }

    goes_past : (step_of s m image).answer.refusal ≡ refusal.None
        → ((step_of s m image).answer.session.offset ≡ past_words s.offset 4) × ((step_of s m image).answer.session.ended ≡ false)
    goes_past good =
        let a = ap (λ (o : CallOutcome). o.answer) call_is in
        let on = after_goes _ _ _ _ _ (sym (ap (λ (x : Called). x.refusal) a) ∙ good) in
        (ap (λ (x : Called). x.session.offset) a ∙ on.0, ap (λ (x : Called). x.session.ended) a ∙ on.1 ∙ stands.running)

call_made : (text name : List ℕ) (release value kind address : ℕ) → Made text name release value (0x58535907 ∷ kind ∷ address ∷ value ∷ 0 ∷ [])
    → (s : Session) (m image : List ℕ) → StandsAt s m image (0x58535907 ∷ kind ∷ address ∷ value ∷ 0 ∷ [])
    → ByCall s m image (0x58535907 ∷ kind ∷ address ∷ value ∷ 0 ∷ []) value
call_made text name release value kind address made s m image stands =
    let ws : List ℕ = 0x58535907 ∷ kind ∷ address ∷ value ∷ 0 ∷ [] in
    let known = (boot text name release value ws made).in_table Flash s.dialect in
    record {
      carried_out = subst (λ (o : CallOutcome). CarriedOut s.windows s.totals ws value m (of_call o))
          (sym (call_is s m image kind address value stands known))
          (carried_out text name release value ws made s.windows s.totals m stands.lent _ (makes s m image kind address value stands known));
      goes_on = goes_past s m image kind address value stands known;
    }

pub by_call : (text name : List ℕ) (release value : ℕ) (words : List ℕ) → Made text name release value words
    → (s : Session) (m image : List ℕ) → StandsAt s m image words → ByCall s m image words value
by_call text name release value words made s m image stands =
    let are = words_are text name release value words made in
    subst (λ (ws : List ℕ). ByCall s m image ws value) (sym are)
    (call_made text name release value (kind_in words) (address_in words) (subst (Made text name release value) are made) s m image
    (subst (StandsAt s m image) are stands))
