-- The laws of an opening: its tests are taken one after the other, and a host that has ended is 14 whatever it hears.
use Prim.Native.Nat.{ℕ}
use mathlib.Core.Bool.{true, false, not, true≢false}
use mathlib.Core.List.{List, [], ◌∷◌}
use mathlib.Core.Path.{◌≡◌, refl, sym, ◌∙◌}
use lib.ListN.{length}
use borrow.Author.Tests.{not-true, not-false}
use Rattle.words.proofs.Choice.{chosen, of_choice}
use Rattle.opcodes.specs.rules.Answers.{code_of, accepted}
use Rattle.opcodes.specs.declared.Dialect.{Dialect}
use Rattle.opcodes.specs.rules.Refusals.{Verdict}
use Rattle.opcodes.specs.rules.Refusals as refusal
use Rattle.flash_session.specs.rules.Opening.{good_length}
use Rattle.sent.specs.declared.Bus.{Bus}
use Rattle.host_answers.specs.rules.Hosts.{heard, heard_all, refused_by, opened_by}
use Rattle.host.specs.rules.Turn.{turned}
use Rattle.host_laws.specs.claims.Opening.{has_magic, in_range, OpeningCodes, StaysEnded, Opening, EveryOpening}
use Rattle.host_answers.specs.declared.Host.{Host}
use Rattle.host_answers.specs.declared.Opened.{Opened}

-- hearing ends nothing
pub heard_ended : (h : Host) (bytes : List ℕ) → (heard_all h bytes).ended ≡ h.ended
unfolding heard_all heard
heard_ended h [] = refl
heard_ended h (byte ∷ bytes) = heard_ended (heard h byte) bytes

pub stays_ended : (h : Host) → h.ended ≡ true → StaysEnded h
unfolding turned
stays_ended h ended = record { ended = ended; ever = λ bytes image. chosen _ _ _ (heard_ended h bytes ∙ ended) }

module _ (bus : Bus) (dialect : Dialect) (image : List ℕ) (tries limit pings : ℕ) where
  -- a refused opening, by its number
  closed : (q : Verdict) → accepted q ≡ false → OpeningCodes image tries (code_of q) → Opening bus dialect image tries limit pings (refused_by q)
  closed q no_entry codes =
      record { codes = codes; opened = λ e. absurd (true≢false (sym e ∙ no_entry)); refused = λ e. stays_ended (refused_by q).host refl }

  pub opening : Opening bus dialect image tries limit pings (opened_by bus dialect image tries limit pings)
  unfolding opened_by
  opening =
      let Mine : Opened → Type 0 = Opening bus dialect image tries limit pings in
      of_choice Mine (not (good_length (length image)))
      (λ e.
      let bad : good_length (length image) ≡ false = not-true _ e in
      closed refusal.Image refl (record { three = sym (rw bad); four = sym (rw bad); twenty = sym (rw bad); opens = sym (rw bad) }))
      (λ e.
      let good : good_length (length image) ≡ true = not-false _ e in
      of_choice Mine (not (has_magic image))
      (λ e.
      let bad : has_magic image ≡ false = not-true _ e in
      closed refusal.Magic refl (record { three = sym (rw good); four = sym (rw (good, bad)); twenty = sym (rw (good, bad)); opens = sym (rw (good, bad)) }))
      (λ e.
      let magic : has_magic image ≡ true = not-false _ e in
      of_choice Mine (not (in_range tries))
      (λ e.
      let bad : in_range tries ≡ false = not-true _ e in
      closed refusal.Tries refl
      (record { three = sym (rw good); four = sym (rw (good, magic)); twenty = sym (rw (good, magic, bad)); opens = sym (rw (good, magic, bad)) }))
      (λ e.
      let fine : in_range tries ≡ true = not-false _ e in
      record {
        codes = record { three = sym (rw good); four = sym (rw (good, magic)); twenty = sym (rw (good, magic, fine)); opens = sym (rw (good, magic, fine)) };
        opened = λ e.
            record {
              greeting = refl;
              offset = refl;
              retries = refl;
              fresh = record { untried = refl; silent = refl };
              running = refl;
              same_bus = refl;
              same_dialect = refl;
              same_length = refl;
              same_tries = refl;
              same_limit = refl;
              same_pings = refl;
            };
        refused = λ e. absurd (true≢false e);
      })))

pub every_opening : EveryOpening
every_opening = opening
