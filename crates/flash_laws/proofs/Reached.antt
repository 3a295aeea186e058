-- No word is cut for a session that an opening leads to: an opening gives an offset that is a multiple of 4, by the law of a call every call does, and an
-- image has whole words.
use Prim.Native.Nat.{ℕ, ◌%◌}
use mathlib.Core.Bool.{Bool, true, false}
use mathlib.Core.List.{List}
use mathlib.Core.Path.{◌≡◌, refl}
use native.Mathlib.Omega.{arith}
use lib.Dec.{eqb}
use lib.ListN.{length}
use Rattle.words.specs.rules.Choice.{pick}
use Rattle.words.proofs.Choice.{both, of_choice}
use Rattle.windows.specs.rules.Window.{sum_of}
use Rattle.windows.specs.declared.Window.{Window}
use Rattle.opcodes.specs.declared.Dialect.{Dialect}
use Rattle.ledger.specs.rules.Totals.{from_one}
use Rattle.reading.specs.rules.Reading.{present, read_at}
use Rattle.commands.specs.rules.Commands.{multiple}
use Rattle.flash_commands.specs.claims.Ways.{Way, forward, back, kept, Call}
use Rattle.flash_session.specs.rules.Opening.{good_length, opened_by, numbering_from}
use Rattle.flash_session.specs.rules.Sessions.{with_totals}
use Rattle.flash_laws.specs.claims.Reached.{opened_to, Reached, opened, called, Looks, at-opcode, at_argument, at_data, NoWordCut, ReachedIsNeeded}
use Rattle.flash.specs.rules.Step.{step_of}
use Rattle.flash_session.specs.declared.Called.{Called}
use Rattle.flash_session.specs.declared.Opened.{Opened}
use Rattle.flash_session.specs.declared.Session.{Session}
use Rattle.flash_laws.proofs.Calls.{every_call}
use Rattle.flash_session.proofs.Lengths.{length_whole}

-- an offset that is a multiple of 4 stays one
pub call_aligned : {s : Session} {image : List ℕ} {a : Called} → s.offset % 4 ≡ 0 → Call s image a → a.session.offset % 4 ≡ 0
call_aligned {s} {image} {a} aligned call = go call.way
  where
    go : Way s image a → a.session.offset % 4 ≡ 0
    go (forward f) = omega arith
    go (back b) = b.aligned
    go (kept k) = omega arith

-- an opening that numbers has other totals than one that does not, and all else alike
module _ (P : Opened → Type 0)
    (other : (o : Opened) → P o → P (record { refusal = o.refusal; session = with_totals o.session (from_one o.session.totals) })) where
  numbering_as : (o : Opened) → P o → P (numbering_from o)
  unfolding numbering_from
  numbering_as o holds = of_choice P _ (λ e. other o holds) (λ e. holds)

  pub opened_as : (numbers : Bool) (dialect : Dialect) (count : ℕ) (windows : List Window) (image : List ℕ) (limit : ℕ)
      → P (opened_by dialect count windows image limit) → P (opened_to numbers dialect count windows image limit)
  unfolding pick
  opened_as true dialect count windows image limit holds = numbering_as (opened_by dialect count windows image limit) holds
  opened_as false dialect count windows image limit holds = holds

abbrev Aligned : Opened → Type 0
Aligned o = o.session.offset % 4 ≡ 0

opened_aligned : (dialect : Dialect) (count : ℕ) (windows : List Window) (image : List ℕ) (limit : ℕ) → Aligned (opened_by dialect count windows image limit)
unfolding opened_by
opened_aligned dialect count windows image limit =
    of_choice Aligned _ (λ e. refl) (λ e. of_choice Aligned _ (λ e. refl) (λ e. of_choice Aligned _ (λ e. refl) (λ e. refl)))

pub reached_aligned : {s : Session} → Reached s → s.offset % 4 ≡ 0
reached_aligned (opened numbers dialect count windows image limit) =
    opened_as Aligned (λ o holds. holds) numbers dialect count windows image limit (opened_aligned dialect count windows image limit)
reached_aligned (called {s} lent reached) =
    omega (arith, call_aligned (reached_aligned reached) (every_call s lent.memory lent.image))

-- all places where a call looks are so many words from its offset on
looks_aligned : {s : Session} {at : ℕ} → s.offset % 4 ≡ 0 → Looks s at → at % 4 ≡ 0
looks_aligned aligned at-opcode = aligned
looks_aligned aligned (at_argument i) = omega arith
looks_aligned aligned (at_data words i) = omega arith

pub no_word_cut : NoWordCut
no_word_cut s reached image sound at looks cut =
    let aligned = looks_aligned (reached_aligned reached) looks in
    let words = length_whole (length image) (both (good_length (length image)) (eqb (length image) s.length) sound).0 in
    omega arith

pub reached_is_needed : ReachedIsNeeded
unfolding step_of good_length multiple read_at present sum_of pick
reached_is_needed =
    record {
      unreached = λ reached. let aligned = reached_aligned reached in omega arith;
      lent = refl;
      cut = record { begun = omega arith; unfinished = omega arith };
      answer = refl;
    }
