-- `reading::read_row` meets its contract: what the table says comes first, and the argument words are looked for last.
use mathlib.Core.Path.{◌≡◌, sym, ap, ◌∙◌}
use mathlib.Core.Bool.{true≢false}
use Rattle.std.specs.Prelude.{MatchResult, is_ok}
use Rattle.std.specs.declared.result.Result.{Result}
use Rattle.std.specs.declared.result.Result.TheVariants.{Ok, Err}
use Rattle.opcodes.specs.declared.Known.{Known}
use Rattle.opcodes.specs.declared.Refusal.{Refusal}
use Rattle.reading.specs.rules.Reading.{words_from}
use Rattle.reading.proofs.Reading.{row_short, row_whole}
use Rattle.reading.proofs.read_row.Goals as goal
use Rattle.reading.specs.declared.Unread.{Unread}

-- what is well once its error is told otherwise was well before
was_well : (P : Refusal → Type 0) (found : Result Known Refusal) {told : Result Known Unread} {known : Known}
    → MatchResult found (λ x. told ≡ Ok x) P → is_ok told ≡ is_ok found → told ≡ Ok known → found ≡ Ok known
was_well P (Ok x) {told} {known} same well e = let both : ◌≡◌ {A = Result Known Unread} (Ok x) (Ok known) = sym same ∙ e in cc
was_well P (Err q) same well e = absurd (true≢false (sym (ap is_ok e) ∙ well))

pub returns-then-image-at : goal.returns-then-image-at
unfolding words_from
returns-then-image-at c =
    let a = c.args in
    let known = was_well _ a.found c.map_err.ensures.cases c.map_err.ensures.variant c.in_ok-known.was in
    rw c.missing.ensures (sym (row_short a.image.now a.offset known c.if-image-at.true))

pub returns : goal.returns
returns c =
    let a = c.args in
    let known = was_well _ a.found c.map_err.ensures.cases c.map_err.ensures.variant c.in_ok-known.was in
    sym (row_whole a.image.now a.offset known c.if-image-at.false)
