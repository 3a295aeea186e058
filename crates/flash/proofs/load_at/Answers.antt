-- `flash::load_at` meets its contract: the data are looked for, then a number, and the part lent to the copy is the data.
use borrow.Author.Rules.{rules}
use Rattle.flash.proofs.Cases.{load_short, load_spent, load_whole}
use Rattle.flash_session.specs.rules.Sessions.{CallOutcome}
use Rattle.reading.specs.rules.Reading.{data_words}
use Rattle.reading.proofs.Reading.{are_there}
use Rattle.words.specs.rules.Bytes.{bytes_at}
use lib.ListN.{take, drop}
use native.Mathlib.Nat.{add-sub_cancel_left}
use mathlib.Core.Path.{◌≡◌, sym, ap, ◌∙◌}
use mathlib.Core.List.{List}
use Prim.Native.Nat.{ℕ, ◌+◌, ◌-◌}
use Rattle.flash.proofs.load_at.Goals as goal

-- the part of an image from one place to another is its bytes from there on
part : (image : List ℕ) (from size : ℕ) → take (from + size - from) (drop from image) ≡ bytes_at image from size
unfolding bytes_at
part image from size = rw add-sub_cancel_left

pub returns-then-not-has_data : goal.returns-then-not-has_data
returns-then-not-has_data c =
    let a = c.args in
    let short = load_short a.session a.memory.now a.image.now a.next a.address a.size a.place
    (sym c.has_data.ensures ∙ c.if-not-has_data.true) in
    record { value = c.halt.ensures ∙ sym (ap (λ (o : CallOutcome). o.answer) short); memory_after = sym (ap (λ (o : CallOutcome). o.memory) short) }

pub returns-then-is_spent : goal.returns-then-is_spent
returns-then-is_spent c =
    let a = c.args in
    let there = sym c.has_data.ensures ∙ c.if-not-has_data.false in
    let spent = load_spent a.session a.memory.now a.image.now a.next a.address a.size a.place there
    (sym c.is_spent.ensures ∙ c.if-is_spent.true) in
    record {
      value = c.halt-then-is_spent.ensures ∙ sym (ap (λ (o : CallOutcome). o.answer) spent);
      memory_after = sym (ap (λ (o : CallOutcome). o.memory) spent);
    }

pub slice_bounds-load-end : goal.slice_bounds-load-end
slice_bounds-load-end c =
    let a = c.args in
    let fits = are_there a.image.now a.next (data_words a.size)
    (sym c.has_data.ensures ∙ c.if-not-has_data.false) in
    search (rules, fits)

pub returns : goal.returns
returns c =
    let a = c.args in
    let there = sym c.has_data.ensures
    ∙ c.if-not-has_data.false in
    let whole = load_whole a.session a.memory.now a.image.now a.next a.address a.size a.place there
    (sym c.is_spent.ensures ∙ c.if-is_spent.false) in
    let done = rw (part a.image.now a.next a.size) at c.load-checksum.ensures in
    record {
      value = rw (c.load_answer.ensures, done.value) (sym (ap (λ (o : CallOutcome). o.answer) whole));
      memory_after = done.memory_after ∙ sym (ap (λ (o : CallOutcome). o.memory) whole);
    }
