-- `flash::step` meets its contract: its tests are those of the definition, in their order, and what is left is what stands at the offset.
use Rattle.flash.proofs.Cases.{call_ended, call_memory, call_image, call_read}
use Rattle.flash_session.proofs.Lengths.{image_small}
use Rattle.flash_session.specs.declared.Called.{Called}
use Rattle.flash.specs.rules.Step.{followed}
use Rattle.flash_session.specs.rules.Sessions.{CallOutcome}
use Rattle.reading.proofs.Reading.{whole_there}
use lib.ListN.{length}
use native.Mathlib.Omega.{arith}
use mathlib.Core.Path.{◌≡◌, refl, sym, ap, ◌∙◌}
use mathlib.Core.List.{List}
use Prim.Native.Nat.{ℕ}
use Rattle.flash.proofs.step.Goals as goal

told : {o p : CallOutcome} {a : Called} → o ≡ p → a ≡ p.answer → a ≡ o.answer
told e h = h ∙ sym (ap (λ (o : CallOutcome). o.answer) e)

left_in : {o p : CallOutcome} {m : List ℕ} → o ≡ p → m ≡ p.memory → m ≡ o.memory
left_in e h = h ∙ sym (ap (λ (o : CallOutcome). o.memory) e)

pub returns-then-session : goal.returns-then-session
returns-then-session c =
    let a = c.args in
    let case = call_ended a.session a.memory.now a.image.now c.if-session.true in
    record { value = told case c.keep.ensures; memory_after = left_in case refl }

pub returns-then-memory-sum : goal.returns-then-memory-sum
returns-then-memory-sum c =
    let a = c.args in
    let case = call_memory a.session a.memory.now a.image.now c.if-session.false
    (rw c.sum.ensures at c.if-memory-sum.true) in
    record { value = told case c.keep-then-memory-sum.ensures; memory_after = left_in case refl }

pub returns-then-not-is_image : goal.returns-then-not-is_image
returns-then-not-is_image c =
    let a = c.args in
    let lent = c.if-memory-sum.false ∙ c.sum.ensures in
    let unsound = sym c.is_image.ensures ∙ c.if-not-is_image.true in
    let case = call_image a.session a.memory.now a.image.now c.if-session.false lent unsound in
    record { value = told case c.keep-then-not-is_image.ensures; memory_after = left_in case refl }

pub overflow_add-next : goal.overflow_add-next
overflow_add-next c =
    let a = c.args in
    let there = whole_there a.image.now a.session.offset a.session.dialect
    (sym c.in-Ok.ensures) in
    let small = image_small (length a.image.now) a.session.length
    (sym c.is_image.ensures ∙ c.if-not-is_image.false) in
    omega (arith, there, small)

pub overflow_mul-next : goal.overflow_mul-next
overflow_mul-next c =
    let a = c.args in
    let there = whole_there a.image.now a.session.offset a.session.dialect
    (sym c.in-Ok.ensures) in
    let small = image_small (length a.image.now) a.session.length
    (sym c.is_image.ensures ∙ c.if-not-is_image.false) in
    omega (arith, there, small)

pub overflow_add-next-in-Ok : goal.overflow_add-next-in-Ok
overflow_add-next-in-Ok c =
    let a = c.args in
    let there = whole_there a.image.now a.session.offset a.session.dialect
    (sym c.in-Ok.ensures) in
    let small = image_small (length a.image.now) a.session.length
    (sym c.is_image.ensures ∙ c.if-not-is_image.false) in
    omega (arith, there, small)

pub overflow_add-known : goal.overflow_add-known
overflow_add-known c =
    let a = c.args in
    let there = whole_there a.image.now a.session.offset a.session.dialect
    (sym c.in-Ok.ensures) in
    let small = image_small (length a.image.now) a.session.length
    (sym c.is_image.ensures ∙ c.if-not-is_image.false) in
    omega (arith, there, small)

pub perform-requires : goal.perform-requires
perform-requires c =
    let a = c.args in
    let there = whole_there a.image.now a.session.offset a.session.dialect
    (sym c.in-Ok.ensures) in
    let small = image_small (length a.image.now) a.session.length
    (sym c.is_image.ensures
    ∙ c.if-not-is_image.false) in
    omega (arith, small)

pub returns-in-Err : goal.returns-in-Err
returns-in-Err c =
    let a = c.args in
    let lent = c.if-memory-sum.false ∙ c.sum.ensures in
    let sound = sym c.is_image.ensures ∙ c.if-not-is_image.false in
    let running = c.if-session.false in
    let read = sym c.in-Err.ensures in
    let case = call_read a.session a.memory.now a.image.now running lent sound
    ∙ ap (followed a.session a.memory.now a.image.now) read in
    record { value = told case (rw c.fetch.ensures at c.halt.ensures); memory_after = left_in case refl }

pub returns-in-Ok : goal.returns-in-Ok
returns-in-Ok c =
    let a = c.args in
    let lent = c.if-memory-sum.false ∙ c.sum.ensures in
    let sound = sym c.is_image.ensures ∙ c.if-not-is_image.false in
    let running = c.if-session.false in
    let read = sym c.in-Ok.ensures in
    let case = call_read a.session a.memory.now a.image.now running lent sound
    ∙ ap (followed a.session a.memory.now a.image.now) read in
    let done = rw c.fetch-fetched.ensures at c.perform.ensures in
    record { value = told case done.value; memory_after = left_in case done.memory_after }
