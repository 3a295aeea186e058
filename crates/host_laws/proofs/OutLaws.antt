-- The laws of what goes out: after the right answer a turn that is accepted is a row of the table, any other sends nothing or what its wait repeats; and the
-- only row that begins to wait for an opcode has its command stand there.
use Prim.Native.Nat.{ℕ}
use mathlib.Core.Bool.{true, false, true≢false}
use mathlib.Core.List.{List}
use mathlib.Core.Logic.{◌⊎◌, inl, inr}
use mathlib.Core.Path.{◌≡◌, refl, sym, ◌∙◌}
use Rattle.words.proofs.Choice.{of_choice}
use Rattle.opcodes.specs.rules.Answers.{accepted}
use Rattle.host_laws.specs.claims.Looks.{right_answer, repeated}
use Rattle.host_laws.specs.claims.Outgoing.{Begins, Next, begins, moves, starts_over, closed, closes, done}
use Rattle.host_laws.specs.claims.Outgoing.{greeted, started, pinged, echoed, echoed_last, met}
use Rattle.host_laws.specs.claims.Outgoing.{into, WhatFollows, RepeatsWhatBegan, GoesOut, nothing, again, next, WhatGoesOut}
use Rattle.host_laws.specs.claims.Outgoing.{AwaitsIn, Awaits, AwaitsWhatStands}
use Rattle.host_answers.specs.declared.Host.{Host}
use Rattle.host_answers.specs.declared.Sending.{Sending}
use Rattle.host_answers.specs.declared.Sending.TheVariants.{Nothing}
use Rattle.host_answers.specs.declared.Turned.{Turned}
use Rattle.host_answers.specs.declared.Wait.{Wait}
use Rattle.host_laws.proofs.TurnCases.{Looked, twenty, goes_on, goes, refuses, no_retry, no_seek, Way, over, another, looks, way}

module _ {h : Host} {image : List ℕ} where
  looked_next : {before : Wait} {t : Turned} → Looked h image before t → accepted t.refusal ≡ true → right_answer before h image ≡ true
      → Next h image before t.host t.sending
  looked_next (twenty failed same) fine right = absurd (true≢false (sym fine))
  looked_next (goes_on wrong more same left) fine right = absurd (true≢false (sym right ∙ wrong))
  looked_next (goes heard row) fine right = row
  looked_next (refuses heard same plain) fine right = absurd (true≢false (sym fine ∙ plain.not_0))
  looked_next (no_retry heard other none) fine right = absurd (true≢false (sym fine))
  looked_next (no_seek heard other left lost) fine right = absurd (true≢false (sym fine))

  way_next : {t : Turned} → Way h image t → accepted t.refusal ≡ true → right_answer h.stage.wait h image ≡ true
      → Next h image h.stage.wait t.host t.sending
  way_next (over ended idle) fine right = absurd (true≢false (sym fine))
  way_next (another running other idle) fine right = absurd (true≢false (sym fine))
  way_next (looks running lent turn look) fine right = looked_next look fine right

  looked_out : {t : Turned} → Looked h image h.stage.wait t → GoesOut h image h.stage.wait t.host t.sending
  looked_out (twenty failed same) = nothing
  looked_out (goes_on wrong more same left) = of_choice (GoesOut h image h.stage.wait _) h.ear.fresh (λ e. nothing) (λ e. again refl)
  looked_out (goes heard row) = next heard.right row
  looked_out (refuses heard same plain) = nothing
  looked_out (no_retry heard other none) = nothing
  looked_out (no_seek heard other left lost) = nothing

  way_out : {t : Turned} → Way h image t → GoesOut h image h.stage.wait t.host t.sending
  way_out (over ended idle) = nothing
  way_out (another running other idle) = nothing
  way_out (looks running lent turn look) = looked_out look

pub what_follows : WhatFollows
what_follows h image = way_next (way h image)

module _ {h : Host} {image : List ℕ} where
  begins_repeats : {before after : Wait} {out : Sending} → Begins h image before after out
      → (repeated after (into h after) image ≡ Nothing) ⊎ (repeated after (into h after) image ≡ out)
  begins_repeats greeted = inr refl
  begins_repeats started = inr refl
  begins_repeats pinged = inl refl
  begins_repeats (echoed more) = inl refl
  begins_repeats (echoed_last last) = inl refl
  begins_repeats (met stands sent) = inr refl

  next_repeats : {before : Wait} {g : Host} {out : Sending} → Next h image before g out → g.ended ≡ false
      → (repeated g.stage.wait g image ≡ Nothing) ⊎ (repeated g.stage.wait g image ≡ out)
  next_repeats (begins row) running = begins_repeats row
  next_repeats (moves row) running = inl refl
  next_repeats (starts_over other left led) running = inr refl
  next_repeats (closed words shuts dialect) running = inl refl
  next_repeats (closes words shuts dialect) running = inl refl
  next_repeats done running = absurd (true≢false running)

pub repeats_what_began : RepeatsWhatBegan
repeats_what_began h image fine right = next_repeats (what_follows h image fine right)

pub what_goes_out : WhatGoesOut
what_goes_out h image = way_out (way h image)

module _ {h : Host} {image : List ℕ} where
  begins_awaits : {before after : Wait} {out : Sending} → Begins h image before after out → AwaitsIn after h.dialect h.offset image
  begins_awaits greeted = tt
  begins_awaits started = tt
  begins_awaits pinged = tt
  begins_awaits (echoed more) = tt
  begins_awaits (echoed_last last) = tt
  begins_awaits (met stands sent) = (stands, sent)

  next_awaits : {before : Wait} {g : Host} {out : Sending} → Next h image before g out → Awaits h image → Awaits g image
  next_awaits (begins row) before = begins_awaits row
  next_awaits (moves row) before = tt
  next_awaits (starts_over other left led) before = tt
  next_awaits (closed words shuts dialect) before = tt
  next_awaits (closes words shuts dialect) before = tt
  next_awaits done before = before

  looked_awaits : {before : Wait} {t : Turned} → Looked h image before t → Awaits h image → Awaits t.host image
  looked_awaits (twenty failed same) before = before
  looked_awaits (goes_on wrong more same left) before = before
  looked_awaits (goes heard row) before = next_awaits row before
  looked_awaits (refuses heard same plain) before = before
  looked_awaits (no_retry heard other none) before = before
  looked_awaits (no_seek heard other left lost) before = before

  way_awaits : {t : Turned} → Way h image t → Awaits h image → Awaits t.host image
  way_awaits (over ended idle) before = before
  way_awaits (another running other idle) before = before
  way_awaits (looks running lent turn look) before = looked_awaits look before

pub awaits_what_stands : AwaitsWhatStands
awaits_what_stands h image = way_awaits (way h image)
