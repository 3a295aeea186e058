-- Units fed one after the other: what holds of two stretches, holds of both together, by induction over the first.
use Prim.Native.Nat.{ℕ, zero, suc}
use mathlib.Core.List.{List, [], ◌∷◌, ◌++◌, map, append_assoc}
use mathlib.Core.Path.{◌≡◌, refl, sym, ap, subst, ◌∙◌}
use lib.ListN.{length, replicate}
use Rattle.opcodes.specs.rules.Answers.{told}
use Rattle.opcodes.specs.declared.Event.{Event}
use Rattle.opcodes.specs.rules.Refusals.{Verdict}
use Rattle.opcodes.specs.rules.Refusals.{None}
use Rattle.machine_answers.specs.rules.Replies.{sent_bytes}
use Rattle.sent.specs.rules.Bus.{units_of, all_units}
use Rattle.sent.specs.rules.Feeding.{State, Heard, next, heard, fed, answers, replied, events_heard, NoneRefused}
use Rattle.sent.specs.claims.Lift.{refused_by}
use Rattle.sent.specs.rules.Line.{UnitOutcome, unit_step}
use Rattle.sent.specs.declared.Bus.{Bus}

module _ (bus : Bus) where
  pub fed_append : (x : State) (us vs : List ℕ) → fed bus x (us ++ vs) ≡ fed bus (fed bus x us) vs
  unfolding fed
  fed_append x [] vs = refl
  fed_append x (u ∷ us) vs = fed_append (next bus x u) us vs

  pub answers_append : (x : State) (us vs : List ℕ) → answers bus x (us ++ vs) ≡ answers bus x us ++ answers bus (fed bus x us) vs
  unfolding answers fed
  answers_append x [] vs = refl
  answers_append x (u ∷ us) vs = ap (λ hs. heard bus x u ∷ hs) (answers_append (next bus x u) us vs)

  -- where none of two stretches is refused, none of either is
  pub none_refused_append : (x : State) (us vs : List ℕ) → NoneRefused bus x (us ++ vs) → NoneRefused bus x us × NoneRefused bus (fed bus x us) vs
  unfolding NoneRefused fed
  none_refused_append x [] vs n = (tt, n)
  none_refused_append x (u ∷ us) vs n =
      let parts = none_refused_append (next bus x u) us vs n.1 in
      ((n.0, parts.0), parts.1)

  -- where all that is heard is no refusal
  pub none_refused_by : (x : State) (us : List ℕ) → map (λ (h : Heard). h.refusal) (answers bus x us) ≡ replicate (length us) None
      → NoneRefused bus x us
  unfolding NoneRefused answers
  none_refused_by x [] e = tt
  none_refused_by x (u ∷ us) e = (cc, none_refused_by (next bus x u) us (cc))

-- replies and events of two stretches
pub replied_append : (hs gs : List Heard) → replied (hs ++ gs) ≡ replied hs ++ replied gs
unfolding replied
replied_append [] gs = refl
replied_append (h ∷ hs) gs = ap (λ (l : List ℕ). sent_bytes h.reply ++ l) (replied_append hs gs) ∙ sym (append_assoc (sent_bytes h.reply) _ _)

pub events_append : (hs gs : List Heard) → events_heard (hs ++ gs) ≡ events_heard hs ++ events_heard gs
unfolding events_heard
events_append [] gs = refl
events_append (h ∷ hs) gs = ap (λ (l : List Event). told h.event ++ l) (events_append hs gs) ∙ sym (append_assoc (told h.event) _ _)

-- those of units that are all refused
pub none_replied : (q : Verdict) (n : ℕ) → replied (replicate n (refused_by q)) ≡ []
unfolding replied
none_replied q zero = refl
none_replied q (suc n) = none_replied q n

pub none_told : (q : Verdict) (n : ℕ) → events_heard (replicate n (refused_by q)) ≡ []
unfolding events_heard
none_told q zero = refl
none_told q (suc n) = none_told q n

-- units lead from one state to another, and this is heard of them
pub record Goes (bus : Bus) (x : State) (us : List ℕ) (y : State) (hs : List Heard) : Type 0 where
  pub leads : fed bus x us ≡ y
  pub says : answers bus x us ≡ hs

pub nothing_goes : (bus : Bus) (x : State) → Goes bus x [] x []
unfolding fed answers
nothing_goes bus x = record { leads = refl; says = refl }

infixr 5 ◌then◌
pub ◌then◌ : {bus : Bus} {x y z : State} {us vs : List ℕ} {hs gs : List Heard} → Goes bus x us y hs → Goes bus y vs z gs
    → Goes bus x (us ++ vs) z (hs ++ gs)
◌then◌ {bus} {x} {y} {z} {us} {vs} p q =
    record {
      leads = rw (fed_append, p.leads) q.leads;
      says = rw (answers_append, p.says, p.leads, q.says) refl;
    }

pub reaching : {bus : Bus} {x y z : State} {us : List ℕ} {hs : List Heard} → Goes bus x us y hs → y ≡ z → Goes bus x us z hs
reaching p e = record { leads = p.leads ∙ e; says = p.says }

-- the units of words and more words
pub units_append : (bus : Bus) (ws vs : List ℕ) → all_units bus (ws ++ vs) ≡ all_units bus ws ++ all_units bus vs
units_append bus [] vs = refl
units_append bus (w ∷ ws) vs =
    ap (λ (us : List ℕ). units_of bus w ++ us) (units_append bus ws vs) ∙ sym (append_assoc (units_of bus w) (all_units bus ws) (all_units bus vs))

pub words_go : {bus : Bus} {x y z : State} {hs gs : List Heard} (ws vs : List ℕ)
    → Goes bus x (all_units bus ws) y hs → Goes bus y (all_units bus vs) z gs → Goes bus x (all_units bus (ws ++ vs)) z (hs ++ gs)
words_go {bus} ws vs p q = rw (units_append bus ws vs) (p then q)

pub none_refused_words : (bus : Bus) (x : State) (ws vs : List ℕ) → NoneRefused bus x (all_units bus (ws ++ vs))
    → NoneRefused bus x (all_units bus ws) × NoneRefused bus (fed bus x (all_units bus ws)) (all_units bus vs)
none_refused_words bus x ws vs n =
    none_refused_append bus x (all_units bus ws) (all_units bus vs) (subst (NoneRefused bus x) (units_append bus ws vs) n)

-- one unit
pub unit_goes : {bus : Bus} {x : State} {u : ℕ} {o : UnitOutcome} → unit_step bus x.session x.memory u ≡ o
    → Goes bus x (u ∷ []) (record { session = o.answer.session; memory = o.memory })
    (record { refusal = o.answer.refusal; reply = o.answer.reply; event = o.answer.event } ∷ [])
unfolding fed answers
unit_goes e = record { leads = rw e refl; says = rw e refl }
