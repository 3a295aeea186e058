-- The replies to units fit the room, on either line: each unit fed pays for `unit_room` bytes, what is gathered of a word is not yet spent, a start unit takes
-- no more than it pays, and a whole word at most the eight bytes that all its units paid for.
use Prim.Native.Nat.{ℕ, suc, ◌+◌, ◌-◌, ◌*◌, ◌≤◌}
use mathlib.Core.List.{List, [], ◌∷◌}
use mathlib.Core.Path.{◌≡◌, refl, ap}
use native.Mathlib.Omega.{arith}
use borrow.Author.Tests.{ltb-false, eqb-false}
use lib.ListN.{length, length-append, length-take}
use Rattle.words.proofs.Choice.{of_choice}
use Rattle.windows.specs.declared.Window.{Window}
use Rattle.sent.specs.rules.Bus.{units_in_word, pushed}
use Rattle.sent.specs.rules.Feeding.{State, next, heard, answers, replied}
use Rattle.machine.specs.claims.Every.{EveryWord}
use Rattle.sent.specs.rules.Line.{UnitOutcome, carried, unit_step}
use Rattle.machine_answers.specs.rules.Answers as machine
use Rattle.opcodes.specs.declared.Dialect.{Dialect}
use Rattle.sent.specs.rules.Opening.{greeting, opened_by, numbering_from}
use Rattle.machine_answers.specs.rules.Replies.{silence, sent_bytes}
use Rattle.sent.specs.rules.Line.{start_answer}
use Rattle.sent.specs.declared.Bus.{Bus}
use Rattle.sent.specs.declared.Bus.TheVariants.{Bytes, Halves}
use Rattle.machine_answers.specs.declared.Core.{Core}
use Rattle.sent.specs.declared.Line.{Line}
use Rattle.sent.specs.declared.Opened.{Opened}
use Rattle.machine_answers.specs.declared.Reply.{Reply}
use Rattle.sent.specs.declared.Session.{Session}
use Rattle.machine.proofs.Every.{every_word}
use Rattle.bench_sessions.specs.rules.Feeding.{most_fed, opening_room, unit_room}

-- a reply has no more bytes than its count
short_reply : (r : Reply) (n : ℕ) → r.count ≤ n → length (sent_bytes r) ≤ n
short_reply r n h = omega (arith, length-take r.count r.bytes)

-- the start unit's answer, and a whole word's reply, are paid for
start_paid : (bus : Bus) → length (sent_bytes (start_answer bus)) ≤ unit_room bus
unfolding start_answer
start_paid Bytes = omega arith
start_paid Halves = omega arith

word_paid : (bus : Bus) (have bytes : ℕ) → units_in_word bus - 1 ≤ have → bytes ≤ 8 → bytes ≤ unit_room bus * have + unit_room bus
word_paid Bytes have bytes whole most = omega arith
word_paid Halves have bytes whole most = omega arith

pub one_more : (bus : Bus) (have : ℕ) → unit_room bus * (have + 1) ≡ unit_room bus * have + unit_room bus
one_more Bytes have = omega arith
one_more Halves have = omega arith

pub nothing_held : (bus : Bus) → unit_room bus * 0 ≡ 0
nothing_held Bytes = refl
nothing_held Halves = refl

-- fewer units need no more room, and as many as are fed at most need a number of 32 bits
pub room_left : (bus : Bus) (i n : ℕ) → i ≤ n → unit_room bus * i ≤ unit_room bus * n
room_left Bytes i n h = omega arith
room_left Halves i n h = omega arith

pub room_small : (bus : Bus) (n : ℕ) → n ≤ most_fed → opening_room bus + unit_room bus * n ≤ 262144
room_small Bytes n h = omega arith
room_small Halves n h = omega arith

module _ (bus : Bus) (s : Session) where
  -- the unit fed, and each that was gathered, pay for the reply and for what is gathered now
  abbrev Pays : UnitOutcome → Type 0
  Pays o = length (sent_bytes o.answer.reply) + unit_room bus * o.answer.session.line.have ≤ unit_room bus * s.line.have + unit_room bus

  carried_pays : (k : Core) (m : List ℕ) (o : machine.WordOutcome) → EveryWord k m o → units_in_word bus - 1 ≤ s.line.have → Pays (carried s o)
  unfolding carried
  carried_pays k m o every whole =
      of_choice (λ (l : Line). length (sent_bytes o.answer.reply) + unit_room bus * l.have ≤ unit_room bus * s.line.have + unit_room bus) _
      (λ e. omega (
        arith,
        nothing_held bus,
        word_paid bus s.line.have o.answer.reply.count whole every.most,
        short_reply o.answer.reply _ every.most,
        length-take o.answer.reply.count o.answer.reply.bytes,
      ))
      (λ e. omega (arith, every.silenced (eqb-false _ _ e), length-take o.answer.reply.count o.answer.reply.bytes))

  pub step_pays : (m : List ℕ) (u : ℕ) → Pays (unit_step bus s m u)
  unfolding unit_step
  step_pays m u =
      of_choice Pays _ (λ e. omega arith)
      (λ e. of_choice Pays _ (λ e. omega arith)
      (λ e. of_choice Pays _ (λ e. omega (arith, start_paid bus))
      (λ e. of_choice Pays _ (λ e. omega arith)
      (λ e. of_choice Pays _ (λ e. omega (arith, one_more bus s.line.have))
      (λ whole. carried_pays s.core m _ (every_word s.core m (pushed bus s.line.word u)) (ltb-false _ _ whole))))))

next_number : (n : ℕ) → suc n ≡ n + 1
next_number n = omega arith

-- all replies to units that are fed
pub replies_fit : (bus : Bus) (x : State) (units : List ℕ)
    → length (replied (answers bus x units)) ≤ unit_room bus * x.session.line.have + unit_room bus * length units
unfolding answers replied
replies_fit bus x [] = omega (arith, nothing_held bus)
replies_fit bus x (u ∷ units) =
    omega (
      arith,
      length-append (sent_bytes (heard bus x u).reply) (replied (answers bus (next bus x u) units)),
      step_pays bus x.session x.memory u,
      one_more bus (length units),
      ap (λ (n : ℕ). unit_room bus * n) (next_number (length units)),
      replies_fit bus (next bus x u) units,
    )

-- an opening has gathered nothing, and its reply is at most BOOTME, or nothing
greeting_fits : (bus : Bus) → length (sent_bytes (greeting bus)) ≤ opening_room bus
greeting_fits Bytes = omega arith
greeting_fits Halves = omega arith

silence_fits : (bus : Bus) → length (sent_bytes silence) ≤ opening_room bus
silence_fits Bytes = omega arith
silence_fits Halves = omega arith

-- nothing gathered, and a reply for which there is room
abbrev Idle : Bus → Opened → Type 0
Idle bus o = (o.session.line.have ≡ 0) × (length (sent_bytes o.reply) ≤ opening_room bus)

pub opened_idle : (bus : Bus) (dialect : Dialect) (count : ℕ) (windows : List Window) → Idle bus (opened_by bus dialect count windows)
unfolding opened_by
opened_idle bus dialect count windows = of_choice (Idle bus) _ (λ e. (refl, silence_fits bus)) (λ e. (refl, greeting_fits bus))

-- so has one whose commands are numbered
kept_idle : (bus : Bus) (o : Opened) → Idle bus o → Idle bus (numbering_from o)
unfolding numbering_from
kept_idle bus o idle = of_choice (Idle bus) _ (λ e. idle) (λ e. idle)

pub numbered_idle : (bus : Bus) (dialect : Dialect) (count : ℕ) (windows : List Window) → Idle bus (numbering_from (opened_by bus dialect count windows))
numbered_idle bus dialect count windows = kept_idle bus _ (opened_idle bus dialect count windows)
