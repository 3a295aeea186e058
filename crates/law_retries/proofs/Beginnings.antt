-- Where an attempt begins: after an Enable, a Request or a Start-Over that was taken as an opcode, since each puts the checksum to 0 and levels the totals; and
-- after the answered start unit, since from the opening on the checksum is 0 and the totals stand at their mark until an opcode is acknowledged. What a session
-- has gathered is as it must be, since units keep it so, whatever memory is lent to them.
use Prim.Native.Nat.{ℕ, ◌+◌, ◌-◌, ◌%◌, ◌^◌, ◌<◌}
use mathlib.Core.Bool.{Bool, true, false, not, ◌&&◌, ◌||◌, or-true, and-false, false≢true}
use mathlib.Core.List.{List, [], ◌∷◌}
use mathlib.Core.Logic.{◌≢◌}
use mathlib.Core.Path.{◌≡◌, refl, sym, ap, ap₂, subst, ◌∙◌}
use native.Mathlib.Omega.{arith}
use lib.Dec.{eqb, lit<}
use lib.ListN.{length, get_or}
use borrow.Author.Tests.{eq-eqb, ne_eqb, eqb-true, not-true, not-false}
use Rattle.words.specs.rules.Bytes.{byte}
use Rattle.words.specs.rules.Choice.{pick}
use Rattle.words.proofs.Choice.{both, by_test, of_choice}
use Rattle.windows.specs.rules.Window.{sum_of}
use Rattle.windows.specs.declared.Window.{Window}
use Rattle.opcodes.specs.declared.Command.TheVariants as command
use Rattle.opcodes.specs.declared.Dialect.{Dialect}
use Rattle.opcodes.specs.declared.Event.TheVariants.{Nothing}
use Rattle.ledger.specs.claims.Attempts.{Level}
use Rattle.ledger.specs.rules.Totals.{turned}
use Rattle.ledger.specs.declared.Totals.{Totals}
use Rattle.ledger.proofs.Attempts.{level_there}
use Rattle.commands.specs.declared.Wrote.{Wrote}
use Rattle.sent.specs.claims.Lift.{at_word}
use Rattle.sent.specs.rules.Bus.{units_in_word, start_unit, units_of, first_unit, pushed}
use Rattle.sent.specs.rules.Feeding.{State, next, heard, fed}
use Rattle.words.specs.rules.Bytes.{AreBytes}
use Rattle.sent.specs.rules.Line.{UnitOutcome, carried, is_start, start_answer, unit_step}
use Rattle.machine_answers.specs.rules.Answers.{WordOutcome, tallied}
use Rattle.machine.specs.rules.Machine.{acknowledging, word_step}
use Rattle.sent.specs.declared.Bus.{Bus}
use Rattle.sent.specs.declared.Bus.TheVariants.{Bytes, Halves}
use Rattle.sent.specs.declared.Session.{Session}
use Rattle.machine_answers.specs.declared.Core.{Core}
use Rattle.machine_answers.specs.declared.Phase.TheVariants.{Opcode}
use Rattle.machine_answers.specs.declared.Reply.{Reply}
use Rattle.machine_answers.specs.declared.Tally.{Tally}
use Rattle.machine.proofs.Every.{every_word}
use Rattle.sent.proofs.Cases.{unit_start, unit_gathered, unit_whole}
use Rattle.sent.proofs.Gathering.{holding, bytes_again, halves_again, begins_word, inside-word}
use Rattle.sent_laws.specs.claims.Reached.{Reached, fed_reached}
use Rattle.sent_laws.proofs.Reached.{unused_level, reached_unused, stays_sound}
use Rattle.law_retries.specs.claims.Pieces.{enable_opcode, request_opcode, start_over_opcode}
use Rattle.law_retries.specs.claims.Retries.{Awaits, Begins, LentWhole, Idle, AtStart, Takes, JustAfter, after-start, after_enable, after-request}
use Rattle.law_retries.specs.claims.Retries.{after_start_over, after_request, Beginnings}
use Rattle.law_retries.proofs.Taking.{Apart, enable_row, request_row, start_over_row, running, awaiting, accepted}
use Rattle.law_retries.proofs.Taking.{no_start as no-start-unit, opcode_word}

-- the state that awaits an opcode, written out
pub awaits_awaiting : (x : State) → Awaits x
    → x ≡ awaiting x.session.core.windows x.session.core.dialect x.session.core.on x.session.core.begun x.session.core.tally
    x.memory
awaits_awaiting x b =
    λ i. record {
      session = record {
        core = record {
          windows = x.session.core.windows;
          dialect = x.session.core.dialect;
          ended = b.running i;
          on = x.session.core.on;
          begun = x.session.core.begun;
          tally = x.session.core.tally;
          stage = record { phase = b.opcode i };
        };
        line = record { started = b.started i; have = b.fresh.0 i; word = b.fresh.1 i };
      };
      memory = x.memory;
    }

-- one whose checksum is 0 and whose totals are level
rewound_begins : (windows : List Window) (dialect : Dialect) (on begun : Bool) (t : Totals) (m : List ℕ) → length m ≡ sum_of windows → AreBytes m → Level t
    → Begins (awaiting windows dialect on begun (tallied 0 t) m)
rewound_begins windows dialect on begun t m lent are level =
    record {
      awaits = record { running = refl; lent = lent; bytes = are; started = refl; fresh = (refl, refl); opcode = refl };
      rewound = refl;
      level = level;
    }

-- an opcode that leaves a checksum of 0 and these totals, and an opcode awaited
record Rewinds (k : Core) (m : List ℕ) (opcode : ℕ) (t : Totals) : Type 0 where
  on : Bool
  reply : Reply
  wrote : Wrote
  gives : word_step k m opcode ≡ accepted reply Nothing (running k.windows k.dialect on true (tallied 0 t) Opcode) wrote m

-- a core that awaits one, written out
core_awaiting : (k : Core) → k.ended ≡ false → k.stage.phase ≡ Opcode → k ≡ running k.windows k.dialect k.on k.begun k.tally Opcode
core_awaiting k runs awaited =
    λ i. record {
      windows = k.windows;
      dialect = k.dialect;
      ended = runs i;
      on = k.on;
      begun = k.begun;
      tally = k.tally;
      stage = record { phase = awaited i };
    }

module _ (bus : Bus) (k : Core) (m : List ℕ) (runs : k.ended ≡ false) (awaited : k.stage.phase ≡ Opcode) (lent : length m ≡ sum_of k.windows) where
  as_awaiting : (opcode : ℕ) {o : WordOutcome} → word_step (running k.windows k.dialect k.on k.begun k.tally Opcode) m opcode ≡ o
      → word_step k m opcode ≡ o
  as_awaiting opcode e = ap (λ (c : Core). word_step c m opcode) (core_awaiting k runs awaited) ∙ e

  -- each of the three
  enable_rewinds : Rewinds k m enable_opcode (turned command.Enable k.tally.totals)
  unfolding pick acknowledging byte
  enable_rewinds =
      record {
        on = true;
        reply = _;
        wrote = _;
        gives = as_awaiting enable_opcode (opcode_word bus _ _ _ _ _ m lent enable_opcode command.Enable (enable_row _) refl);
      }

  request_rewinds : Rewinds k m request_opcode (turned command.Request k.tally.totals)
  unfolding pick acknowledging byte
  request_rewinds =
      record {
        on = k.on;
        reply = _;
        wrote = _;
        gives = as_awaiting request_opcode (opcode_word bus _ _ _ _ _ m lent request_opcode command.Request (request_row _) refl);
      }

  start_over_rewinds : Rewinds k m start_over_opcode (turned command.StartOver k.tally.totals)
  unfolding pick acknowledging byte
  start_over_rewinds =
      record {
        on = k.on;
        reply = _;
        wrote = _;
        gives = as_awaiting start_over_opcode (opcode_word bus _ _ _ _ _ m lent start_over_opcode command.StartOver (start_over_row _) refl);
      }

-- units are gathered before the last one
some_gathered : (bus : Bus) (have : ℕ) → have ≡ units_in_word bus - 1 → eqb have 0 ≡ false
some_gathered Bytes have e = ne_eqb have 0 (λ z. omega (arith, e, z))
some_gathered Halves have e = ne_eqb have 0 (λ z. omega (arith, e, z))

-- a unit that ends its word
module _ (bus : Bus) (s : Session) (m : List ℕ) (u : ℕ) (reached : Reached bus s) where
  module _ {opcode : ℕ} (takes : Takes bus s m u opcode) where
    has_started : s.line.started ≡ true
    has_started =
        by_test s.line.started (λ since. since)
        (λ before.
        absurd
        (false≢true
        (sym (some_gathered bus s.line.have takes.last) ∙ eq-eqb s.line.have 0 ((stays_sound bus s reached).unstarted before).0)))

    no_start : is_start bus s u ≡ false
    unfolding is_start
    no_start =
        ap₂ (λ (since none : Bool). eqb u (start_unit bus) && (not since || (none && not s.core.begun))) has_started
        (some_gathered bus s.line.have takes.last)
        ∙ and-false (eqb u (start_unit bus))

    -- the session that it leaves
    taken_leads : {t : Totals} (rewinds : Rewinds s.core m opcode t)
        → (unit_step bus s m u).answer.session
        ≡ (awaiting s.core.windows s.core.dialect rewinds.on true (tallied 0 t) m).session
    unfolding carried pick
    taken_leads {t} rewinds =
        ap (λ (o : UnitOutcome). o.answer.session)
        (unit_whole bus s m u takes.running takes.lent no_start has_started (omega (arith, takes.last))
        ∙ ap (λ (w : ℕ). carried s (word_step s.core m w)) takes.whole ∙ ap (carried s) rewinds.gives)
        ∙ ap (λ (since : Bool). record {
          core = running s.core.windows s.core.dialect rewinds.on true (tallied 0 t) Opcode;
          line = record { started = since; have = 0; word = 0 };
        })
        has_started

    -- so an attempt may begin there, on whatever memory
    taken_begins : (t : Totals) → Level t → Rewinds s.core m opcode t → (own : List ℕ)
        → LentWhole (record { session = (unit_step bus s m u).answer.session; memory = own })
        → Begins (record { session = (unit_step bus s m u).answer.session; memory = own })
    taken_begins t level rewinds own whole =
        let leads = taken_leads rewinds in
        subst (λ (x : Session). Begins (record { session = x; memory = own })) (sym leads)
        (rewound_begins _ _ rewinds.on true t own (whole.lent ∙ ap (λ (x : Session). sum_of x.core.windows) leads) whole.bytes level)

    taken_asked : (t : Totals) → Rewinds s.core m opcode t → (unit_step bus s m u).answer.session.core.tally.totals.asked ≡ t.asked
    taken_asked t rewinds = ap (λ (x : Session). x.core.tally.totals.asked) (taken_leads rewinds)

-- a unit that is the start unit, in a running session on memory of its map's length
record StartUnit (bus : Bus) (x : State) (u : ℕ) : Type 0 where
  running : x.session.core.ended ≡ false
  lent : length x.memory ≡ sum_of x.session.core.windows
  start : is_start bus x.session u ≡ true

-- no answer of whole words is as long as its answer
not_silence : (bus : Bus) → 0 ≡ (start_answer bus).count → ⊥
unfolding start_answer
not_silence Bytes z = omega (arith, z)
not_silence Halves z = omega (arith, z)

not_words : (bus : Bus) (n : ℕ) → n % 4 ≡ 0 → n ≡ (start_answer bus).count → ⊥
unfolding start_answer
not_words Bytes n e z = omega (arith, e, z)
not_words Halves n e z = omega (arith, e, z)

-- so every unit that is answered by as many bytes is one
abbrev StartUnitIf : Bus → State → ℕ → UnitOutcome → Type 0
StartUnitIf bus x u o = o.answer.reply.count ≡ (start_answer bus).count → StartUnit bus x u

answered_start : (bus : Bus) (x : State) (u : ℕ) → (heard bus x u).reply.count ≡ (start_answer bus).count → StartUnit bus x u
unfolding unit_step carried
answered_start bus x u =
    of_choice (StartUnitIf bus x u) _ (λ h z. absurd (not_silence bus z))
    (λ running. of_choice (StartUnitIf bus x u) _ (λ h z. absurd (not_silence bus z))
    (λ lent. of_choice (StartUnitIf bus x u) _ (λ start z. record { running = running; lent = eqb-true _ _ (not-false _ lent); start = start })
    (λ h. of_choice (StartUnitIf bus x u) _ (λ h z. absurd (not_silence bus z))
    (λ h. of_choice (StartUnitIf bus x u) _ (λ h z. absurd (not_silence bus z))
    (λ h z. absurd (not_words bus _ (every_word x.session.core x.memory _).words z))))))

-- what a start unit that is answered says of the line: it was never started, or is at a word's beginning before an opcode is acknowledged
at-word : (started begun : Bool) (have : ℕ) → (not started || (eqb have 0 && not begun)) ≡ true → (started ≡ false → (have ≡ 0) × (begun ≡ false))
    → (have ≡ 0) × (begun ≡ false)
at-word false begun have e unstarted = unstarted refl
at-word true begun have e unstarted = let parts = both (eqb have 0) (not begun) e in (eqb-true have 0 parts.0, not-true begun parts.1)

module _ (bus : Bus) (x : State) (reached : Reached bus x.session) where
  -- an idle session awaits an opcode
  reached_awaits : LentWhole x → Idle x → Awaits x
  reached_awaits whole idle =
      record {
        running = idle.running;
        lent = whole.lent;
        bytes = whole.bytes;
        started = idle.started;
        fresh = (idle.fresh, (stays_sound bus x.session reached).gathered idle.fresh);
        opcode = idle.opcode;
      }

  -- the start unit is answered
  start_answered : length x.memory ≡ sum_of x.session.core.windows → AtStart x → (heard bus x (start_unit bus)).reply ≡ start_answer bus
  unfolding is_start
  start_answered lent at =
      ap (λ (o : UnitOutcome). o.answer.reply)
      (unit_start bus x.session x.memory (start_unit bus) at.running lent
      (ap (λ (t : Bool). t && (not x.session.line.started || (eqb x.session.line.have 0 && not x.session.core.begun)))
      (eq-eqb (start_unit bus) (start_unit bus) refl)
      ∙ ap₂ (λ (e g : Bool). not x.session.line.started || (e && not g)) (eq-eqb x.session.line.have 0 at.fresh) at.before
      ∙ or-true (not x.session.line.started)))

  module _ (u : ℕ) (answered : (heard bus x u).reply ≡ start_answer bus) where
    start-unit : StartUnit bus x u
    start-unit = answered_start bus x u (ap (λ (reply : Reply). reply.count) answered)

    only_start : (u ≡ start_unit bus) × (length x.memory ≡ sum_of x.session.core.windows) × AtStart x
    unfolding is_start
    only_start =
        let parts = both (eqb u (start_unit bus)) _ start-unit.start in
        let word =
        at-word x.session.line.started x.session.core.begun x.session.line.have parts.1
        (stays_sound bus x.session reached).unstarted in (
          eqb-true u (start_unit bus) parts.0,
          start-unit.lent,
          record { running = start-unit.running; before = word.1; fresh = word.0 },
        )

    start_begins : (own : List ℕ) → LentWhole (record { session = (unit_step bus x.session x.memory u).answer.session; memory = own })
        → Begins (record { session = (unit_step bus x.session x.memory u).answer.session; memory = own })
    start_begins own whole =
        let sound = stays_sound bus x.session reached in
        let at = only_start.2 in
        let was = sound.unbegun at.before in
        let leads =
        ap (λ (o : UnitOutcome). o.answer.session)
        (unit_start bus x.session x.memory u start-unit.running start-unit.lent start-unit.start) in
        subst (λ (s : Session). Begins (record { session = s; memory = own })) (sym leads)
        (record {
          awaits = record {
            running = at.running;
            lent = whole.lent ∙ ap (λ (s : Session). sum_of s.core.windows) leads;
            bytes = whole.bytes;
            started = refl;
            fresh = (at.fresh, sound.gathered at.fresh);
            opcode = was.1;
          };
          rewound = ap (λ (t : Tally). t.checksum) was.0 ∙ (reached_unused reached).checksum;
          level = subst Level (sym (ap (λ (t : Tally). t.totals) was.0)) (unused_level _ (reached_unused reached));
        })

    start_asked : (unit_step bus x.session x.memory u).answer.session.core.tally.totals.asked ≡ false
    start_asked =
        ap (λ (o : UnitOutcome). o.answer.session.core.tally.totals.asked)
        (unit_start bus x.session x.memory u start-unit.running start-unit.lent start-unit.start)
        ∙ ap (λ (t : Tally). t.totals.asked) ((stays_sound bus x.session reached).unbegun only_start.2.before).0
        ∙ (reached_unused reached).unasked

-- the units of a word but the last, and that one
abbrev first_ones : Bus → ℕ → List ℕ
first_ones Bytes word = byte word 0 ∷ byte word 1 ∷ byte word 2 ∷ []
first_ones Halves word = first_unit Halves word ∷ []

abbrev last_one : Bus → ℕ → ℕ
last_one bus word = get_or (units_of bus word) (units_in_word bus - 1) 0

module _ (k : Core) (m : List ℕ) (runs : k.ended ≡ false) (lent : length m ≡ sum_of k.windows) where
  -- one more is gathered
  gathers : (bus : Bus) (have part u : ℕ) → have < units_in_word bus - 1 → is_start bus (holding k have part m).session u ≡ false
      → next bus (holding k have part m) u ≡ holding k (have + 1) (pushed bus part u) m
  gathers bus have part u few other =
      ap (λ (o : UnitOutcome). record { session = o.answer.session; memory = o.memory })
      (unit_gathered bus (holding k have part m).session m u runs lent other refl few)

  -- all but the last, which makes the word
  gathered_first : (bus : Bus) (word : ℕ) → word < 2 ^ 32 → first_unit bus word ≢ start_unit bus
      → (part : ℕ) × (fed bus (at_word k m) (first_ones bus word) ≡ holding k (units_in_word bus - 1) part m) × (pushed bus part (last_one bus word) ≡ word)
  unfolding fed
  gathered_first Bytes word small plain = (
    pushed Bytes (pushed Bytes (pushed Bytes 0 (byte word 0)) (byte word 1)) (byte word 2),
    ap (λ (y : State). fed Bytes y (byte word 1 ∷ byte word 2 ∷ []))
        (gathers Bytes 0 0 (byte word 0) (lit< tt) (begins_word Bytes k m _ (λ e. plain)))
        ∙ ap (λ (y : State). fed Bytes y (byte word 2 ∷ [])) (gathers Bytes 1 _ (byte word 1) (lit< tt) (inside-word Bytes k m 1 _ _ refl))
        ∙ gathers Bytes 2 _ (byte word 2) (lit< tt) (inside-word Bytes k m 2 _ _ refl),
    bytes_again word small,
  )
  gathered_first Halves word small plain = (
    pushed Halves 0 (first_unit Halves word),
    gathers Halves 0 0 (first_unit Halves word) (lit< tt) (begins_word Halves k m _ (λ e. plain)),
    halves_again word,
  )

-- so an opcode that is sent whole is taken at its last unit
module _ (bus : Bus) (x : State) (awaits : Awaits x) (opcode : ℕ) (apart : Apart opcode) where
  whole_takes : Takes bus (fed bus x (first_ones bus opcode)).session (fed bus x (first_ones bus opcode)).memory (last_one bus opcode) opcode
  whole_takes =
      let core = x.session.core in
      let k : Core = running core.windows core.dialect core.on core.begun core.tally Opcode in
      let first = gathered_first k x.memory refl awaits.lent bus opcode apart.small (no-start-unit bus apart) in
      subst (λ (y : State). Takes bus y.session y.memory (last_one bus opcode) opcode)
      (sym (ap (λ (y : State). fed bus y (first_ones bus opcode)) (awaits_awaiting x awaits) ∙ first.1))
      (record { running = refl; lent = awaits.lent; awaited = refl; last = refl; whole = first.2 })

whole_after : (bus : Bus) (x : State) (opcode : ℕ) → Reached bus x.session → Awaits x → Apart opcode
    → ((s : Session) (m : List ℕ) (u : ℕ) → Reached bus s → Takes bus s m u opcode → JustAfter bus (unit_step bus s m u).answer.session)
    → JustAfter bus (fed bus x (units_of bus opcode)).session
unfolding fed
whole_after Bytes x opcode reached awaits apart just =
    just _ (fed Bytes x (first_ones Bytes opcode)).memory (last_one Bytes opcode) (fed_reached Bytes x (first_ones Bytes opcode) reached)
    (whole_takes Bytes x awaits opcode apart)
whole_after Halves x opcode reached awaits apart just =
    just _ (fed Halves x (first_ones Halves opcode)).memory (last_one Halves opcode) (fed_reached Halves x (first_ones Halves opcode) reached)
    (whole_takes Halves x awaits opcode apart)

sent_whole : (bus : Bus) (x : State) → Reached bus x.session → Awaits x
    → JustAfter bus (fed bus x (units_of bus enable_opcode)).session × JustAfter bus (fed bus x (units_of bus request_opcode)).session
    × JustAfter bus (fed bus x (units_of bus start_over_opcode)).session
unfolding byte
sent_whole bus x reached awaits = (
  whole_after bus x enable_opcode reached awaits (record { small = lit< tt; no_byte = refl; no_half = refl }) (λ s m u r takes. after_enable m u r takes),
  whole_after bus x request_opcode reached awaits (record { small = lit< tt; no_byte = refl; no_half = refl }) (λ s m u r takes. after-request m u r takes),
  whole_after bus x start_over_opcode reached awaits (record { small = lit< tt; no_byte = refl; no_half = refl })
      (λ s m u r takes. after_start_over m u r takes),
)

just_after_begins : (bus : Bus) (s : Session) (own : List ℕ) → JustAfter bus s → LentWhole (record { session = s; memory = own })
    → Begins (record { session = s; memory = own })
just_after_begins bus t own (after-start {s} m u reached answered) whole =
    start_begins bus (record { session = s; memory = m }) reached u answered own whole
just_after_begins bus t own (after_enable {s} m u reached takes) whole =
    taken_begins bus s m u reached takes _ (level_there.after_enable s.core.tally.totals)
    (enable_rewinds bus s.core m takes.running takes.awaited takes.lent) own whole
just_after_begins bus t own (after-request {s} m u reached takes) whole =
    taken_begins bus s m u reached takes _ (level_there.after-request s.core.tally.totals)
    (request_rewinds bus s.core m takes.running takes.awaited takes.lent) own whole
just_after_begins bus t own (after_start_over {s} m u reached takes) whole =
    taken_begins bus s m u reached takes _ (level_there.after_start_over s.core.tally.totals)
    (start_over_rewinds bus s.core m takes.running takes.awaited takes.lent) own whole

just_after_asked : (bus : Bus) (s : Session) (j : JustAfter bus s) → s.core.tally.totals.asked ≡ after_request j
just_after_asked bus t (after-start {s} m u reached answered) = start_asked bus (record { session = s; memory = m }) reached u answered
just_after_asked bus t (after_enable {s} m u reached takes) =
    taken_asked bus s m u reached takes _ (enable_rewinds bus s.core m takes.running takes.awaited takes.lent)
just_after_asked bus t (after-request {s} m u reached takes) =
    taken_asked bus s m u reached takes _ (request_rewinds bus s.core m takes.running takes.awaited takes.lent)
just_after_asked bus t (after_start_over {s} m u reached takes) =
    taken_asked bus s m u reached takes _ (start_over_rewinds bus s.core m takes.running takes.awaited takes.lent)

pub beginnings : (bus : Bus) → Beginnings bus
beginnings bus =
    record {
      begins = λ x j whole. just_after_begins bus x.session x.memory j whole;
      sent_whole = λ x reached whole idle. sent_whole bus x reached (reached_awaits bus x reached whole idle);
      unsettled = just_after_asked bus;
      awaits = reached_awaits bus;
      answered = start_answered bus;
      only_there = λ x u reached answered. only_start bus x reached u answered;
    }
