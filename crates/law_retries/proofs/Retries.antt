-- Demand 3. An accepted attempt leaves the session as it was, but begun and its totals settled, and only the bits that it wrote; what follows begins with an
-- opcode and writes these bits again, and what is heard of it does not depend on them.
use Prim.Native.Nat.{ℕ, ◌-◌}
use mathlib.Core.Bool.{Bool, true, false, true≢false}
use mathlib.Core.List.{List, [], ◌∷◌, ◌++◌, map, append-nil}
use mathlib.Core.Logic.{◌≢◌}
use mathlib.Core.Path.{◌≡◌, refl, sym, ap, ap₂, subst, subst₂, ◌∙◌}
use lib.Dec.{lit<}
use lib.ListN.{length, get_or, replicate}
use Rattle.words.specs.rules.Bytes.{byte}
use Rattle.words.specs.rules.Choice.{pick}
use Rattle.words.proofs.Choice.{by_test}
use Rattle.windows.specs.rules.Window.{sum_of}
use Rattle.windows.specs.declared.Window.{Window}
use Rattle.opcodes.specs.rules.Opcodes.{rows, row_serves, found_in, looked_up}
use Rattle.opcodes.specs.declared.Command.TheVariants as command
use Rattle.opcodes.specs.declared.Dialect.{Dialect}
use Rattle.opcodes.specs.declared.Dialect.TheVariants.{Am17xx, Dm648}
use Rattle.opcodes.specs.declared.Event.TheVariants.{Nothing}
use Rattle.ledger.specs.claims.Attempts.{Write, section, setting as no_section, wrote, wrote_all, Level, alone}
use Rattle.ledger.specs.rules.Totals.{would_pass, counted, is_spent, numbered, settled, turned}
use Rattle.ledger.specs.declared.Totals.{Totals}
use Rattle.ledger.proofs.Attempts.{no_total_left, level_there}
use Rattle.ledger.proofs.Laws.{settled_asks_nothing, settled_once}
use Rattle.sent.specs.rules.Bus.{units_in_word, units_of, all_units}
use Rattle.sent.specs.rules.Feeding.{State, Heard, checksum, totals, fed, answers, NoneRefused}
use Rattle.words.specs.rules.Bytes.{AreBytes}
use Rattle.machine_answers.specs.rules.Answers.{tallied}
use Rattle.machine.specs.rules.Machine.{acknowledging}
use Rattle.machine_answers.specs.rules.Replies.{silence}
use Rattle.sent.specs.declared.Bus.{Bus}
use Rattle.sent.specs.declared.Bus.TheVariants.{Bytes, Halves}
use Rattle.machine_answers.specs.declared.Reply.{Reply}
use Rattle.machine_answers.specs.declared.Tally.{Tally}
use Rattle.sent.proofs.Feeding.{answers_append, none_refused_words, units_append, fed_append, Goes, nothing_goes, ◌then◌}
use Rattle.law_retries.specs.claims.Pieces.{Piece, all_words, AllSendable, Covers, start_over_opcode}
use Rattle.law_retries.specs.claims.Retries.{after, Begins, Attempt, asking_opcode, attempt_words, attempts_words, attempts_pieces, Reports, NoTrace, Retried}
use Rattle.law_retries.specs.claims.Retries.{RetriesLeaveNoTrace, ManyRetriesLeaveNoTrace, RetriesSinceOpening}
use Rattle.law_retries.proofs.Beginnings.{awaits_awaiting, beginnings}
use Rattle.law_retries.proofs.Several.{tallies_of, memories_of, heard_all, begun_by, AllGranted, AllFit, sendable_append, granted_append, memories_append}
use Rattle.law_retries.proofs.Several.{several_length, written_over, several_go, several_accepted}
use Rattle.law_retries.proofs.Taking.{register_of, write_of, Room, tally_of, awaiting, heard_said, opcode_goes, request_goes, start_over_goes}

-- the state where an attempt begins
pub begins_awaiting : (x : State) → Begins x
    → x ≡ awaiting x.session.core.windows x.session.core.dialect x.session.core.on x.session.core.begun (tallied 0 (totals x)) x.memory
begins_awaiting x b =
    let core = x.session.core in
    awaits_awaiting x b.awaits
    ∙ ap (λ (r : ℕ). awaiting core.windows core.dialect core.on core.begun (tallied r (totals x)) x.memory) b.rewound

-- some words and then others
after_append : (bus : Bus) (x : State) (ws vs : List ℕ) → after bus x (ws ++ vs) ≡ after bus (after bus x ws) vs
after_append bus x ws vs = ap (fed bus x) (units_append bus ws vs) ∙ fed_append bus x (all_units bus ws) (all_units bus vs)

-- what any number of attempts leave: all of them granted, their last state, and totals that settle to the same
pub record Left (bus : Bus) (windows : List Window) (dialect : Dialect) (on : Bool) (attempts : List Attempt) (begun : Bool) (t : Totals) (m : List ℕ) : Type
    0 where
  pub granted : AllGranted windows (attempts_pieces attempts)
  pub later : Bool
  pub last : Totals
  pub same : settled last ≡ settled t
  pub leads : after bus (awaiting windows dialect on begun (tallied 0 t) m) (attempts_words attempts)
      ≡ awaiting windows dialect on later (tallied 0 last) (memories_of windows (attempts_pieces attempts) m)

-- to the totals, the commands of an attempt
abbrev writes_of : List Piece → List Write
writes_of pieces = map write_of pieces

tallies_totals : (dialect : Dialect) (on : Bool) (cs : List Piece) (tally : Tally)
    → (tallies_of dialect on cs tally).totals ≡ wrote_all dialect tally.totals (writes_of cs)
unfolding tallies_of wrote_all
tallies_totals dialect on [] tally = refl
tallies_totals dialect on (c ∷ cs) tally = tallies_totals dialect on cs (tally_of dialect on c tally)

-- a first attempt whose first word is no Start-Over where a Request stands, is no Start-Over alone after it; and where none stands, no attempt is
pub first_not_alone : (pieces : List Piece) (asked : Bool) (more : List ℕ) (t : Totals)
    → (t.asked ≡ true → get_or (attempt_words (record { pieces = pieces; asked = asked }) ++ more) 0 0 ≢ start_over_opcode)
    → alone t (writes_of pieces) asked ≡ false
unfolding all_words pick
first_not_alone [] false more t other = by_test t.asked (λ stands. absurd (other stands refl)) (λ e. e)
first_not_alone [] true more t other = refl
first_not_alone (c ∷ cs) asked more t other = refl

-- totals that settle to the same: what commands make of them is the same
pub wrote_alike : (dialect : Dialect) (w : Write) (a b : Totals) → settled a ≡ settled b → wrote dialect a w ≡ wrote dialect b w
wrote_alike dialect (section size) a b same = ap (λ (t : Totals). numbered (counted dialect t size)) same
wrote_alike dialect no_section a b same = ap numbered same

room_alike : (dialect : Dialect) (w : Write) (a b : Totals) → settled a ≡ settled b → Room dialect a w → Room dialect b w
room_alike dialect (section size) a b same room =
    subst (λ (t : Totals). (would_pass dialect t size ≡ false) × (is_spent t ≡ false)) same room
room_alike dialect no_section a b same room = subst (λ (t : Totals). is_spent t ≡ false) same room

pub fit_alike : (dialect : Dialect) (c : Piece) (cs : List Piece) (a b : Totals) → settled a ≡ settled b → AllFit dialect a (c ∷ cs) → AllFit dialect b (c ∷ cs)
unfolding AllFit
fit_alike dialect c cs a b same f =
    (room_alike dialect (write_of c) a b same f.0, subst (λ (t : Totals). AllFit dialect t cs) (wrote_alike dialect (write_of c) a b same) f.1)

tallies_alike : (dialect : Dialect) (on : Bool) (c : Piece) (cs : List Piece) (a b : Totals) → settled a ≡ settled b
    → tallies_of dialect on (c ∷ cs) (tallied 0 a) ≡ tallies_of dialect on (c ∷ cs) (tallied 0 b)
unfolding tallies_of
tallies_alike dialect on c cs a b same =
    ap (λ (t : Totals). tallies_of dialect on cs (tallied (register_of on c 0) t)) (wrote_alike dialect (write_of c) a b same)

-- the replies to a Request's units
said_last : (bus : Bus) (reply : Reply)
    → map (λ (h : Heard). h.reply) (heard_said bus reply Nothing) ≡ replicate (units_in_word bus - 1) silence ++ (reply ∷ [])
said_last Bytes reply = refl
said_last Halves reply = refl

-- what an attempt may hold before its Start-Over
asking_goes : (bus : Bus) (windows : List Window) (dialect : Dialect) (on begun : Bool) (tally : Tally) (m : List ℕ) → length m ≡ sum_of windows
    → fed bus (awaiting windows dialect on begun tally m) (units_of bus asking_opcode)
    ≡ awaiting windows dialect on true (tallied 0 (turned command.Request tally.totals)) m
unfolding looked_up found_in rows row_serves pick acknowledging byte
asking_goes bus windows Am17xx on begun tally m lent =
    (opcode_goes bus windows Am17xx on begun tally m lent asking_opcode _ (record { small = lit< tt; no_byte = refl; no_half = refl }) refl refl).leads
asking_goes bus windows Dm648 on begun tally m lent =
    (opcode_goes bus windows Dm648 on begun tally m lent asking_opcode _ (record { small = lit< tt; no_byte = refl; no_half = refl }) refl refl).leads

module _ (bus : Bus) (windows : List Window) (dialect : Dialect) (on : Bool) where
  -- a Request or none, and a Start-Over: the checksum is 0, the totals are put back and the session has begun
  closing_leads : (asked begun : Bool) (tally : Tally) (m : List ℕ) → length m ≡ sum_of windows
      → after bus (awaiting windows dialect on begun tally m) (pick asked (asking_opcode ∷ []) [] ++ (start_over_opcode ∷ []))
      ≡ awaiting windows dialect on true (tallied 0 (turned command.StartOver (pick asked (turned command.Request tally.totals) tally.totals))) m
  unfolding pick
  closing_leads true begun tally m lent =
      fed_append bus _ (units_of bus asking_opcode) _
      ∙ ap (λ (y : State). fed bus y (units_of bus start_over_opcode ++ [])) (asking_goes bus windows dialect on begun tally m lent)
      ∙ (start_over_goes bus windows dialect on true _ m lent then nothing_goes bus _).leads
  closing_leads false begun tally m lent = (start_over_goes bus windows dialect on begun tally m lent then nothing_goes bus _).leads

  pub attempt_leads : (a : Attempt) (begun : Bool) (t : Totals) (m : List ℕ) → length m ≡ sum_of windows
      → AllSendable a.pieces → AllGranted windows a.pieces → AllFit dialect t a.pieces → Level t → alone t (writes_of a.pieces) a.asked ≡ false
      → after bus (awaiting windows dialect on begun (tallied 0 t) m) (attempt_words a)
      ≡ awaiting windows dialect on true (tallied 0 (settled t)) (memories_of windows a.pieces m)
  attempt_leads a begun t m lent s g f level other =
      after_append bus _ (all_words a.pieces) _
      ∙ ap (λ (y : State). after bus y (pick a.asked (asking_opcode ∷ []) [] ++ (start_over_opcode ∷ [])))
      (several_go windows bus dialect on a.pieces begun (tallied 0 t) m lent s g f).leads
      ∙ closing_leads a.asked _ _ _ (several_length windows a.pieces m lent s g ∙ lent)
      ∙ ap (λ (u : Totals). awaiting windows dialect on true (tallied 0 u) (memories_of windows a.pieces m))
      (ap (λ (u : Totals). turned command.StartOver (pick a.asked (turned command.Request u) u)) (tallies_totals dialect on a.pieces (tallied 0 t))
      ∙ no_total_left.abandons dialect t (writes_of a.pieces) a.asked level other)

  -- any number of attempts
  pub attempts_lead : (attempts : List Attempt) (begun : Bool) (t : Totals) (m : List ℕ) → length m ≡ sum_of windows → Level t
      → (t.asked ≡ true → get_or (attempts_words attempts) 0 0 ≢ start_over_opcode)
      → AllSendable (attempts_pieces attempts) → NoneRefused bus (awaiting windows dialect on begun (tallied 0 t) m) (all_units bus (attempts_words attempts))
      → Left bus windows dialect on attempts begun t m
  unfolding attempts_words attempts_pieces fed memories_of AllGranted
  attempts_lead [] begun t m lent level other s n = record { granted = tt; later = begun; last = t; same = refl; leads = refl }
  attempts_lead (a ∷ rest) begun t m lent level other s n =
      let sendable = sendable_append a.pieces (attempts_pieces rest) s in
      let accepted = none_refused_words bus _ (attempt_words a) (attempts_words rest) n in
      let granted =
      several_accepted windows bus dialect on a.pieces begun (tallied 0 t) m lent sendable.0
      (none_refused_words bus _ (all_words a.pieces) _ accepted.0).0 in
      let first =
      attempt_leads a begun t m lent sendable.0 granted.0 granted.1 level (first_not_alone a.pieces a.asked (attempts_words rest) t other) in
      let left =
      attempts_lead rest true (settled t) (memories_of windows a.pieces m)
      (several_length windows a.pieces m lent sendable.0 granted.0 ∙ lent) (level_there.after_settling t level)
      (λ stands. absurd (true≢false (sym stands ∙ settled_asks_nothing t))) sendable.1
      (subst (λ (y : State). NoneRefused bus y (all_units bus (attempts_words rest))) first accepted.1) in
      record {
        granted = granted_append windows a.pieces (attempts_pieces rest) granted.0 left.granted;
        later = left.later;
        last = left.last;
        same = left.same ∙ settled_once t;
        leads =
            after_append bus _ (attempt_words a) (attempts_words rest) ∙ ap (λ (y : State). after bus y (attempts_words rest)) first ∙ left.leads
            ∙ ap (awaiting windows dialect on left.later (tallied 0 left.last)) (memories_append windows a.pieces (attempts_pieces rest) m);
      }

  -- what follows, after an attempt and without it
  module _ (attempted : List Piece) (c : Piece) (cs : List Piece) (begun later : Bool) (t last : Totals) (same : settled last ≡ settled t) (m : List ℕ)
      (lent : length m ≡ sum_of windows) (are : AreBytes m) (sa : AllSendable attempted) (sf : AllSendable (c ∷ cs)) (ga : AllGranted windows attempted)
      (gf : AllGranted windows (c ∷ cs)) (fits : AllFit dialect last (c ∷ cs)) (covers : Covers windows attempted (c ∷ cs)) where
    abbrev tried : State
    tried = awaiting windows dialect on later (tallied 0 last) (memories_of windows attempted m)

    abbrev untried : State
    untried = awaiting windows dialect on begun (tallied 0 t) m

    abbrev following : List ℕ
    following = all_words (c ∷ cs)

    -- where what follows leads to, from totals and a memory
    abbrev reached : Bool → Totals → List ℕ → State
    reached first totals memory =
        awaiting windows dialect on (begun_by (c ∷ cs) first) (tallies_of dialect on (c ∷ cs) (tallied 0 totals)) (memories_of windows (c ∷ cs) memory)

    tried_goes : Goes bus tried (all_units bus following) (reached later last (memories_of windows attempted m)) (heard_all bus (c ∷ cs))
    tried_goes = several_go windows bus dialect on (c ∷ cs) later (tallied 0 last) _ (several_length windows attempted m lent sa ga ∙ lent) sf gf fits

    untried_goes : Goes bus untried (all_units bus following) (reached begun t m) (heard_all bus (c ∷ cs))
    untried_goes = several_go windows bus dialect on (c ∷ cs) begun (tallied 0 t) m lent sf gf (fit_alike dialect c cs last t same fits)

    -- the sessions meet again
    meet_again : after bus tried following ≡ after bus untried following
    unfolding begun_by
    meet_again =
        tried_goes.leads
        ∙ ap₂ (awaiting windows dialect on (begun_by cs true)) (tallies_alike dialect on c cs last t same)
        (written_over windows attempted (c ∷ cs) m lent are sa sf ga gf covers)
        ∙ sym untried_goes.leads

    -- and all is heard alike
    hear_alike : (further : List ℕ) → answers bus tried (all_units bus following ++ further) ≡ answers bus untried (all_units bus following ++ further)
    hear_alike further =
        answers_append bus tried (all_units bus following) further
        ∙ ap₂ ◌++◌ (tried_goes.says ∙ sym untried_goes.says) (ap (λ (y : State). answers bus y further) meet_again)
        ∙ sym (answers_append bus untried (all_units bus following) further)

    -- the next Request reports the checksum
    reports : Reports bus (after bus untried following) (checksum (after bus untried following))
    reports =
        subst (λ (y : State). Reports bus y (checksum y)) (sym untried_goes.leads)
        (ap (map (λ (h : Heard). h.reply))
        (request_goes bus windows dialect on _ _ (memories_of windows (c ∷ cs) m) (several_length windows (c ∷ cs) m lent sf gf ∙ lent)).says
        ∙ said_last bus _)

    no_trace : (attempt : List ℕ) → after bus untried attempt ≡ tried → NoTrace bus untried attempt following
    no_trace attempt leads =
        let same = after_append bus untried attempt following ∙ ap (λ (y : State). after bus y following) leads ∙ meet_again in
        record {
          same_state = same;
          same_answers = λ further. ap (λ (y : State). answers bus y (all_units bus following ++ further)) leads ∙ hear_alike further;
          same_report = subst (λ (y : State). Reports bus y (checksum (after bus untried following))) (sym same) reports;
        }

  -- from a state that awaits an opcode with checksum 0
  many_awaiting : (begun : Bool) (t : Totals) (m : List ℕ) (attempts : List Attempt) (c : Piece) (cs : List Piece)
      → Retried bus (awaiting windows dialect on begun (tallied 0 t) m) (attempts_words attempts) (attempts_pieces attempts) (c ∷ cs)
      → NoTrace bus (awaiting windows dialect on begun (tallied 0 t) m) (attempts_words attempts) (all_words (c ∷ cs))
  many_awaiting begun t m attempts c cs r =
      let lent = r.begins.awaits.lent in
      let sendable = r.accepted.sendable in
      let left = attempts_lead attempts begun t m lent r.begins.level r.not_alone sendable.0 r.accepted.attempt_accepted in
      let granted =
      several_accepted windows bus dialect on (c ∷ cs) left.later (tallied 0 left.last) (memories_of windows (attempts_pieces attempts) m)
      (several_length windows (attempts_pieces attempts) m lent sendable.0 left.granted ∙ lent) sendable.1
      (subst (λ (y : State). NoneRefused bus y (all_units bus (all_words (c ∷ cs)))) left.leads r.accepted.following_accepted) in
      no_trace (attempts_pieces attempts) c cs begun left.later t left.last left.same m lent r.begins.awaits.bytes sendable.0 sendable.1
      left.granted granted.0 granted.1 r.covered (attempts_words attempts) left.leads

pub many_retries_leave_no_trace : ManyRetriesLeaveNoTrace
many_retries_leave_no_trace bus x attempts c cs r =
    subst
    (λ (y : State). Retried bus y (attempts_words attempts) (attempts_pieces attempts) (c ∷ cs) → NoTrace bus y (attempts_words attempts) (all_words (c ∷ cs)))
    (sym (begins_awaiting x r.begins)) (many_awaiting bus _ _ _ _ _ _ attempts c cs) r

pub retries_leave_no_trace : RetriesLeaveNoTrace
unfolding attempts_words attempts_pieces
retries_leave_no_trace bus x a c cs =
    subst₂ (λ (words : List ℕ) (pieces : List Piece). Retried bus x words pieces (c ∷ cs) → NoTrace bus x words (all_words (c ∷ cs)))
    (append-nil (attempt_words a)) (append-nil a.pieces) (many_retries_leave_no_trace bus x (a ∷ []) c cs)

-- from an opening on
pub retries_since_opening : RetriesSinceOpening
retries_since_opening bus x a c cs after whole other accepted covered =
    retries_leave_no_trace bus x a c cs (record { begins = (beginnings bus).begins x after whole; not_alone = other; accepted = accepted; covered = covered })
