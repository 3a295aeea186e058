-- The theorem on the entries. An attempt stamps bits that its commands write, and no others; what follows stamps the bits that its commands write, by the same
-- numbers with the attempt and without it, since the totals settle to the same. So it writes over all that the attempt stamped.
use Rattle.std.specs.Prelude.{Ok, Err}
use Prim.Native.Nat.{ℕ, ◌-◌, ◌*◌}
use mathlib.Core.Bool.{Bool, true, false, ◌||◌, true≢false}
use mathlib.Core.List.{List, [], ◌∷◌, ◌++◌, append-nil}
use mathlib.Core.Logic.{◌≢◌}
use mathlib.Core.Path.{◌≡◌, refl, sym, ap, ap₂, subst, subst₂, ◌∙◌}
use native.Mathlib.Omega.{arith}
use lib.Dec.{lit<}
use lib.ListN.{length, get_or}
use Rattle.words.specs.rules.Bits.{within}
use Rattle.words.specs.rules.Bytes.{byte}
use Rattle.words.specs.rules.Choice.{pick}
use Rattle.windows.specs.rules.Window.{sum_of}
use Rattle.windows.specs.declared.Window.{Window}
use Rattle.opcodes.specs.declared.Command.TheVariants as command
use Rattle.opcodes.specs.declared.Dialect.{Dialect}
use Rattle.ledger.specs.claims.Attempts.{section, wrote, Level}
use Rattle.ledger.specs.rules.Totals.{settled, turned}
use Rattle.ledger.specs.declared.Totals.{Totals}
use Rattle.ledger.proofs.Attempts.{level_there}
use Rattle.ledger.proofs.Laws.{settled_asks_nothing}
use Rattle.commands.specs.rules.Commands.{shape_of, Judged}
use Rattle.commands.specs.rules.Wrote.{none_wrote, bytes_wrote, setting_wrote}
use Rattle.commands.specs.declared.Wrote.{Wrote}
use Rattle.law_effects.specs.claims.Effects.{Effect, writes, some_writes}
use Rattle.law_effects.specs.claims.Wrote.{Reports}
use Rattle.law_effects.proofs.Wrote.{fill_reports, shape_reports}
use Rattle.bit_stamps.specs.rules.Stamps.{stamped}
use Rattle.sent.specs.rules.Bus.{all_units}
use Rattle.sent.specs.rules.Feeding.{State, NoneRefused}
use Rattle.machine_answers.specs.rules.Answers.{tallied}
use Rattle.machine.specs.rules.Machine.{acknowledging}
use Rattle.machine.specs.claims.Wrote.{tells, some_tell}
use Rattle.sent.specs.declared.Bus.{Bus}
use Rattle.machine_answers.specs.declared.Tally.{Tally}
use Rattle.sent.proofs.Feeding.{units_append, none_refused_words}
use Rattle.machine.proofs.Laws.{data_count}
use Rattle.law_retries.specs.claims.Pieces.{Piece, load, fill, setting, words_of, all_words, Sendable, AllSendable, judged_of, effect_at, effect_if, effect_of}
use Rattle.law_retries.specs.claims.Pieces.{any_writes, start_over_opcode}
use Rattle.law_retries.specs.claims.Retries.{Attempt, asking_opcode, attempt_words, attempts_words, attempts_pieces, Retried}
use Rattle.law_retries.proofs.Beginnings.{beginnings}
use Rattle.law_retries.proofs.Retries.{begins_awaiting, wrote_alike, fit_alike, first_not_alone, attempt_leads, attempts_lead}
use Rattle.law_retries.proofs.Retries.{many_retries_leave_no_trace}
use Rattle.law_retries.proofs.Several.{memories_of, AllGranted, AllFit, sendable_append, several_length, several_go, several_accepted, piece_does}
use Rattle.law_retries.proofs.Taking.{write_of, tally_of, memory_of, awaiting, request_row, start_over_row, piece_goes}
use Rattle.bit_watch.specs.rules.Watched.{entries_after}
use Rattle.law_retries.specs.claims.Entries.{NoEntryLeft, RetriesLeaveNoEntry, ManyRetriesLeaveNoEntry, EntriesSinceOpening}
use Rattle.law_retries.proofs.Covered.{stamped_by, by_append, some_append, covered}
use Rattle.law_retries.proofs.EntryWords.{Writes, nothing_writes, ◌so◌, entries_append, opcode_silent, wrote_at, piece_stamps}

-- what a command tells that it wrote, by its judgement; and several, each by the totals that the ones before it leave
abbrev wrote_if : Dialect → Totals → Piece → Judged → Wrote
wrote_if dialect t c (Ok place) = wrote_at dialect t c place
wrote_if dialect t c (Err q) = none_wrote

unfoldable wrotes_of : List Window → Dialect → Totals → List Piece → List Wrote
wrotes_of windows dialect t [] = []
wrotes_of windows dialect t (c ∷ cs) = wrote_if dialect t c (judged_of windows c) ∷ wrotes_of windows dialect (wrote dialect t (write_of c)) cs

-- by the same numbers, from totals that settle to the same
wrote_at_alike : (dialect : Dialect) (a b : Totals) → settled a ≡ settled b → (c : Piece) (place : ℕ) → wrote_at dialect a c place ≡ wrote_at dialect b c place
wrote_at_alike dialect a b same (load address size contents) place =
    ap (λ (t : Totals). bytes_wrote (Ok place) size (t.next - 1)) (wrote_alike dialect (section size) a b same)
wrote_at_alike dialect a b same (fill address size kind pattern) place = ap (λ (t : Totals). bytes_wrote (Ok place) size t.next) same
wrote_at_alike dialect a b same (setting word address value delay) place = ap (λ (t : Totals). setting_wrote (Ok place) word t.next) same

wrote_if_alike : (dialect : Dialect) (a b : Totals) → settled a ≡ settled b → (c : Piece) (judged : Judged)
    → wrote_if dialect a c judged ≡ wrote_if dialect b c judged
wrote_if_alike dialect a b same c (Ok place) = wrote_at_alike dialect a b same c place
wrote_if_alike dialect a b same c (Err q) = refl

wrotes_alike : (windows : List Window) (dialect : Dialect) (a b : Totals) → settled a ≡ settled b → (c : Piece) (cs : List Piece)
    → wrotes_of windows dialect a (c ∷ cs) ≡ wrotes_of windows dialect b (c ∷ cs)
unfolding wrotes_of
wrotes_alike windows dialect a b same c cs =
    ap₂ ◌∷◌ (wrote_if_alike dialect a b same c (judged_of windows c))
    (ap (λ (t : Totals). wrotes_of windows dialect t cs) (wrote_alike dialect (write_of c) a b same))

-- a granted command tells the bits that its effect writes
reported : (w : Wrote) (e : Effect) (p : ℕ) → Reports w e → tells w p ≡ writes e p
reported w e p r = ap₂ (λ (first count : ℕ). within first count p) r.0 r.1

tells_at : (windows : List Window) (dialect : Dialect) (t : Totals) (c : Piece) → Sendable c → (place : ℕ) → judged_of windows c ≡ Ok place → (p : ℕ)
    → tells (wrote_at dialect t c place) p ≡ writes (effect_at c place) p
tells_at windows dialect t (load address size contents) sendable place granted p =
    ap₂ (λ (first count : ℕ). within first count p) (omega arith) (ap (λ (n : ℕ). 8 * n) (sym (data_count size contents sendable.1)))
tells_at windows dialect t (fill address size kind pattern) sendable place granted p =
    reported (bytes_wrote (Ok place) size (settled t).next) (effect_at (fill address size kind pattern) place) p
    (fill_reports windows address size kind pattern place (settled t).next granted)
tells_at windows dialect t (setting word address value delay) sendable place granted p =
    reported (setting_wrote (Ok place) word (settled t).next) (effect_at (setting word address value delay) place) p
    (shape_reports place value (settled t).next (shape_of word))

tells_bits : (windows : List Window) (dialect : Dialect) (t : Totals) (cs : List Piece) → AllSendable cs → AllGranted windows cs → (p : ℕ)
    → some_tell (wrotes_of windows dialect t cs) p ≡ any_writes windows cs p
unfolding wrotes_of some_tell some_writes AllSendable AllGranted effect_of
tells_bits windows dialect t [] s g p = refl
tells_bits windows dialect t (c ∷ cs) s g p =
    let granted = g.0.granted in
    ap₂ ◌||◌
    (ap (λ (j : Judged). tells (wrote_if dialect t c j) p) granted ∙ tells_at windows dialect t c s.0 g.0.place granted p
    ∙ sym (ap (λ (j : Judged). writes (effect_if j c) p) granted))
    (tells_bits windows dialect (wrote dialect t (write_of c)) cs s.1 g.1 p)

-- two lists of commands
some_pieces : (windows : List Window) (bs cs : List Piece) (p : ℕ) → any_writes windows (bs ++ cs) p ≡ (any_writes windows bs p || any_writes windows cs p)
unfolding some_writes
some_pieces windows [] cs p = refl
some_pieces windows (b ∷ bs) cs p =
    ap (λ (t : Bool). writes (effect_of windows b) p || t) (some_pieces windows bs cs p)
    ∙ sym (either (writes (effect_of windows b) p) (any_writes windows bs p) (any_writes windows cs p))
  where
    either : (a b c : Bool) → ((a || b) || c) ≡ (a || (b || c))
    either true b c = refl
    either false b c = refl

module _ (bus : Bus) (windows : List Window) (dialect : Dialect) (on : Bool) where
  -- the words of several commands stamp what they tell
  several_stamp : (places : List ℕ) (cs : List Piece) (entries : List ℕ) (begun : Bool) (tally : Tally) (m : List ℕ) → length m ≡ sum_of windows
      → AllSendable cs
      → AllGranted windows cs → AllFit dialect tally.totals cs
      → entries_after bus places entries (awaiting windows dialect on begun tally m) (all_units bus (all_words cs))
      ≡ stamped_by entries places (wrotes_of windows dialect tally.totals cs)
  unfolding all_words wrotes_of stamped_by entries_after AllSendable AllGranted AllFit
  several_stamp places [] entries begun tally m lent s g f = refl
  several_stamp places (c ∷ cs) entries begun tally m lent s g f =
      let granted = g.0.granted in
      ap (entries_after bus places entries (awaiting windows dialect on begun tally m)) (units_append bus (words_of c) (all_words cs))
      ∙ entries_append bus places entries _ (all_units bus (words_of c)) (all_units bus (all_words cs))
      ∙ ap₂ (λ (es : List ℕ) (x : State). entries_after bus places es x (all_units bus (all_words cs)))
      (piece_stamps bus windows dialect on begun tally m lent c s.0 granted f.0 places entries
      ∙ sym (ap (λ (j : Judged). stamped entries places (wrote_if dialect tally.totals c j)) granted))
      (piece_goes bus windows dialect on begun tally m lent c s.0 granted f.0).leads
      ∙ several_stamp places cs _ true (tally_of dialect on c tally) (memory_of windows c m) ((piece_does windows m lent c s.0 g.0).same_length ∙ lent)
      s.1 g.1 f.1

  -- the close of an attempt stamps nothing
  closing_writes : (asked begun : Bool) (tally : Tally) (m : List ℕ) → length m ≡ sum_of windows
      → Writes bus (awaiting windows dialect on begun tally m) (all_units bus (pick asked (asking_opcode ∷ []) [] ++ (start_over_opcode ∷ [])))
      (awaiting windows dialect on true (tallied 0 (turned command.StartOver (pick asked (turned command.Request tally.totals) tally.totals))) m) []
  unfolding pick acknowledging byte
  closing_writes true begun tally m lent =
      opcode_silent bus windows dialect on begun tally m lent asking_opcode command.Request (record { small = lit< tt; no_byte = refl; no_half = refl })
      (request_row dialect) refl
      so opcode_silent bus windows dialect on true _ m lent start_over_opcode command.StartOver (record { small = lit< tt; no_byte = refl; no_half = refl })
      (start_over_row dialect) refl
      so nothing_writes bus _
  closing_writes false begun tally m lent =
      opcode_silent bus windows dialect on begun tally m lent start_over_opcode command.StartOver (record { small = lit< tt; no_byte = refl; no_half = refl })
      (start_over_row dialect) refl
      so nothing_writes bus _

  attempt_stamps : (places entries : List ℕ) (a : Attempt) (begun : Bool) (tally : Tally) (m : List ℕ) → length m ≡ sum_of windows
      → AllSendable a.pieces → AllGranted windows a.pieces → AllFit dialect tally.totals a.pieces
      → entries_after bus places entries (awaiting windows dialect on begun tally m) (all_units bus (attempt_words a))
      ≡ stamped_by entries places (wrotes_of windows dialect tally.totals a.pieces)
  unfolding stamped_by
  attempt_stamps places entries a begun tally m lent s g f =
      let close = pick a.asked (asking_opcode ∷ []) [] ++ (start_over_opcode ∷ []) in
      ap (entries_after bus places entries (awaiting windows dialect on begun tally m)) (units_append bus (all_words a.pieces) close)
      ∙ entries_append bus places entries _ (all_units bus (all_words a.pieces)) (all_units bus close)
      ∙ ap₂ (λ (es : List ℕ) (x : State). entries_after bus places es x (all_units bus close))
      (several_stamp places a.pieces entries begun tally m lent s g f)
      (several_go windows bus dialect on a.pieces begun tally m lent s g f).leads
      ∙ (closing_writes a.asked _ _ _ (several_length windows a.pieces m lent s g ∙ lent)).stamps places _

  -- what any number of attempts stamp: bits that their commands write
  record Stamped (attempts : List Attempt) (begun : Bool) (t : Totals) (m : List ℕ) : Type 0 where
    told : List Wrote
    stamps : (places entries : List ℕ)
        → entries_after bus places entries (awaiting windows dialect on begun (tallied 0 t) m) (all_units bus (attempts_words attempts)) ≡ stamped_by entries
        places told
    bits : (p : ℕ) → some_tell told p ≡ any_writes windows (attempts_pieces attempts) p

  attempts_stamp : (attempts : List Attempt) (begun : Bool) (t : Totals) (m : List ℕ) → length m ≡ sum_of windows → Level t
      → (t.asked ≡ true → get_or (attempts_words attempts) 0 0 ≢ start_over_opcode)
      → AllSendable (attempts_pieces attempts) → NoneRefused bus (awaiting windows dialect on begun (tallied 0 t) m) (all_units bus (attempts_words attempts))
      → Stamped attempts begun t m
  unfolding attempts_words attempts_pieces entries_after stamped_by some_tell some_writes
  attempts_stamp [] begun t m lent level other s n = record { told = []; stamps = λ places entries. refl; bits = λ p. refl }
  attempts_stamp (a ∷ rest) begun t m lent level other s n =
      let sendable = sendable_append a.pieces (attempts_pieces rest) s in
      let accepted = none_refused_words bus _ (attempt_words a) (attempts_words rest) n in
      let granted =
      several_accepted windows bus dialect on a.pieces begun (tallied 0 t) m lent sendable.0
      (none_refused_words bus _ (all_words a.pieces) _ accepted.0).0 in
      let first =
      attempt_leads bus windows dialect on a begun t m lent sendable.0 granted.0 granted.1 level
      (first_not_alone a.pieces a.asked (attempts_words rest) t other) in
      let others =
      attempts_stamp rest true (settled t) (memories_of windows a.pieces m)
      (several_length windows a.pieces m lent sendable.0 granted.0 ∙ lent) (level_there.after_settling t level)
      (λ stands. absurd (true≢false (sym stands ∙ settled_asks_nothing t))) sendable.1
      (subst (λ (y : State). NoneRefused bus y (all_units bus (attempts_words rest))) first accepted.1) in
      let own = wrotes_of windows dialect t a.pieces in
      record {
        told = own ++ others.told;
        stamps = λ places entries.
            ap (entries_after bus places entries (awaiting windows dialect on begun (tallied 0 t) m)) (units_append bus (attempt_words a) (attempts_words rest))
            ∙ entries_append bus places entries _ (all_units bus (attempt_words a)) (all_units bus (attempts_words rest))
            ∙ ap₂ (λ (es : List ℕ) (x : State). entries_after bus places es x (all_units bus (attempts_words rest)))
            (attempt_stamps places entries a begun (tallied 0 t) m lent sendable.0 granted.0 granted.1) first
            ∙ others.stamps places (stamped_by entries places own)
            ∙ sym (by_append entries places own others.told);
        bits = λ p.
            some_append own others.told p
            ∙ ap₂ ◌||◌ (tells_bits windows dialect t a.pieces sendable.0 granted.0 p) (others.bits p)
            ∙ sym (some_pieces windows a.pieces (attempts_pieces rest) p);
      }

  -- with the attempts and without them
  same_entries : (begun : Bool) (t : Totals) (m : List ℕ) (attempts : List Attempt) (c : Piece) (cs : List Piece)
      → Retried bus (awaiting windows dialect on begun (tallied 0 t) m) (attempts_words attempts) (attempts_pieces attempts) (c ∷ cs)
      → (places entries : List ℕ)
      → entries_after bus places entries (awaiting windows dialect on begun (tallied 0 t) m) (all_units bus (attempts_words attempts ++ all_words (c ∷ cs)))
      ≡ entries_after bus places entries (awaiting windows dialect on begun (tallied 0 t) m) (all_units bus (all_words (c ∷ cs)))
  same_entries begun t m attempts c cs r places entries =
      let lent = r.begins.awaits.lent in
      let sendable = r.accepted.sendable in
      let left = attempts_lead bus windows dialect on attempts begun t m lent r.begins.level r.not_alone sendable.0 r.accepted.attempt_accepted in
      let stamp = attempts_stamp attempts begun t m lent r.begins.level r.not_alone sendable.0 r.accepted.attempt_accepted in
      let still = several_length windows (attempts_pieces attempts) m lent sendable.0 left.granted ∙ lent in
      let granted =
      several_accepted windows bus dialect on (c ∷ cs) left.later (tallied 0 left.last) (memories_of windows (attempts_pieces attempts) m) still
      sendable.1
      (subst (λ (y : State). NoneRefused bus y (all_units bus (all_words (c ∷ cs)))) left.leads r.accepted.following_accepted) in
      let own = wrotes_of windows dialect t (c ∷ cs) in
      ap (entries_after bus places entries (awaiting windows dialect on begun (tallied 0 t) m))
      (units_append bus (attempts_words attempts) (all_words (c ∷ cs)))
      ∙ entries_append bus places entries _ (all_units bus (attempts_words attempts)) (all_units bus (all_words (c ∷ cs)))
      ∙ ap₂ (λ (es : List ℕ) (x : State). entries_after bus places es x (all_units bus (all_words (c ∷ cs)))) (stamp.stamps places entries) left.leads
      ∙ several_stamp places (c ∷ cs) _ left.later (tallied 0 left.last) _ still sendable.1 granted.0 granted.1
      ∙ ap (stamped_by (stamped_by entries places stamp.told) places) (wrotes_alike windows dialect left.last t left.same c cs)
      ∙ covered places stamp.told own entries (λ p h.
      tells_bits windows dialect t (c ∷ cs) sendable.1 granted.0 p ∙ r.covered p (sym (stamp.bits p) ∙ h))
      ∙ sym (several_stamp places (c ∷ cs) entries begun (tallied 0 t) m lent sendable.1 granted.0
      (fit_alike dialect c cs left.last t left.same granted.1))

pub many_retries_leave_no_entry : ManyRetriesLeaveNoEntry
many_retries_leave_no_entry bus x attempts c cs r places entries further =
    let same =
    subst
    (λ (y : State). Retried bus y (attempts_words attempts) (attempts_pieces attempts) (c ∷ cs)
    → entries_after bus places entries y (all_units bus (attempts_words attempts ++ all_words (c ∷ cs))) ≡ entries_after bus places entries y
    (all_units bus (all_words (c ∷ cs))))
    (sym (begins_awaiting x r.begins)) (λ q. same_entries bus _ _ _ _ _ _ attempts c cs q places entries) r in
    entries_append bus places entries x (all_units bus (attempts_words attempts ++ all_words (c ∷ cs))) further
    ∙ ap₂ (λ (es : List ℕ) (y : State). entries_after bus places es y further) same (many_retries_leave_no_trace bus x attempts c cs r).same_state
    ∙ sym (entries_append bus places entries x (all_units bus (all_words (c ∷ cs))) further)

pub retries_leave_no_entry : RetriesLeaveNoEntry
unfolding attempts_words attempts_pieces
retries_leave_no_entry bus x a c cs =
    subst₂ (λ (words : List ℕ) (pieces : List Piece). Retried bus x words pieces (c ∷ cs) → NoEntryLeft bus x words (all_words (c ∷ cs)))
    (append-nil (attempt_words a)) (append-nil a.pieces) (many_retries_leave_no_entry bus x (a ∷ []) c cs)

-- from an opening on
pub entries_since_opening : EntriesSinceOpening
entries_since_opening bus x a c cs just_after whole other accepted covers =
    retries_leave_no_entry bus x a c cs
    (record { begins = (beginnings bus).begins x just_after whole; not_alone = other; accepted = accepted; covered = covers })
