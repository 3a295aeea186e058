-- Several commands, one after the other, are again such a command: from a session that awaits an opcode they lead to one that does, and each bit
-- of memory is then what the last of them that writes it gave. So commands that write every bit that others wrote undo them.
use Prim.Native.Nat.{ℕ, ◌*◌, ◌<◌}
use mathlib.Core.Bool.{Bool, true, false, ◌||◌, false≢true}
use mathlib.Core.List.{List, [], ◌∷◌, ◌++◌}
use mathlib.Core.Path.{◌≡◌, refl, sym, ap, subst, ◌∙◌}
use native.Mathlib.Omega.{arith}
use lib.ListN.{length}
use Rattle.words.specs.rules.Bytes.{bit_at}
use Rattle.words.specs.rules.Choice.{pick}
use Rattle.windows.specs.rules.Window.{sum_of}
use Rattle.windows.specs.declared.Window.{Window}
use Rattle.opcodes.specs.declared.Dialect.{Dialect}
use Rattle.ledger.specs.claims.Attempts.{wrote}
use Rattle.ledger.specs.declared.Totals.{Totals}
use Rattle.law_effects.specs.claims.Effects.{writes, becomes, Does, some_writes}
use Rattle.law_effects.proofs.Effects.{load_granted, fill_granted, setting_granted, same_bits}
use Rattle.commands.specs.rules.Commands.{load_judged, fill_judged, setting_judged}
use Rattle.sent.specs.rules.Bus.{all_units}
use Rattle.sent.specs.rules.Feeding.{State, Heard, NoneRefused}
use Rattle.words.specs.rules.Bytes.{AreBytes, words_bytes}
use Rattle.sent.specs.declared.Bus.{Bus}
use Rattle.machine_answers.specs.declared.Tally.{Tally}
use Rattle.sent.proofs.Feeding.{none_refused_words, Goes, nothing_goes, words_go}
use Rattle.machine.proofs.Laws.{data_count}
use Rattle.machine.proofs.Memory.{if_over, loaded_over, fill_over, setting_over, take_bytes, words-bytes}
use Rattle.law_retries.specs.claims.Pieces.{Piece, load, fill, setting, words_of, all_words, bytes_loaded, Sendable, AllSendable, judged_of, effect_of}
use Rattle.law_retries.specs.claims.Pieces.{any_writes, Covers}
use Rattle.machine_loads.proofs.Granted.{GrantedAt}
use Rattle.law_retries.proofs.Accepted.{piece_accepted}
use Rattle.law_retries.proofs.Taking.{write_of, Room, tally_of, memory_of, heard_of, awaiting, piece_goes}

-- checksum and totals, and the memory after several commands, what is heard of them, and whether an opcode has been acknowledged
unfoldable pub tallies_of : Dialect → Bool → List Piece → Tally → Tally
tallies_of dialect on [] tally = tally
tallies_of dialect on (c ∷ cs) tally = tallies_of dialect on cs (tally_of dialect on c tally)

unfoldable pub memories_of : List Window → List Piece → List ℕ → List ℕ
memories_of windows [] m = m
memories_of windows (c ∷ cs) m = memories_of windows cs (memory_of windows c m)

unfoldable pub heard_all : Bus → List Piece → List Heard
heard_all bus [] = []
heard_all bus (c ∷ cs) = heard_of bus c ++ heard_all bus cs

unfoldable pub begun_by : List Piece → Bool → Bool
begun_by [] begun = begun
begun_by (c ∷ cs) begun = begun_by cs true

-- all are granted
unfoldable pub AllGranted : List Window → List Piece → Type 0
AllGranted windows [] = Unit {0}
AllGranted windows (c ∷ cs) = GrantedAt (judged_of windows c) × AllGranted windows cs

-- none takes a total past the largest, and each finds a number
unfoldable pub AllFit : Dialect → Totals → List Piece → Type 0
AllFit dialect t [] = Unit {0}
AllFit dialect t (c ∷ cs) = Room dialect t (write_of c) × AllFit dialect (wrote dialect t (write_of c)) cs

-- two lists of them
pub sendable_append : (bs cs : List Piece) → AllSendable (bs ++ cs) → AllSendable bs × AllSendable cs
unfolding AllSendable
sendable_append [] cs s = (tt, s)
sendable_append (b ∷ bs) cs s = let parts = sendable_append bs cs s.1 in ((s.0, parts.0), parts.1)

pub granted_append : (windows : List Window) (bs cs : List Piece) → AllGranted windows bs → AllGranted windows cs → AllGranted windows (bs ++ cs)
unfolding AllGranted
granted_append windows [] cs g h = h
granted_append windows (b ∷ bs) cs g h = (g.0, granted_append windows bs cs g.1 h)

pub memories_append : (windows : List Window) (bs cs : List Piece) (m : List ℕ)
    → memories_of windows cs (memories_of windows bs m) ≡ memories_of windows (bs ++ cs) m
unfolding memories_of
memories_append windows [] cs m = refl
memories_append windows (b ∷ bs) cs m = memories_append windows bs cs (memory_of windows b m)

-- what bit p becomes by the last of them that writes it
unfoldable last_given : List Window → List Piece → ℕ → ℕ
last_given windows [] p = 0
last_given windows (c ∷ cs) p = pick (any_writes windows cs p) (last_given windows cs p) (becomes (effect_of windows c) p)

-- choices one inside the other
pub pick_inside : (w s : Bool) (given became was : ℕ) → pick s given (pick w became was) ≡ pick (w || s) (pick s given became) was
unfolding pick
pick_inside true true given became was = refl
pick_inside true false given became was = refl
pick_inside false true given became was = refl
pick_inside false false given became was = refl

pub pick_over : (w s : Bool) (given became was : ℕ) → (w ≡ true → s ≡ true) → pick s given (pick w became was) ≡ pick s given was
unfolding pick
pick_over w true given became was covers = refl
pick_over false false given became was covers = refl
pick_over true false given became was covers = absurd (false≢true (covers refl))

module _ (windows : List Window) where
  -- a granted command does its effect
  pub piece_does : (m : List ℕ) → length m ≡ sum_of windows → (c : Piece) → Sendable c → GrantedAt (judged_of windows c)
      → Does (effect_of windows c) m (memory_of windows c m)
  unfolding effect_of
  piece_does m lent (load address size contents) sendable g =
      rw g.granted
      (load_granted windows m lent address (bytes_loaded size contents)
      (ap (load_judged windows address) (data_count size contents sendable.1) ∙ g.granted)).does
  piece_does m lent (fill address size kind pattern) sendable g =
      rw g.granted (fill_granted windows m lent address size kind pattern g.granted).does
  piece_does m lent (setting word address value delay) sendable g =
      rw g.granted (setting_granted windows m lent word address value g.granted).does

  -- and leaves bytes
  piece_bytes : (m : List ℕ) → AreBytes m → (c : Piece) → AreBytes (memory_of windows c m)
  piece_bytes m are (load address size contents) =
      (if_over m (load_judged windows address size) _
      (λ place. loaded_over m place (bytes_loaded size contents) (take_bytes size (words_bytes contents) (words-bytes contents)))).bytes are
  piece_bytes m are (fill address size kind pattern) = (fill_over (fill_judged windows address size kind) m size kind pattern).bytes are
  piece_bytes m are (setting word address value delay) = (setting_over (setting_judged windows word address value) m word value).bytes are

  -- so do several
  pub several_length : (cs : List Piece) (m : List ℕ) → length m ≡ sum_of windows → AllSendable cs → AllGranted windows cs
      → length (memories_of windows cs m) ≡ length m
  unfolding memories_of AllSendable AllGranted
  several_length [] m lent s g = refl
  several_length (c ∷ cs) m lent s g =
      let same = (piece_does m lent c s.0 g.0).same_length in
      several_length cs (memory_of windows c m) (same ∙ lent) s.1 g.1 ∙ same

  pub several_bytes : (cs : List Piece) (m : List ℕ) → AreBytes m → AreBytes (memories_of windows cs m)
  unfolding memories_of
  several_bytes [] m are = are
  several_bytes (c ∷ cs) m are = several_bytes cs (memory_of windows c m) (piece_bytes m are c)

  several_bits : (cs : List Piece) (m : List ℕ) → length m ≡ sum_of windows → AllSendable cs → AllGranted windows cs → (p : ℕ) → p < 8 * length m
      → bit_at (memories_of windows cs m) p ≡ pick (any_writes windows cs p) (last_given windows cs p) (bit_at m p)
  unfolding memories_of AllSendable AllGranted some_writes last_given pick
  several_bits [] m lent s g p h = refl
  several_bits (c ∷ cs) m lent s g p h =
      let does = piece_does m lent c s.0 g.0 in
      several_bits cs (memory_of windows c m) (does.same_length ∙ lent) s.1 g.1 p (omega (arith, does.same_length))
      ∙ ap (λ (n : ℕ). pick (any_writes windows cs p) (last_given windows cs p) n) (does.each_bit p h)
      ∙ pick_inside (writes (effect_of windows c) p) (any_writes windows cs p) _ _ _

  -- what follows writes over all that others wrote
  pub written_over : (attempt following : List Piece) (m : List ℕ) → length m ≡ sum_of windows → AreBytes m
      → AllSendable attempt → AllSendable following → AllGranted windows attempt → AllGranted windows following → Covers windows attempt following
      → memories_of windows following (memories_of windows attempt m) ≡ memories_of windows following m
  written_over attempt following m lent are sa sf ga gf covers =
      let kept = several_length attempt m lent sa ga in
      let long = several_length following (memories_of windows attempt m) (kept ∙ lent) sf gf in
      same_bits _ _ (long ∙ kept ∙ sym (several_length following m lent sf gf))
      (several_bytes following _ (several_bytes attempt m are)) (several_bytes following m are)
      (λ p h.
      several_bits following _ (kept ∙ lent) sf gf p (omega (arith, long, h))
      ∙ ap (λ (n : ℕ). pick (any_writes windows following p) (last_given windows following p) n)
      (several_bits attempt m lent sa ga p (omega (arith, long, kept, h)))
      ∙ pick_over (any_writes windows attempt p) (any_writes windows following p) _ _ _ (covers p)
      ∙ sym (several_bits following m lent sf gf p (omega (arith, long, kept, h))))

  module _ (bus : Bus) (dialect : Dialect) (on : Bool) where
    -- their words
    pub several_go : (cs : List Piece) (begun : Bool) (tally : Tally) (m : List ℕ) → length m ≡ sum_of windows → AllSendable cs → AllGranted windows cs
        → AllFit dialect tally.totals cs
        → Goes bus (awaiting windows dialect on begun tally m) (all_units bus (all_words cs))
        (awaiting windows dialect on (begun_by cs begun) (tallies_of dialect on cs tally) (memories_of windows cs m)) (heard_all bus cs)
    unfolding all_words begun_by tallies_of memories_of heard_all AllSendable AllGranted AllFit
    several_go [] begun tally m lent s g f = nothing_goes bus _
    several_go (c ∷ cs) begun tally m lent s g f =
        words_go (words_of c) (all_words cs) (piece_goes bus windows dialect on begun tally m lent c s.0 g.0.granted f.0)
        (several_go cs true (tally_of dialect on c tally) (memory_of windows c m) ((piece_does m lent c s.0 g.0).same_length ∙ lent) s.1 g.1 f.1)

    -- none of which is refused
    pub several_accepted : (cs : List Piece) (begun : Bool) (tally : Tally) (m : List ℕ) → length m ≡ sum_of windows → AllSendable cs
        → NoneRefused bus (awaiting windows dialect on begun tally m) (all_units bus (all_words cs)) → AllGranted windows cs × AllFit dialect tally.totals cs
    unfolding all_words AllSendable AllGranted AllFit
    several_accepted [] begun tally m lent s n = (tt, tt)
    several_accepted (c ∷ cs) begun tally m lent s n =
        let parts = none_refused_words bus (awaiting windows dialect on begun tally m) (words_of c) (all_words cs) n in
        let g = piece_accepted bus windows dialect on begun tally m lent c s.0 parts.0 in
        let goes = piece_goes bus windows dialect on begun tally m lent c s.0 g.at.granted g.fits in
        let rest =
        several_accepted cs true (tally_of dialect on c tally) (memory_of windows c m) ((piece_does m lent c s.0 g.at).same_length ∙ lent) s.1
        (subst (λ (x : State). NoneRefused bus x (all_units bus (all_words cs))) goes.leads parts.1) in
        ((g.at, rest.0), (g.fits, rest.1))
