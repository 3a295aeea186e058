-- Demand 3 with the entries (02, request 6), for either line: an abandoned attempt, once what follows writes every bit that it wrote, leaves no trace in the
-- numbers beside chosen words, whatever words are chosen and whatever their entries were. The attempt's numbers are free again, and what follows takes them.
use Rattle.std.specs.Prelude.{ℕ, List, ◌∷◌, ◌++◌, ◌≡◌}
use Rattle.sent.specs.rules.Bus.{all_units}
use Rattle.sent.specs.rules.Feeding.{State}
use Rattle.sent.specs.declared.Bus.{Bus}
use Rattle.law_retries.specs.claims.Pieces.{Piece, all_words, Covers}
use Rattle.law_retries.specs.claims.Retries.{Attempt, attempt_words, attempts_words, attempts_pieces, JustAfter, LentWhole, NotAlone, Accepted, Retried}
use Rattle.bit_watch.specs.rules.Watched.{entries_after}

-- some words leave no trace in the entries once others follow: every byte of them is that of the others alone, and so it is after any further units
abbrev pub NoEntryLeft : Bus → State → List ℕ → List ℕ → Type 0
NoEntryLeft bus x attempt following =
    (places entries further : List ℕ)
    → entries_after bus places entries x (all_units bus (attempt ++ following) ++ further)
    ≡ entries_after bus places entries x (all_units bus following ++ further)

-- so of an attempt, from the premises of demand 3
abbrev pub RetriesLeaveNoEntry : Type 0
RetriesLeaveNoEntry =
    (bus : Bus) (x : State) (a : Attempt) (c : Piece) (cs : List Piece)
    → Retried bus x (attempt_words a) a.pieces (c ∷ cs) → NoEntryLeft bus x (attempt_words a) (all_words (c ∷ cs))

-- the same of any number of abandoned attempts in a row
abbrev pub ManyRetriesLeaveNoEntry : Type 0
ManyRetriesLeaveNoEntry =
    (bus : Bus) (x : State) (attempts : List Attempt) (c : Piece) (cs : List Piece)
    → Retried bus x (attempts_words attempts) (attempts_pieces attempts) (c ∷ cs) → NoEntryLeft bus x (attempts_words attempts) (all_words (c ∷ cs))

-- from an opening on, on any memory of bytes as long as the map: of the session nothing is assumed but that the attempt comes just after one of the four
abbrev pub EntriesSinceOpening : Type 0
EntriesSinceOpening =
    (bus : Bus) (x : State) (a : Attempt) (c : Piece) (cs : List Piece)
    → JustAfter bus x.session → LentWhole x → NotAlone x (attempt_words a) → Accepted bus x (attempt_words a) a.pieces (c ∷ cs)
    → Covers x.session.core.windows a.pieces (c ∷ cs) → NoEntryLeft bus x (attempt_words a) (all_words (c ∷ cs))
