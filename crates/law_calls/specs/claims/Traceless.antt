-- Demand 3 as C sees it, for each of the session calls, on either line, in either dialect, with numbers or without: an attempt among the bytes that are fed,
-- once what follows writes every bit that it wrote, leaves no trace in what the call gives back, but for the replies to the attempt itself.
use Rattle.std.specs.Prelude.{ℕ, ◌%◌, List, ◌∷◌, ◌++◌, ◌≡◌, length, drop}
use Rattle.sent.specs.rules.Bus.{all_units, units_fed}
use Rattle.sent.specs.rules.Feeding.{State, answers, replied}
use Rattle.machine_answers.specs.rules.Replies.{sent_bytes}
use Rattle.sent.specs.declared.Bus.{Bus}
use Rattle.words.specs.rules.Bytes.{words_bytes}
use Rattle.bench_sessions.specs.rules.Feeding.{SessionOutcome, unit_bytes, begun}
use Rattle.bench_sessions.specs.rules.Numbers.{Watched}
use Rattle.law_retries.specs.claims.Pieces.{Piece, all_words, Covers}
use Rattle.law_retries.specs.claims.Retries.{Attempt, attempt_words, attempts_words, attempts_pieces, LentWhole, JustAfter, NotAlone, Accepted, Retried}
use Rattle.law_calls.specs.claims.Calls.{Call, result_of, bus_of, opening_of, state_after, Feeds, refusal_in, count_in}

-- what a call is lent beside its room: a map, a memory, and any bytes before and after the commands
pub record Lent : Type 0 where
  pub map : List ℕ
  pub memory : List ℕ
  pub before : List ℕ
  pub after : List ℕ

-- all bytes that are fed, with these words in the middle; on either line a word is four bytes, the lowest first
abbrev pub fed_around : Lent → List ℕ → List ℕ
fed_around lent words = lent.before ++ (words_bytes words ++ lent.after)

-- the session where the commands begin
abbrev pub state_there : Call → Lent → State
state_there call lent = state_after call lent.map lent.memory lent.before

-- the replies until then, and from some state on to words and to what comes after all commands
abbrev pub replies_before : Call → Lent → List ℕ
replies_before call lent =
    sent_bytes (opening_of call lent.map).reply
    ++ replied (answers (bus_of call) (begun (opening_of call lent.map) lent.memory) (units_fed (bus_of call) lent.before))

abbrev pub replies_to : Bus → State → List ℕ → List ℕ
replies_to bus x units = replied (answers bus x units)

-- what lies in a room after a call: these replies at its front, as many as the number says, and what is past them as it was lent
pub record Laid (replies room : List ℕ) (o : SessionOutcome) : Type 0 where
  pub counted : count_in o ≡ length replies
  pub laid : o.room ≡ replies ++ drop (length replies) room

-- one call was fed an attempt and another was not: the same memory, numbers and first refusal; the replies before, those to the attempt, and those from its
-- close on, which are the same
pub record SameToC (before attempted later longer shorter : List ℕ) (with without : Watched) : Type 0 where
  pub same_memory : with.session.memory ≡ without.session.memory
  pub same_numbers : with.numbers ≡ without.numbers
  pub same_refusal : refusal_in with.session ≡ refusal_in without.session
  pub with_replies : Laid (before ++ (attempted ++ later)) longer with.session
  pub without_replies : Laid (before ++ later) shorter without.session

-- a call with the words of an attempt and one without them, each in its room: where both feed, C sees the same
abbrev pub NoTraceInCall : Call → Lent → List ℕ → List ℕ → Type 0
NoTraceInCall call lent attempt following =
    (longer shorter : List ℕ)
    → Feeds call lent.map lent.memory (fed_around lent (attempt ++ following)) longer
    → Feeds call lent.map lent.memory (fed_around lent following) shorter
    → SameToC (replies_before call lent) (replies_to (bus_of call) (state_there call lent) (all_units (bus_of call) attempt))
    (replies_to (bus_of call) (state_there call lent) (all_units (bus_of call) following ++ units_fed (bus_of call) lent.after)) longer shorter
    (result_of call lent.map lent.memory (fed_around lent (attempt ++ following)) longer)
    (result_of call lent.map lent.memory (fed_around lent following) shorter)

-- the bytes before are whole units
abbrev pub WholeBefore : Call → Lent → Type 0
WholeBefore call lent = length lent.before % unit_bytes (bus_of call) ≡ 0

-- from the premises of demand 3, of an attempt and of any number of them in a row; and of one that comes just after one of the four places
pub record CallsLeaveNoTrace : Type 0 where
  pub one : (call : Call) (lent : Lent) (a : Attempt) (c : Piece) (cs : List Piece) → WholeBefore call lent
      → Retried (bus_of call) (state_there call lent) (attempt_words a) a.pieces (c ∷ cs)
      → NoTraceInCall call lent (attempt_words a) (all_words (c ∷ cs))
  pub many : (call : Call) (lent : Lent) (attempts : List Attempt) (c : Piece) (cs : List Piece) → WholeBefore call lent
      → Retried (bus_of call) (state_there call lent) (attempts_words attempts) (attempts_pieces attempts) (c ∷ cs)
      → NoTraceInCall call lent (attempts_words attempts) (all_words (c ∷ cs))
  pub since-opening : (call : Call) (lent : Lent) (a : Attempt) (c : Piece) (cs : List Piece) → WholeBefore call lent
      → JustAfter (bus_of call) (state_there call lent).session → LentWhole (state_there call lent) → NotAlone (state_there call lent) (attempt_words a)
      → Accepted (bus_of call) (state_there call lent) (attempt_words a) a.pieces (c ∷ cs)
      → Covers (state_there call lent).session.core.windows a.pieces (c ∷ cs)
      → NoTraceInCall call lent (attempt_words a) (all_words (c ∷ cs))
