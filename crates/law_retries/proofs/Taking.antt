-- A whole command on either line: from any running session that awaits an opcode, the words of a granted load, fill or setting lead to the same session, begun,
-- with the command's checksum, totals and memory; what is heard of them does not depend on these or on whether it had begun. Word by word, each by the lift;
-- what the words come to is the law over the opcode table, whatever the command.
use Rattle.std.specs.Prelude.{Ok}
use Prim.Native.Nat.{ℕ, suc, ◌+◌, ◌-◌, ◌/◌, ◌%◌, ◌^◌, ◌<◌}
use mathlib.Core.Bool.{Bool, true, false, true≢false}
use mathlib.Core.List.{List, [], ◌∷◌, ◌++◌}
use mathlib.Core.Logic.{◌≢◌}
use mathlib.Core.Path.{◌≡◌, refl, sym, ap, subst, ◌∙◌}
use native.Mathlib.Omega.{arith}
use lib.Dec.{eqb, lit<}
use lib.ListN.{length, replicate}
use borrow.Author.Tests.{eqb-false}
use Rattle.std.specs.declared.result.Result.TheVariants.{Ok}
use Rattle.words.specs.rules.Bytes.{byte}
use Rattle.words.specs.rules.Choice.{pick}
use Rattle.words.proofs.Puts.{length_put}
use Rattle.checksum.specs.rules.Checksum as feeding
use Rattle.windows.specs.rules.Window.{sum_of}
use Rattle.windows.specs.declared.Window.{Window}
use Rattle.opcodes.specs.rules.Opcodes.{rows, row_serves, found_in, looked_up, with_words}
use Rattle.opcodes.specs.declared.Command.{Command}
use Rattle.opcodes.specs.declared.Command.TheVariants as command
use Rattle.opcodes.specs.declared.Dialect.{Dialect}
use Rattle.opcodes.specs.declared.Dialect.TheVariants.{Am17xx, Dm648}
use Rattle.opcodes.specs.declared.Event.{Event}
use Rattle.opcodes.specs.declared.Event.TheVariants.{Nothing, Wait}
use Rattle.opcodes.specs.declared.Mode.TheVariants.{Sent}
use Rattle.opcodes.specs.rules.Refusals as refusal
use Rattle.ledger.specs.claims.Attempts.{Write, section, setting as no_section, wrote}
use Rattle.ledger.specs.rules.Totals.{would_pass, is_spent, settled, turned}
use Rattle.ledger.specs.declared.Totals.{Totals}
use Rattle.commands.specs.rules.Commands.{load_judged, fill_judged, setting_judged, fill_done, fill_memory, setting_done, setting_memory, memory_if, Judged}
use Rattle.stores.specs.rules.Stores.{loaded, load_fed}
use Rattle.commands.proofs.Judging.{unbarred}
use Rattle.commands.specs.rules.Wrote.{bytes_wrote, setting_wrote}
use Rattle.commands.specs.declared.Wrote.{Wrote}
use Rattle.sent.specs.rules.Bus.{units_in_word, start_unit, units_of, all_units, first_unit}
use Rattle.sent.specs.rules.Feeding.{State, Heard, NoneRefused}
use Rattle.sent.specs.claims.Lift.{at_word, silent, Ready}
use Rattle.machine_answers.specs.rules.Answers.{WordOutcome, tallied, quiet, ◌leaving◌, after}
use Rattle.machine_answers.specs.rules.Counts.{overflowing, out_of_numbers}
use Rattle.machine_loads.specs.rules.Loads.{data_bytes, awaited, load_begun}
use Rattle.machine_commands.specs.rules.Performed.{none_kept, performed}
use Rattle.machine.specs.rules.Machine.{keeping, begun, acknowledging, opening, word_step}
use Rattle.machine_answers.specs.rules.Replies.{silence, one_word, word_then, acknowledged}
use Rattle.machine.specs.claims.Words.{after_words, asking, done_at_last}
use Rattle.sent.specs.declared.Bus.{Bus}
use Rattle.sent.specs.declared.Bus.TheVariants.{Bytes, Halves}
use Rattle.machine_answers.specs.declared.Core.{Core}
use Rattle.machine_answers.specs.declared.Kept.{Kept}
use Rattle.machine_answers.specs.declared.Phase.{Phase}
use Rattle.machine_answers.specs.declared.Phase.TheVariants as phase
use Rattle.machine_answers.specs.declared.Reply.{Reply}
use Rattle.machine_answers.specs.declared.Tally.{Tally}
use Rattle.machine.proofs.ByTheTable.{by_the_table, word_kept, word_last, opcode_asks}
use Rattle.sent.proofs.Feeding.{none_refused_append, Goes, nothing_goes, ◌then◌, reaching, words_go}
use Rattle.machine_loads.proofs.Laws.{data_length}
use Rattle.machine.proofs.Laws.{unwritten, same_words, data_step, load_in_pieces}
use Rattle.sent.proofs.Lift.{accepted_goes, word_accepted}
use Rattle.sent_laws.specs.claims.Lines.{AreWords}
use Rattle.law_retries.specs.claims.Pieces.{Piece, load, fill, setting, words_of, bytes_loaded, Sendable, judged_of, load_opcode, fill_opcode}
use Rattle.law_retries.specs.claims.Pieces.{setting_opcode, enable_opcode, request_opcode, start_over_opcode}

-- a running session's core
abbrev pub running : List Window → Dialect → Bool → Bool → Tally → Phase → Core
running windows dialect on begun tally next =
    record { windows = windows; dialect = dialect; ended = false; on = on; begun = begun; tally = tally; stage = record { phase = next } }

-- the state that awaits an opcode
abbrev pub awaiting : List Window → Dialect → Bool → Bool → Tally → List ℕ → State
awaiting windows dialect on begun tally m = at_word (running windows dialect on begun tally phase.Opcode) m

-- an accepted word's outcome
abbrev pub accepted : Reply → Event → Core → Wrote → List ℕ → WordOutcome
accepted reply event k wrote m = record { answer = record { refusal = refusal.None; reply = reply; event = event; core = k; wrote = wrote }; memory = m }

-- what is heard of an accepted word
abbrev pub heard_said : Bus → Reply → Event → List Heard
heard_said bus reply event = replicate (units_in_word bus - 1) silent ++ (record { refusal = refusal.None; reply = reply; event = event } ∷ [])

-- of words that are taken in silence, and of some such and one that is not
unfoldable pub heard_quiet : Bus → List ℕ → List Heard
heard_quiet bus [] = []
heard_quiet bus (w ∷ ws) = heard_said bus silence Nothing ++ heard_quiet bus ws

unfoldable pub heard_then : Bus → List ℕ → Reply → Event → List Heard
heard_then bus [] reply event = heard_said bus reply event ++ []
heard_then bus (w ∷ ws) reply event = heard_said bus silence Nothing ++ heard_then bus ws reply event

-- of a command
abbrev heard_command : Bus → ℕ → List ℕ → Event → List Heard
heard_command bus opcode arguments event = heard_said bus (one_word (acknowledged opcode)) Nothing ++ heard_then bus arguments silence event

abbrev pub heard_of : Bus → Piece → List Heard
heard_of bus (load address size contents) = heard_command bus load_opcode (size ∷ []) Nothing ++ heard_quiet bus contents
heard_of bus (fill address size kind pattern) = heard_command bus fill_opcode (size ∷ kind ∷ pattern ∷ []) Nothing
heard_of bus (setting word address value delay) = heard_command bus setting_opcode (address ∷ value ∷ delay ∷ []) (Wait delay)

-- the checksum after a command
abbrev pub register_of : Bool → Piece → ℕ → ℕ
register_of on (load address size contents) checksum = pick on (load_fed checksum address (bytes_loaded size contents)) checksum
register_of on (fill address size kind pattern) checksum = pick on (feeding.fed_words checksum (address ∷ size ∷ kind ∷ pattern ∷ [])) checksum
register_of on (setting word address value delay) checksum = checksum

-- to the totals a load or a fill is a section, and a setting is none
abbrev pub write_of : Piece → Write
write_of (load address size contents) = section size
write_of (fill address size kind pattern) = section size
write_of (setting word address value delay) = no_section

-- a section takes no total past the largest, and each command finds a number
abbrev pub Room : Dialect → Totals → Write → Type 0
Room dialect t (section size) = (would_pass dialect (settled t) size ≡ false) × (is_spent (settled t) ≡ false)
Room dialect t no_section = is_spent (settled t) ≡ false

-- checksum and totals after a command
abbrev pub tally_of : Dialect → Bool → Piece → Tally → Tally
tally_of dialect on c tally = tallied (register_of on c tally.checksum) (wrote dialect tally.totals (write_of c))

-- the memory after it
abbrev pub memory_of : List Window → Piece → List ℕ → List ℕ
memory_of windows (load address size contents) m = memory_if (load_judged windows address size) (λ place. loaded m place (bytes_loaded size contents)) m
memory_of windows (fill address size kind pattern) m = fill_memory (fill_judged windows address size kind) m size kind pattern
memory_of windows (setting word address value delay) m = setting_memory (setting_judged windows word address value) m word value

-- an opcode that no line takes for its start unit
pub record Apart (opcode : ℕ) : Type 0 where
  pub small : opcode < 2 ^ 32
  pub no_byte : eqb (byte opcode 0) 0x58 ≡ false
  pub no_half : eqb (opcode % 2 ^ 16) 0x5853 ≡ false

pub load_apart : Apart load_opcode
unfolding byte
load_apart = record { small = lit< tt; no_byte = refl; no_half = refl }

pub fill_apart : Apart fill_opcode
unfolding byte
fill_apart = record { small = lit< tt; no_byte = refl; no_half = refl }

pub setting_apart : Apart setting_opcode
unfolding byte
setting_apart = record { small = lit< tt; no_byte = refl; no_half = refl }

-- the rows of what is sent here are the same in either dialect
abbrev Row : ℕ → Command → ℕ → Type 0
Row opcode c words = (dialect : Dialect) → looked_up opcode Sent dialect ≡ Ok (with_words c words)

pub load_row : Row load_opcode command.Load 2
unfolding looked_up found_in rows row_serves pick
load_row Am17xx = refl
load_row Dm648 = refl

pub fill_row : Row fill_opcode command.Fill 4
unfolding looked_up found_in rows row_serves pick
fill_row Am17xx = refl
fill_row Dm648 = refl

pub setting_row : Row setting_opcode command.BootTable 4
unfolding looked_up found_in rows row_serves pick
setting_row Am17xx = refl
setting_row Dm648 = refl

pub enable_row : Row enable_opcode command.Enable 0
unfolding looked_up found_in rows row_serves pick
enable_row Am17xx = refl
enable_row Dm648 = refl

pub request_row : Row request_opcode command.Request 0
unfolding looked_up found_in rows row_serves pick
request_row Am17xx = refl
request_row Dm648 = refl

pub start_over_row : Row start_over_opcode command.StartOver 0
unfolding looked_up found_in rows row_serves pick
start_over_row Am17xx = refl
start_over_row Dm648 = refl

pub no_start : (bus : Bus) {opcode : ℕ} → Apart opcode → first_unit bus opcode ≢ start_unit bus
no_start Bytes apart = eqb-false _ _ apart.no_byte
no_start Halves apart = eqb-false _ _ apart.no_half

pub length_loaded : (m : List ℕ) (place : ℕ) (bs : List ℕ) → length (loaded m place bs) ≡ length m
unfolding loaded
length_loaded m place bs = length_put m place (length bs) _

module _ (bus : Bus) where
  -- a word of a session that has begun
  pub begun_ready : (k : Core) (m : List ℕ) (w : ℕ) → k.ended ≡ false → k.begun ≡ true → length m ≡ sum_of k.windows → w < 2 ^ 32 → Ready bus k m w
  begun_ready k m w runs since lent small = record { running = runs; lent = lent; small = small; plain = λ e. absurd (true≢false (sym since ∙ e)) }

  -- the data of a load: word by word, each in silence
  data_go : (ws : List ℕ) (k : Core) (m : List ℕ) (p n : ℕ) → k.ended ≡ false → k.begun ≡ true → length m ≡ sum_of k.windows → AreWords ws
      → k.stage.phase ≡ awaited (p + n) n → length ws ≡ (n + 3) / 4
      → Goes bus (at_word k m) (all_units bus ws) (at_word (after_words (quiet k leaving m) ws).answer.core (after_words (quiet k leaving m) ws).memory)
      (heard_quiet bus ws)
  unfolding after_words heard_quiet
  data_go [] k m p n runs since lent small at whole = nothing_goes bus (at_word k m)
  data_go (w ∷ ws) k m p n runs since lent small at whole =
      let more : 0 < n = omega arith in
      let end : p + n ≡ p + length (data_bytes w n) + (n - 4) = omega (arith, data_length w n) in
      let step = data_step k m p n w more at in
      subst
      (λ (o : WordOutcome). Goes bus (at_word k m) (units_of bus w ++ all_units bus ws) (at_word (after_words o ws).answer.core (after_words o ws).memory)
      (heard_said bus silence Nothing ++ heard_quiet bus ws))
      (sym step)
      (accepted_goes bus k m w (begun_ready k m w runs since lent small.0) step refl
      then reaching
      (data_go ws _ _ (p + length (data_bytes w n)) (n - 4) runs since (length_loaded m p (data_bytes w n) ∙ lent) small.1
      (ap (λ (e : ℕ). awaited e (n - 4)) end) (omega arith))
      (sym (ap (λ (o : WordOutcome). at_word o.answer.core o.memory) (same_words _ _ _ ws))))

module _ (bus : Bus) (windows : List Window) (dialect : Dialect) (on : Bool) where
  module _ (c : Command) (tally : Tally) (m : List ℕ) (lent : length m ≡ sum_of windows) where
    -- inside a command
    abbrev core : Core
    core = running windows dialect on true tally phase.Opcode

    -- the argument words that are left
    arguments_go : (kept : Kept) (word : ℕ) (rest : List ℕ) → AreWords (word ∷ rest)
        → {reply : Reply} {event : Event} {k : Core} {wrote : Wrote} {left : List ℕ}
        → done_at_last c core m kept word rest ≡ accepted reply event k wrote left
        → Goes bus (at_word (asking core c (suc (length rest)) kept) m) (all_units bus (word ∷ rest)) (at_word k left) (heard_then bus rest reply event)
    unfolding done_at_last heard_then
    arguments_go kept word [] small e =
        accepted_goes bus _ m word (begun_ready bus _ m word refl refl lent small.0) (word_last c core m kept word ∙ e) refl then nothing_goes bus _
    arguments_go kept word (next ∷ rest) small e =
        accepted_goes bus _ m word (begun_ready bus _ m word refl refl lent small.0) (word_kept c core m kept word (length rest)) refl
        then arguments_go (keeping kept word) next rest small.1 e

    -- none of which is refused, nor is the command
    arguments_accepted : (kept : Kept) (word : ℕ) (rest more : List ℕ) → AreWords (word ∷ rest)
        → NoneRefused bus (at_word (asking core c (suc (length rest)) kept) m) (all_units bus (word ∷ (rest ++ more)))
        → (done_at_last c core m kept word rest).answer.refusal ≡ refusal.None
    unfolding done_at_last
    arguments_accepted kept word [] more small n =
        sym (ap (λ (o : WordOutcome). o.answer.refusal) (word_last c core m kept word))
        ∙ word_accepted bus _ m word (begun_ready bus _ m word refl refl lent small.0) (none_refused_append bus _ (units_of bus word) _ n).0
    arguments_accepted kept word (next ∷ rest) more small n =
        let first = accepted_goes bus _ m word (begun_ready bus _ m word refl refl lent small.0) (word_kept c core m kept word (length rest)) refl in
        arguments_accepted (keeping kept word) next rest more small.1
        (subst (λ (x : State). NoneRefused bus x (all_units bus (next ∷ (rest ++ more)))) first.leads (none_refused_append bus _ (units_of bus word) _ n).1)

  module _ (begun : Bool) (tally : Tally) (m : List ℕ) (lent : length m ≡ sum_of windows) where
    -- once an opcode is taken
    abbrev pub turned_by : Command → Tally
    turned_by c = tallied tally.checksum (turned c tally.totals)

    abbrev pub taken : Command → Core
    taken c = running windows dialect on true (turned_by c) phase.Opcode

    -- an opcode, begun or not
    pub opcode_ready : (opcode : ℕ) → Apart opcode → Ready bus (running windows dialect on begun tally phase.Opcode) m opcode
    opcode_ready opcode apart = record { running = refl; lent = lent; small = apart.small; plain = λ e. no_start bus apart }

    -- one that has no words
    pub opcode_word : (opcode : ℕ) (c : Command) → looked_up opcode Sent dialect ≡ Ok (with_words c 0)
        → {reply : Reply} {event : Event} {k : Core} {wrote : Wrote} {left : List ℕ}
        → opening opcode (performed c (taken c) m none_kept 0) ≡ accepted reply event k wrote left
        → word_step (running windows dialect on begun tally phase.Opcode) m opcode ≡ accepted reply event k wrote left
    unfolding after_words
    opcode_word opcode c known e = by_the_table.done _ m opcode c 0 [] refl known refl ∙ e

    pub opcode_goes : (opcode : ℕ) (c : Command) → Apart opcode → looked_up opcode Sent dialect ≡ Ok (with_words c 0)
        → {reply : Reply} {event : Event} {k : Core} {wrote : Wrote} {left : List ℕ}
        → opening opcode (performed c (taken c) m none_kept 0) ≡ accepted reply event k wrote left
        → Goes bus (awaiting windows dialect on begun tally m) (units_of bus opcode) (at_word k left) (heard_said bus reply event)
    opcode_goes opcode c apart known e = accepted_goes bus _ m opcode (opcode_ready opcode apart) (opcode_word opcode c known e) refl

    -- one that has, up to the word that decides
    module _ (opcode : ℕ) (c : Command) (word : ℕ) (rest : List ℕ) (apart : Apart opcode)
        (known : looked_up opcode Sent dialect ≡ Ok (with_words c (suc (length rest))))
        (small : AreWords (word ∷ rest)) where
      asked_goes : Goes bus (awaiting windows dialect on begun tally m) (units_of bus opcode)
          (at_word (asking (taken c) c (suc (length rest)) none_kept) m)
          (heard_said bus (one_word (acknowledged opcode)) Nothing)
      asked_goes = accepted_goes bus _ m opcode (opcode_ready opcode apart) (opcode_asks _ m opcode (length rest) refl known) refl

      command_goes : {reply : Reply} {event : Event} {k : Core} {wrote : Wrote} {left : List ℕ}
          → done_at_last c (taken c) m none_kept word rest ≡ accepted reply event k wrote left
          → Goes bus (awaiting windows dialect on begun tally m) (all_units bus (opcode ∷ word ∷ rest)) (at_word k left)
          (heard_said bus (one_word (acknowledged opcode)) Nothing ++ heard_then bus rest reply event)
      command_goes e = asked_goes then arguments_go c (turned_by c) m lent none_kept word rest small e

      pub command_accepted : (more : List ℕ) → NoneRefused bus (awaiting windows dialect on begun tally m) (all_units bus (opcode ∷ word ∷ (rest ++ more)))
          → (done_at_last c (taken c) m none_kept word rest).answer.refusal ≡ refusal.None
      command_accepted more n =
          arguments_accepted c (turned_by c) m lent none_kept word rest more small
          (subst (λ (x : State). NoneRefused bus x (all_units bus (word ∷ (rest ++ more)))) asked_goes.leads
          (none_refused_append bus _ (units_of bus opcode) _ n).1)

    -- Request and Start-Over
    pub request_goes : Goes bus (awaiting windows dialect on begun tally m) (units_of bus request_opcode)
        (awaiting windows dialect on true (tallied 0 (turned command.Request tally.totals)) m)
        (heard_said bus (word_then (acknowledged request_opcode) (one_word tally.checksum)) Nothing)
    unfolding acknowledging byte pick
    request_goes =
        opcode_goes request_opcode command.Request (record { small = lit< tt; no_byte = refl; no_half = refl }) (request_row dialect) refl

    pub start_over_goes : Goes bus (awaiting windows dialect on begun tally m) (units_of bus start_over_opcode)
        (awaiting windows dialect on true (tallied 0 (turned command.StartOver tally.totals)) m)
        (heard_said bus (word_then (acknowledged start_over_opcode) silence) Nothing)
    unfolding pick acknowledging byte
    start_over_goes =
        opcode_goes start_over_opcode command.StartOver (record { small = lit< tt; no_byte = refl; no_half = refl }) (start_over_row dialect) refl

    -- a load that is granted at its size word, and its data
    module _ (address size place : ℕ) (granted : out_of_numbers (taken command.Load) (overflowing (taken command.Load) size (load_judged windows address size))
        ≡ Ok place) where
      abbrev loading : Core
      loading =
          running windows dialect on true
          (tallied (pick on (feeding.fed_words tally.checksum (address ∷ size ∷ [])) tally.checksum) (wrote dialect tally.totals (section size)))
          (awaited (place + size) size)

      load_begins : address < 2 ^ 32 → size < 2 ^ 32
          → Goes bus (awaiting windows dialect on begun tally m) (all_units bus (load_opcode ∷ address ∷ size ∷ [])) (at_word loading m)
          (heard_command bus load_opcode (size ∷ []) Nothing)
      unfolding done_at_last
      load_begins address< size< =
          command_goes load_opcode command.Load address (size ∷ []) load_apart (load_row dialect)
          (address<, (size<, tt))
          (ap (λ (j : Judged). load_begun (asking (taken command.Load) command.Load 1 (keeping none_kept address)) address size j leaving m) granted)

      load_lands : (contents : List ℕ) → length contents ≡ (size + 3) / 4
          → at_word (after_words (quiet loading leaving m) contents).answer.core (after_words (quiet loading leaving m) contents).memory
          ≡ awaiting windows dialect on true (tally_of dialect on (load address size contents) tally) (loaded m place (bytes_loaded size contents))
      load_lands contents whole =
          let k = asking (taken command.Load) command.Load 1 (keeping none_kept address) in
          ap (λ (o : WordOutcome). at_word o.answer.core o.memory)
          (sym (ap (λ (j : Judged). unwritten (after_words (load_begun k address size j leaving m) contents)) granted)
          ∙ load_in_pieces k m (keeping none_kept address) size place contents granted whole)

    -- a granted command that takes no total past the largest and finds a number
    pub piece_goes : (c : Piece) → Sendable c → {place : ℕ} → judged_of windows c ≡ Ok place → Room dialect tally.totals (write_of c)
        → Goes bus (awaiting windows dialect on begun tally m) (all_units bus (words_of c))
        (awaiting windows dialect on true (tally_of dialect on c tally) (memory_of windows c m)) (heard_of bus c)
    unfolding pick done_at_last after fill_done fill_memory setting_done setting_memory
    piece_goes (load address size contents) sendable {place} granted fits =
        let judged : out_of_numbers (taken command.Load) (overflowing (taken command.Load) size (load_judged windows address size)) ≡ Ok place = unbarred _
        _ _ fits.1 ∙ unbarred _ _ _ fits.0 ∙ granted in
        rw granted
        (words_go (load_opcode ∷ address ∷ size ∷ []) contents (load_begins address size place judged sendable.0.1.0 sendable.0.1.1.0)
        (reaching
        (data_go bus contents (loading address size place judged) m place size refl refl lent sendable.0.1.1.1 refl sendable.1)
        (load_lands address size place judged contents sendable.1)))
    piece_goes (fill address size kind pattern) sendable {place} granted fits =
        command_goes fill_opcode command.Fill address (size ∷ kind ∷ pattern ∷ []) fill_apart (fill_row dialect)
        sendable.0.1 {wrote = bytes_wrote (Ok place) size (settled tally.totals).next} (rw (granted, fits.0, fits.1) refl)
    piece_goes (setting word address value delay) sendable {place} granted fits =
        command_goes setting_opcode command.BootTable word (address ∷ value ∷ delay ∷ []) setting_apart (setting_row dialect)
        sendable.0.1 {wrote = setting_wrote (Ok place) word (settled tally.totals).next} (rw (granted, fits) refl)
