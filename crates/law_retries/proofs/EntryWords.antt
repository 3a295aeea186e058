-- The entries after whole words, on either line: the units of a word stamp what the word tells that it wrote. So the words of a command that is granted stamp
-- its bits by its number: a fill or a setting at its last word, a load in pieces.
use Rattle.std.specs.Prelude.{Ok}
use Prim.Native.Nat.{ℕ, suc, ◌+◌, ◌-◌, ◌*◌, ◌/◌, ◌^◌, ◌≤◌, ◌<◌, min}
use mathlib.Core.Bool.{Bool, true, false}
use mathlib.Core.List.{List, [], ◌∷◌, ◌++◌}
use mathlib.Core.Path.{◌≡◌, refl, sym, ap, ap₂, ◌∙◌}
use native.Mathlib.Omega.{arith}
use lib.Dec.{lit<, lit≤}
use lib.ListN.{length, get_or}
use Rattle.std.specs.declared.result.Result.TheVariants.{Ok}
use Rattle.words.specs.rules.Bytes.{byte}
use Rattle.words.specs.rules.Choice.{pick}
use Rattle.checksum.specs.rules.Checksum as feeding
use Rattle.windows.specs.rules.Window.{sum_of}
use Rattle.windows.specs.declared.Window.{Window}
use Rattle.opcodes.specs.rules.Answers.{code_of}
use Rattle.opcodes.specs.rules.Opcodes.{looked_up, with_words}
use Rattle.opcodes.specs.declared.Command.{Command}
use Rattle.opcodes.specs.declared.Command.TheVariants as command
use Rattle.opcodes.specs.declared.Dialect.{Dialect}
use Rattle.opcodes.specs.declared.Event.{Event}
use Rattle.opcodes.specs.declared.Event.TheVariants.{Nothing, Wait}
use Rattle.opcodes.specs.declared.Mode.TheVariants.{Sent}
use Rattle.ledger.specs.claims.Attempts.{section, wrote}
use Rattle.ledger.specs.rules.Totals.{settled}
use Rattle.ledger.specs.declared.Totals.{Totals}
use Rattle.commands.specs.rules.Commands.{load_judged, fill_done, fill_memory, setting_done, setting_memory, Judged}
use Rattle.stores.specs.rules.Stores.{loaded}
use Rattle.commands.specs.rules.Wrote.{none_wrote, bytes_wrote, setting_wrote}
use Rattle.commands.specs.declared.Wrote.{Wrote}
use Rattle.commands.proofs.Judging.{unbarred}
use Rattle.bit_stamps.specs.rules.Stamps.{stamped}
use Rattle.bit_stamps.proofs.Laws.{stamp_laws}
use Rattle.bit_stamps.proofs.Stamping.{none_written}
use Rattle.sent.specs.rules.Bus.{units_in_word, units_of, all_units, first_unit, pushed}
use Rattle.sent.specs.rules.Feeding.{State, next, fed}
use Rattle.sent.specs.claims.Lift.{at_word, Ready}
use Rattle.sent.specs.rules.Line as line
use Rattle.sent.specs.rules.Line.{carried, is_start}
use Rattle.machine_answers.specs.rules.Answers.{WordOutcome, tallied, await, with_checksum, ◌leaving◌, after}
use Rattle.machine_answers.specs.rules.Counts.{overflowing, out_of_numbers}
use Rattle.machine_loads.specs.rules.Loads.{data_bytes, awaited, load_begun}
use Rattle.machine_commands.specs.rules.Performed.{none_kept, performed}
use Rattle.machine.specs.rules.Machine.{keeping, opening, word_step}
use Rattle.machine_answers.specs.rules.Replies.{silence}
use Rattle.machine.specs.claims.Words.{after_words, asking, done_at_last}
use Rattle.sent.specs.declared.Bus.{Bus}
use Rattle.sent.specs.declared.Bus.TheVariants.{Bytes, Halves}
use Rattle.machine_answers.specs.declared.Core.{Core}
use Rattle.machine_answers.specs.declared.Kept.{Kept}
use Rattle.machine_answers.specs.declared.Phase.TheVariants as phase
use Rattle.machine_answers.specs.declared.Reply.{Reply}
use Rattle.machine_answers.specs.declared.Tally.{Tally}
use Rattle.machine.proofs.ByTheTable.{by_the_table, word_kept, word_last, opcode_asks}
use Rattle.sent.proofs.Cases.{unit_gathered, unit_whole}
use Rattle.sent.proofs.Feeding.{fed_append, units_append}
use Rattle.sent.proofs.Gathering.{holding, bytes_again, halves_again, begins_word, inside-word}
use Rattle.machine.proofs.Laws.{data_step}
use Rattle.sent.proofs.Lift.{accepted_goes}
use Rattle.sent_laws.specs.claims.Lines.{AreWords}
use Rattle.law_retries.specs.claims.Pieces.{Piece, load, fill, setting, words_of, Sendable, judged_of, load_opcode, fill_opcode, setting_opcode}
use Rattle.law_retries.proofs.Taking.{write_of, Room, tally_of, memory_of, running, awaiting, accepted, Apart, taken, load_apart, fill_apart, setting_apart}
use Rattle.law_retries.proofs.Taking.{load_row, fill_row, setting_row, begun_ready, opcode_ready, length_loaded}
use Rattle.bit_watch.specs.rules.Watched.{unit_entries, entries_after}
use Rattle.law_retries.proofs.Covered.{stamped_by, by_append}

-- units lead from one state to another, and stamp these writes
pub record Writes (bus : Bus) (x : State) (us : List ℕ) (y : State) (ws : List Wrote) : Type 0 where
  pub leads : fed bus x us ≡ y
  pub stamps : (places entries : List ℕ) → entries_after bus places entries x us ≡ stamped_by entries places ws

module _ (bus : Bus) where
  pub entries_append : (places entries : List ℕ) (x : State) (us vs : List ℕ)
      → entries_after bus places entries x (us ++ vs) ≡ entries_after bus places (entries_after bus places entries x us) (fed bus x us) vs
  unfolding entries_after fed
  entries_append places entries x [] vs = refl
  entries_append places entries x (u ∷ us) vs =
      entries_append places (unit_entries places entries bus x.session x.memory u) (next bus x u) us vs

  pub nothing_writes : (x : State) → Writes bus x [] x []
  unfolding fed entries_after stamped_by
  nothing_writes x = record { leads = refl; stamps = λ places entries. refl }

infixr 5 ◌so◌
pub ◌so◌ : {bus : Bus} {x y z : State} {us vs : List ℕ} {ws zs : List Wrote} → Writes bus x us y ws → Writes bus y vs z zs
    → Writes bus x (us ++ vs) z (ws ++ zs)
◌so◌ {bus} {x} {y} {z} {us} {vs} {ws} {zs} p q =
    record {
      leads = fed_append bus x us vs ∙ ap (λ (s : State). fed bus s vs) p.leads ∙ q.leads;
      stamps = λ places entries.
          entries_append bus places entries x us vs
          ∙ ap₂ (λ (es : List ℕ) (s : State). entries_after bus places es s vs) (p.stamps places entries) p.leads
          ∙ q.stamps places (stamped_by entries places ws)
          ∙ sym (by_append entries places ws zs);
    }

module _ (bus : Bus) (k : Core) (m : List ℕ) (runs : k.ended ≡ false) (lent : length m ≡ sum_of k.windows) (places : List ℕ) where
  -- a unit that is gathered stamps nothing
  gathers : (have part u : ℕ) → have < units_in_word bus - 1 → is_start bus (holding k have part m).session u ≡ false → (entries us : List ℕ)
      → entries_after bus places entries (holding k have part m) (u ∷ us) ≡ entries_after bus places entries (holding k (have + 1) (pushed bus part u) m) us
  unfolding entries_after
  gathers have part u few other entries us =
      ap (λ (o : line.UnitOutcome).
      entries_after bus places (stamped entries places o.answer.wrote) (record { session = o.answer.session; memory = o.memory }) us)
      (unit_gathered bus (holding k have part m).session m u runs lent other refl few)
      ∙ ap (λ (es : List ℕ). entries_after bus places es (holding k (have + 1) (pushed bus part u) m) us) (none_written entries places none_wrote refl)

  -- the last one stamps what the word wrote
  makes_word : (have part u word : ℕ) → units_in_word bus - 1 ≤ have → is_start bus (holding k have part m).session u ≡ false → pushed bus part u ≡ word
      → (entries : List ℕ) → entries_after bus places entries (holding k have part m) (u ∷ []) ≡ stamped entries places (word_step k m word).answer.wrote
  unfolding entries_after carried
  makes_word have part u word enough other makes entries =
      ap (λ (o : line.UnitOutcome). stamped entries places o.answer.wrote)
      (unit_whole bus (holding k have part m).session m u runs lent other refl enough)
      ∙ ap (λ (w : ℕ). stamped entries places (word_step k m w).answer.wrote) makes

-- the units of a word
word_stamps : (bus : Bus) (k : Core) (m : List ℕ) (word : ℕ) → Ready bus k m word → (places entries : List ℕ)
    → entries_after bus places entries (at_word k m) (units_of bus word) ≡ stamped entries places (word_step k m word).answer.wrote
word_stamps Bytes k m word ready places entries =
    let runs = ready.running in
    let lent = ready.lent in
    gathers Bytes k m runs lent places 0 0 (byte word 0) (lit< tt) (begins_word Bytes k m _ ready.plain) entries _
    ∙ gathers Bytes k m runs lent places 1 _ (byte word 1) (lit< tt) (inside-word Bytes k m 1 _ _ refl) entries _
    ∙ gathers Bytes k m runs lent places 2 _ (byte word 2) (lit< tt) (inside-word Bytes k m 2 _ _ refl) entries _
    ∙ makes_word Bytes k m runs lent places 3 _ (byte word 3) word (lit≤ tt) (inside-word Bytes k m 3 _ _ refl) (bytes_again word ready.small) entries
word_stamps Halves k m word ready places entries =
    let runs = ready.running in
    let lent = ready.lent in
    gathers Halves k m runs lent places 0 0 (first_unit Halves word) (lit< tt) (begins_word Halves k m _ ready.plain) entries _
    ∙ makes_word Halves k m runs lent places 1 _ (get_or (units_of Halves word) 1 0) word (lit≤ tt) (inside-word Halves k m 1 _ _ refl)
    (halves_again word) entries

-- an accepted word, and one that writes nothing
word_writes : (bus : Bus) (k : Core) (m : List ℕ) (word : ℕ) → Ready bus k m word → {o : WordOutcome} → word_step k m word ≡ o → code_of o.answer.refusal ≡ 0
    → Writes bus (at_word k m) (units_of bus word) (at_word o.answer.core o.memory) (o.answer.wrote ∷ [])
unfolding stamped_by
word_writes bus k m word ready e fine =
    record {
      leads = (accepted_goes bus k m word ready e fine).leads;
      stamps = λ places entries.
          word_stamps bus k m word ready places entries ∙ ap (λ (o : WordOutcome). stamped entries places o.answer.wrote) e;
    }

pub silent_word : (bus : Bus) (k : Core) (m : List ℕ) (word : ℕ) → Ready bus k m word → {o : WordOutcome} → word_step k m word ≡ o
    → code_of o.answer.refusal ≡ 0
    → o.answer.wrote ≡ none_wrote → Writes bus (at_word k m) (units_of bus word) (at_word o.answer.core o.memory) []
unfolding stamped_by
silent_word bus k m word ready e fine none =
    let writes = word_writes bus k m word ready e fine in
    record {
      leads = writes.leads;
      stamps = λ places entries.
          writes.stamps places entries ∙ ap (stamped entries places) none ∙ none_written entries places none_wrote refl;
    }

-- the data of a load, in pieces
data_stamps : (bus : Bus) (places : List ℕ) (ws : List ℕ) (k : Core) (m entries : List ℕ) (p n : ℕ) → k.ended ≡ false → k.begun ≡ true
    → length m ≡ sum_of k.windows → AreWords ws → k.stage.phase ≡ awaited (p + n) n → length ws ≡ (n + 3) / 4
    → entries_after bus places entries (at_word k m) (all_units bus ws) ≡ stamped entries places (bytes_wrote (Ok p) n (k.tally.totals.next - 1))
unfolding entries_after stamped_by
data_stamps bus places [] k m entries p n runs since lent small at whole =
    let none : 8 * n ≡ 0 = omega (arith, whole) in
    sym (none_written entries places (bytes_wrote (Ok p) n (k.tally.totals.next - 1)) none)
data_stamps bus places (w ∷ ws) k m entries p n runs since lent small at whole =
    let more : 0 < n = omega arith in
    let end : p + n ≡ p + min n 4 + (n - 4) = omega arith in
    let step = data_step k m p n w more at in
    let number : ℕ = k.tally.totals.next - 1 in
    let later = await k (with_checksum k (pick k.on (feeding.fed k.tally.checksum w (8 * min n 4)) k.tally.checksum)) (awaited (p + n) (n - 4)) in
    let word = word_writes bus k m w (begun_ready bus k m w runs since lent small.0) step refl in
    let rest =
    data_stamps bus places ws later (loaded m p (data_bytes w n)) (stamped entries places (bytes_wrote (Ok p) (min n 4) number)) (p + min n 4) (n - 4) runs
    since
    (length_loaded m p (data_bytes w n) ∙ lent) small.1 (ap (λ (e : ℕ). awaited e (n - 4)) end) (omega arith) in
    entries_append bus places entries (at_word k m) (units_of bus w) (all_units bus ws)
    ∙ ap₂ (λ (es : List ℕ) (x : State). entries_after bus places es x (all_units bus ws)) (word.stamps places entries) word.leads
    ∙ rest
    ∙ (stamp_laws entries places).in_pieces (bytes_wrote (Ok p) (min n 4) number) (bytes_wrote (Ok (p + min n 4)) (n - 4) number)
    (bytes_wrote (Ok p) n number)
    (record { low = refl; next = omega arith; count = omega arith; numbers = (refl, refl) })

module _ (bus : Bus) (windows : List Window) (dialect : Dialect) (on : Bool) where
  module _ (c : Command) (tally : Tally) (m : List ℕ) (lent : length m ≡ sum_of windows) where
    abbrev core : Core
    core = running windows dialect on true tally phase.Opcode

    -- the argument words that are left
    arguments_write : (kept : Kept) (word : ℕ) (rest : List ℕ) → AreWords (word ∷ rest)
        → {reply : Reply} {event : Event} {k : Core} {told : Wrote} {left : List ℕ}
        → done_at_last c core m kept word rest ≡ accepted reply event k told left
        → Writes bus (at_word (asking core c (suc (length rest)) kept) m) (all_units bus (word ∷ rest)) (at_word k left) (told ∷ [])
    unfolding done_at_last
    arguments_write kept word [] small e =
        word_writes bus _ m word (begun_ready bus _ m word refl refl lent small.0) (word_last c core m kept word ∙ e) refl so nothing_writes bus _
    arguments_write kept word (next ∷ rest) small e =
        silent_word bus _ m word (begun_ready bus _ m word refl refl lent small.0) (word_kept c core m kept word (length rest)) refl refl
        so arguments_write (keeping kept word) next rest small.1 e

  module _ (begun : Bool) (tally : Tally) (m : List ℕ) (lent : length m ≡ sum_of windows) where
    -- a command up to the word that decides
    command_writes : (opcode : ℕ) (c : Command) (word : ℕ) (rest : List ℕ) → Apart opcode
        → looked_up opcode Sent dialect ≡ Ok (with_words c (suc (length rest)))
        → AreWords (word ∷ rest) → {reply : Reply} {event : Event} {k : Core} {told : Wrote} {left : List ℕ}
        → done_at_last c (taken bus windows dialect on begun tally m lent c) m none_kept word rest ≡ accepted reply event k told left
        → Writes bus (awaiting windows dialect on begun tally m) (all_units bus (opcode ∷ word ∷ rest)) (at_word k left) (told ∷ [])
    command_writes opcode c word rest apart known small e =
        silent_word bus _ m opcode (opcode_ready bus windows dialect on begun tally m lent opcode apart) (opcode_asks _ m opcode (length rest) refl known)
        refl refl
        so arguments_write c _ m lent none_kept word rest small e

    -- an opcode that has no words, and writes nothing
    pub opcode_silent : (opcode : ℕ) (c : Command) → Apart opcode → looked_up opcode Sent dialect ≡ Ok (with_words c 0)
        → {reply : Reply} {event : Event} {k : Core} {left : List ℕ}
        → opening opcode (performed c (taken bus windows dialect on begun tally m lent c) m none_kept 0) ≡ accepted reply event k none_wrote left
        → Writes bus (awaiting windows dialect on begun tally m) (units_of bus opcode) (at_word k left) []
    unfolding after_words
    opcode_silent opcode c apart known e =
        silent_word bus _ m opcode (opcode_ready bus windows dialect on begun tally m lent opcode apart)
        (by_the_table.done _ m opcode c 0 [] refl known refl ∙ e) refl refl

    module _ (address size place : ℕ)
        (granted : out_of_numbers (taken bus windows dialect on begun tally m lent command.Load)
        (overflowing (taken bus windows dialect on begun tally m lent command.Load) size (load_judged windows address size)) ≡ Ok place) where
      -- a load, granted at its size word, and its data
      abbrev loading : Core
      loading =
          running windows dialect on true
          (tallied (pick on (feeding.fed_words tally.checksum (address ∷ size ∷ [])) tally.checksum) (wrote dialect tally.totals (section size)))
          (awaited (place + size) size)

      load_begins : address < 2 ^ 32 → size < 2 ^ 32
          → Writes bus (awaiting windows dialect on begun tally m) (all_units bus (load_opcode ∷ address ∷ size ∷ [])) (at_word loading m) (none_wrote ∷ [])
      unfolding done_at_last
      load_begins address< size< =
          command_writes load_opcode command.Load address (size ∷ []) load_apart (load_row dialect) (address<, (size<, tt))
          (ap (λ (j : Judged). load_begun (asking (taken bus windows dialect on begun tally m lent command.Load) command.Load 1 (keeping none_kept address))
          address size j leaving m) granted)

      load_stamps : (contents : List ℕ) → address < 2 ^ 32 → size < 2 ^ 32 → AreWords contents → length contents ≡ (size + 3) / 4 → (places entries : List ℕ)
          → entries_after bus places entries (awaiting windows dialect on begun tally m) (all_units bus (load_opcode ∷ address ∷ size ∷ contents))
          ≡ stamped entries places (bytes_wrote (Ok place) size ((wrote dialect tally.totals (section size)).next - 1))
      unfolding stamped_by
      load_stamps contents address< size< small whole places entries =
          let begins = load_begins address< size< in
          ap (entries_after bus places entries (awaiting windows dialect on begun tally m)) (units_append bus (load_opcode ∷ address ∷ size ∷ []) contents)
          ∙ entries_append bus places entries _ (all_units bus (load_opcode ∷ address ∷ size ∷ [])) (all_units bus contents)
          ∙ ap₂ (λ (es : List ℕ) (x : State). entries_after bus places es x (all_units bus contents))
          (begins.stamps places entries ∙ none_written entries places none_wrote refl) begins.leads
          ∙ data_stamps bus places contents loading m entries place size refl refl lent small refl whole

    fill_writes : (address size kind pattern : ℕ) → Sendable (fill address size kind pattern) → {place : ℕ}
        → judged_of windows (fill address size kind pattern) ≡ Ok place → Room dialect tally.totals (section size)
        → Writes bus (awaiting windows dialect on begun tally m) (all_units bus (words_of (fill address size kind pattern)))
        (awaiting windows dialect on true (tally_of dialect on (fill address size kind pattern) tally) (memory_of windows (fill address size kind pattern) m))
        (bytes_wrote (Ok place) size (settled tally.totals).next ∷ [])
    unfolding pick done_at_last after fill_done fill_memory
    fill_writes address size kind pattern sendable granted fits =
        command_writes fill_opcode command.Fill address (size ∷ kind ∷ pattern ∷ []) fill_apart (fill_row dialect)
        sendable.0.1 {reply = silence} {event = Nothing} (rw (granted, fits.0, fits.1) refl)

    setting_writes : (word address value delay : ℕ) → Sendable (setting word address value delay) → {place : ℕ}
        → judged_of windows (setting word address value delay) ≡ Ok place → Room dialect tally.totals (write_of (setting word address value delay))
        → Writes bus (awaiting windows dialect on begun tally m) (all_units bus (words_of (setting word address value delay)))
        (awaiting windows dialect on true (tally_of dialect on (setting word address value delay) tally)
        (memory_of windows (setting word address value delay) m))
        (setting_wrote (Ok place) word (settled tally.totals).next ∷ [])
    unfolding pick done_at_last after setting_done setting_memory
    setting_writes word address value delay sendable granted fits =
        command_writes setting_opcode command.BootTable word (address ∷ value ∷ delay ∷ []) setting_apart (setting_row dialect)
        sendable.0.1 {reply = silence} {event = Wait delay} (rw (granted, fits) refl)

-- what a command tells that it wrote, from a place on: its bits, by the number that it takes
abbrev pub wrote_at : Dialect → Totals → Piece → ℕ → Wrote
wrote_at dialect t (load address size contents) place = bytes_wrote (Ok place) size ((wrote dialect t (section size)).next - 1)
wrote_at dialect t (fill address size kind pattern) place = bytes_wrote (Ok place) size (settled t).next
wrote_at dialect t (setting word address value delay) place = setting_wrote (Ok place) word (settled t).next

pub piece_stamps : (bus : Bus) (windows : List Window) (dialect : Dialect) (on begun : Bool) (tally : Tally) (m : List ℕ) → length m ≡ sum_of windows
    → (c : Piece) → Sendable c → {place : ℕ} → judged_of windows c ≡ Ok place → Room dialect tally.totals (write_of c) → (places entries : List ℕ)
    → entries_after bus places entries (awaiting windows dialect on begun tally m) (all_units bus (words_of c)) ≡ stamped entries places
    (wrote_at dialect tally.totals c place)
unfolding stamped_by
piece_stamps bus windows dialect on begun tally m lent (load address size contents) sendable {place} granted fits places entries =
    let judged : out_of_numbers (taken bus windows dialect on begun tally m lent command.Load)
    (overflowing (taken bus windows dialect on begun tally m lent command.Load) size (load_judged windows address size)) ≡ Ok place =
    unbarred _ _ _ fits.1 ∙ unbarred _ _ _ fits.0 ∙ granted in
    load_stamps bus windows dialect on begun tally m lent address size place judged contents sendable.0.1.0 sendable.0.1.1.0 sendable.0.1.1.1
    sendable.1 places entries
piece_stamps bus windows dialect on begun tally m lent (fill address size kind pattern) sendable granted fits places entries =
    (fill_writes bus windows dialect on begun tally m lent address size kind pattern sendable granted fits).stamps places entries
piece_stamps bus windows dialect on begun tally m lent (setting word address value delay) sendable granted fits places entries =
    (setting_writes bus windows dialect on begun tally m lent word address value delay sendable granted fits).stamps places entries
