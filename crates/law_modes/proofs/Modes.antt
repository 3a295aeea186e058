-- Both modes do the same with the same words. A flash session like a sent one has its windows, dialect, end, switch, checksum and settled totals; a call comes
-- to the command by the table, the words sent come to it by the table too, and there each command is judged and done by one definition.
use Rattle.opcodes.specs.declared.Refusal.TheVariants as why
use Rattle.opcodes.specs.declared.Refusal.{Refusal}
use Rattle.std.specs.Prelude.{Ok, Err}
use Prim.Native.Nat.{ℕ, ◌+◌, ◌*◌, ◌≤◌, ◌<◌}
use mathlib.Core.Bool.{Bool, true, false, false≢true}
use mathlib.Core.List.{List, [], ◌∷◌}
use mathlib.Core.Path.{◌≡◌, refl, sym, ap, subst, subst₂, ◌∙◌}
use native.Mathlib.Omega.{arith}
use lib.Dec.{eqb}
use lib.ListN.{length, get_or}
use borrow.Author.Tests.{eq-eqb, eqb-true}
use Rattle.std.specs.declared.result.Result.TheVariants.{Ok}
use Rattle.words.specs.rules.Bytes.{word_at}
use Rattle.words.specs.rules.Choice.{pick}
use Rattle.words.proofs.Choice.{chosen, of_choice}
use Rattle.opcodes.specs.rules.Answers.{code_of}
use Rattle.opcodes.specs.rules.Opcodes.{rows, row_serves, found_in, looked_up, with_words}
use Rattle.opcodes.specs.declared.Command.{Command}
use Rattle.opcodes.specs.declared.Command.TheVariants as command
use Rattle.opcodes.specs.declared.Dialect.{Dialect}
use Rattle.opcodes.specs.declared.Dialect.TheVariants.{Am17xx, Dm648}
use Rattle.opcodes.specs.declared.Event.TheVariants.{Nothing}
use Rattle.opcodes.specs.declared.Mode.TheVariants.{Flash, Sent}
use Rattle.opcodes.specs.rules.Refusals.{Verdict}
use Rattle.opcodes.specs.rules.Refusals.{None}
use Rattle.opcodes.proofs.Counts.{row_is, row-is}
use Rattle.ledger.specs.rules.Totals.{counted, is_spent, numbered, marked, settled, in_flash}
use Rattle.ledger.specs.declared.Happening.{Happening}
use Rattle.ledger.specs.declared.Happening.TheVariants as happened
use Rattle.ledger.specs.declared.Totals.{Totals}
use Rattle.ledger.proofs.Laws.{stays, settled_asks_nothing, settled_once, marked_settled, settled_asking, counted_keeps}
use Rattle.commands.specs.rules.Commands.{load_judged, sought_from, Judged, Sought}
use Rattle.stores.specs.rules.Stores.{loaded, load_fed}
use Rattle.commands.specs.rules.Wrote.{none_wrote}
use Rattle.commands.specs.declared.Done.{Done}
use Rattle.commands.specs.declared.Wrote.{Wrote}
use Rattle.commands.proofs.Judging.{unbarred, bars}
use Rattle.flash_session.specs.rules.Sessions as flash
use Rattle.flash_commands.specs.rules.Commands as flash-commands
use Rattle.flash.specs.rules.Step as step
use Rattle.flash.specs.rules.Step.{step_of}
use Rattle.flash_session.specs.declared.Called.{Called}
use Rattle.flash_session.specs.declared.Session.{Session}
use Rattle.reading.specs.rules.Reading.{past_words, argument, data_words}
use Rattle.reading.proofs.Reading.{there as are-present}
use Rattle.flash.proofs.Cases.{load_spent, load_whole, call_whole}
use Rattle.machine_answers.specs.rules.Answers as machine
use Rattle.machine_answers.specs.rules.Counts.{counted_on, overflowing, out_of_numbers}
use Rattle.machine_loads.specs.rules.Loads.{load_begun}
use Rattle.machine_commands.specs.rules.Performed.{none_kept}
use Rattle.machine.specs.rules.Machine.{keeping, acknowledging, begun, word_step}
use Rattle.machine_answers.specs.rules.Replies.{silence, farewell}
use Rattle.machine.specs.claims.Words.{after_words, asking, done_at_last, done_with}
use Rattle.machine_answers.specs.declared.Core.{Core}
use Rattle.machine_answers.specs.declared.Phase.TheVariants.{Opcode}
use Rattle.machine_answers.specs.declared.Taken.{Taken}
use Rattle.machine.proofs.ByTheTable.{after_append, by_the_table}
use Rattle.machine.proofs.Laws.{unwritten, load_in_pieces}
use Rattle.law_modes.specs.claims.Modes.{Alike, Same, words_at, Before, sent_with, SameLoad, request_sent, RequestByMode, RowsOf, BothModes, SharedRows}
use Rattle.law_modes.proofs.ImageWords.{data-bytes, words_length}

-- the flash session that is like a sent one, with some totals
abbrev like : Core → Totals → ℕ → ℕ → ℕ → ℕ → ℕ → Session
like k totals offset length limit retries fetched =
    record {
      windows = k.windows;
      dialect = k.dialect;
      totals = totals;
      ended = k.ended;
      on = k.on;
      checksum = k.tally.checksum;
      offset = offset;
      length = length;
      limit = limit;
      retries = retries;
      fetched = fetched;
    }

alike_like : (s : Session) (k : Core) → Alike s k → s ≡ like k (settled k.tally.totals) s.offset s.length s.limit s.retries s.fetched
alike_like s k a =
    λ i. record {
      windows = a.windows i;
      dialect = a.dialect i;
      totals = a.totals i;
      ended = a.ended i;
      on = a.on i;
      checksum = a.checksum i;
      offset = s.offset;
      length = s.length;
      limit = s.limit;
      retries = s.retries;
      fetched = s.fetched;
    }

-- an argument word, by its place
argument_at : (image : List ℕ) (offset i at : ℕ) → at ≡ offset + 4 + 4 * i → word_at image at ≡ argument image offset i
unfolding argument
argument_at image offset i at e = ap (word_at image) e

-- what settled totals count and number stays settled
counted_settled : (dialect : Dialect) (t : Totals) (size : ℕ)
    → numbered (counted dialect (settled t) size) ≡ settled (numbered (counted dialect (settled t) size))
counted_settled dialect t size = sym (stays _ ((counted_keeps dialect (settled t) size).1 ∙ settled_asks_nothing t))

numbered_settled : (t : Totals) → numbered (settled t) ≡ settled (numbered (settled t))
numbered_settled t = sym (stays _ (settled_asks_nothing t))

-- what was written is no part of it
written_same : (wrote : Wrote) {a : Called} {b : Taken} {m n : List ℕ} → Same (flash.◌leaving◌ a m) (machine.◌leaving◌ b n)
    → Same (flash.◌leaving◌ a m) (machine.◌leaving◌ (machine.writing wrote b) n)
written_same wrote same = record { refusal = same.refusal; event = same.event; memory = same.memory; alike = same.alike }

unwritten_same : {o : flash.CallOutcome} (p : machine.WordOutcome) → Same o (unwritten p) → Same o p
unwritten_same p same = record { refusal = same.refusal; event = same.event; memory = same.memory; alike = same.alike }

-- and so does a mark
marked_stays : (t : Totals) → marked (settled t) ≡ settled (marked t)
marked_stays t = marked_settled t ∙ sym (stays (marked t) refl)

module _ (k : Core) (totals : Totals) (same : totals ≡ settled k.tally.totals) (h : Happening)
    (still : in_flash k.dialect totals h ≡ settled (in_flash k.dialect totals h)) (offset size limit retries fetched : ℕ) where
  -- what the totals are where it is accepted
  abbrev left : Totals
  left = in_flash k.dialect totals h

  abbrev s : Session
  s = like k totals offset size limit retries fetched

  -- a command that was judged and done
  done_same : (wrote : Wrote) (done : Done) (n : ℕ) (memory : List ℕ)
      → Same (flash.◌leaving◌ (flash.after s h wrote done n) memory) (machine.◌leaving◌ (machine.after k left done) memory)
  unfolding flash.after machine.after pick
  done_same wrote done n memory = go (eqb (code_of done.refusal) 0)
    where
      go : (t : Bool) → Same
          (flash.◌leaving◌
          (pick t (flash.accepted_as s h wrote done.event (flash.go_to s done.checksum n)) (flash.stopped done.refusal s)) memory)
          (machine.◌leaving◌
          (pick t (record {
            refusal = None;
            reply = silence;
            event = done.event;
            core = machine.await k (machine.tallied done.checksum left) Opcode;
            wrote = none_wrote;
          })
          (machine.refused k done.refusal)) memory)
      go true =
          record {
            refusal = refl;
            event = refl;
            memory = refl;
            alike = record { windows = refl; dialect = refl; ended = refl; on = refl; checksum = refl; totals = still };
          }
      go false =
          record {
            refusal = refl;
            event = refl;
            memory = refl;
            alike = record { windows = refl; dialect = refl; ended = refl; on = refl; checksum = refl; totals = same };
          }

  -- a refused close, whichever way its end is told
  refused_same : (q : Verdict) (memory : List ℕ) (t : Bool) → Same (flash.◌leaving◌ (flash-commands.entered (flash.stopped q s)) memory)
      (machine.◌leaving◌
      (pick t (record { refusal = q; reply = farewell k.dialect; event = Nothing; core = machine.stop (machine.stop k); wrote = none_wrote })
      (machine.refused k q)) memory)
  refused_same q memory t =
      of_choice (λ (x : Taken). Same (flash.◌leaving◌ (flash-commands.entered (flash.stopped q s)) memory) (machine.◌leaving◌ x memory)) t
      (λ e. record {
        refusal = refl;
        event = refl;
        memory = refl;
        alike = record { windows = refl; dialect = refl; ended = refl; on = refl; checksum = refl; totals = same };
      })
      (λ e. record {
        refusal = refl;
        event = refl;
        memory = refl;
        alike = record { windows = refl; dialect = refl; ended = refl; on = refl; checksum = refl; totals = same };
      })

  -- a close that was judged and done
  close_done_same : (wrote : Wrote) (done : Done) (n : ℕ) (memory : List ℕ)
      → Same (flash.◌leaving◌ (flash-commands.entered (flash.after s h wrote done n)) memory)
      (machine.◌leaving◌ (machine.entered (machine.after k left done)) memory)
  unfolding flash.after machine.after machine.entered pick
  close_done_same wrote done n memory = go (eqb (code_of done.refusal) 0)
    where
      go : (t : Bool) → Same
          (flash.◌leaving◌
          (flash-commands.entered
          (pick t (flash.accepted_as s h wrote done.event (flash.go_to s done.checksum n)) (flash.stopped done.refusal s)))
          memory)
          (machine.◌leaving◌
          (machine.entered
          (pick t (record {
            refusal = None;
            reply = silence;
            event = done.event;
            core = machine.await k (machine.tallied done.checksum left) Opcode;
            wrote = none_wrote;
          })
          (machine.refused k done.refusal)))
          memory)
      go true =
          record {
            refusal = refl;
            event = refl;
            memory = refl;
            alike = record { windows = refl; dialect = refl; ended = refl; on = refl; checksum = refl; totals = still };
          }
      go false = refused_same done.refusal memory (eqb (code_of done.refusal) 0)

-- a core in a dialect
abbrev within : Dialect → Core → Core
within d k =
    record { windows = k.windows; dialect = d; ended = k.ended; on = k.on; begun = k.begun; tally = k.tally; stage = k.stage }

module _ (k : Core) (offset size limit retries fetched : ℕ) (m image : List ℕ) (opcode : ℕ) where
  abbrev session : Session
  session = like k (settled k.tally.totals) offset size limit retries fetched

  once : settled k.tally.totals ≡ settled (settled k.tally.totals)
  once = sym (settled_once k.tally.totals)

  -- each command with its words, however these were read
  fill_same : (next a b c d : ℕ) → a ≡ argument image offset 0 → b ≡ argument image offset 1 → c ≡ argument image offset 2 → d ≡ argument image offset 3
      → Same (step.performed command.Fill next session m image) (done_with opcode command.Fill (begun command.Fill k) m (a ∷ b ∷ c ∷ d ∷ []))
  unfolding done_at_last
  fill_same next a b c d p q r t =
      rw (p, q, r, t)
      (written_same _
      (done_same (asking (begun command.Fill k) command.Fill 1 _) (settled k.tally.totals) once (happened.Section (argument image offset 1))
      (counted_settled k.dialect k.tally.totals _) offset size limit retries fetched _ _ next _))

  setting_same : (next a b c d : ℕ) → a ≡ argument image offset 0 → b ≡ argument image offset 1 → c ≡ argument image offset 2 → d ≡ argument image offset 3
      → Same (step.performed command.BootTable next session m image) (done_with opcode command.BootTable (begun command.BootTable k) m (a ∷ b ∷ c ∷ d ∷ []))
  unfolding done_at_last
  setting_same next a b c d p q r t =
      rw (p, q, r, t)
      (written_same _
      (done_same (asking (begun command.BootTable k) command.BootTable 1 _) (settled k.tally.totals) once happened.Setting
      (numbered_settled k.tally.totals)
      offset size limit retries fetched _ _ next _))

  -- where the words stand in the image
  places : (i at : ℕ) → at ≡ offset + 4 + 4 * i → word_at image at ≡ argument image offset i
  places i at e = argument_at image offset i at e

  -- Jump & Close in a dialect, with one word or with three
  abbrev in-dialect : Dialect → Session
  in-dialect d = like (within d k) (settled k.tally.totals) offset size limit retries fetched

  close_am : (next a : ℕ) → a ≡ argument image offset 0
      → Same (step.performed command.JumpAndClose next (in-dialect Am17xx) m image)
      (done_with opcode command.JumpAndClose (begun command.JumpAndClose (within Am17xx k)) m (a ∷ []))
  unfolding done_at_last
  close_am next a p =
      rw p
      (close_done_same (asking (begun command.JumpAndClose (within Am17xx k)) command.JumpAndClose 1 none_kept) (settled k.tally.totals) once
      happened.Other once offset size limit
      retries fetched _ _ next m)

  close_dm : (next a b c : ℕ) → a ≡ argument image offset 0 → b ≡ argument image offset 1 → c ≡ argument image offset 2
      → Same (step.performed command.JumpAndClose next (in-dialect Dm648) m image)
      (done_with opcode command.JumpAndClose (begun command.JumpAndClose (within Dm648 k)) m (a ∷ b ∷ c ∷ []))
  unfolding done_at_last
  close_dm next a b c p q r =
      rw (p, q, r)
      (close_done_same (asking (begun command.JumpAndClose (within Dm648 k)) command.JumpAndClose 1 _) (settled k.tally.totals) once happened.Other once
      offset size limit
      retries fetched _ _ next m)

  close_same : (d : Dialect) (words : ℕ) → row_is Flash d command.JumpAndClose words ≡ true
      → Same (step.performed command.JumpAndClose (past_words offset words) (in-dialect d) m image)
      (done_with opcode command.JumpAndClose (begun command.JumpAndClose (within d k)) m (words_at image (offset + 4) words))
  unfolding words_at row_is
  close_same Am17xx words f = rw (eqb-true words 1 f) (close_am _ _ (argument_at image offset 0 _ (omega arith)))
  close_same Dm648 words f =
      rw (eqb-true words 3 f)
      (close_dm _ _ _ _ (argument_at image offset 0 _ (omega arith)) (argument_at image offset 1 _ (omega arith))
      (argument_at image offset 2 _ (omega arith)))

  by_command : (c : Command) (words : ℕ) → (c ≡ command.Load → ⊥) → row_is Flash k.dialect c words ≡ true → row_is Sent k.dialect c words ≡ true
      → Same (step.performed c (past_words offset words) session m image) (done_with opcode c (begun c k) m (words_at image (offset + 4) words))
  unfolding words_at row_is acknowledging pick
  by_command command.Load words other f s = absurd (other refl)
  by_command command.Fill words other f s =
      rw (eqb-true words 4 f)
      (fill_same _ _ _ _ _ (places 0 _ (omega arith)) (places 1 _ (omega arith)) (places 2 _ (omega arith)) (places 3 _ (omega arith)))
  by_command command.BootTable words other f s =
      rw (eqb-true words 4 f)
      (setting_same _ _ _ _ _ (places 0 _ (omega arith)) (places 1 _ (omega arith)) (places 2 _ (omega arith)) (places 3 _ (omega arith)))
  by_command command.Enable words other f s =
      rw (eqb-true words 0 f)
      (record {
        refusal = refl;
        event = refl;
        memory = refl;
        alike = record { windows = refl; dialect = refl; ended = refl; on = refl; checksum = refl; totals = marked_stays k.tally.totals };
      })
  by_command command.Disable words other f s =
      rw (eqb-true words 0 f)
      (record {
        refusal = refl;
        event = refl;
        memory = refl;
        alike = record { windows = refl; dialect = refl; ended = refl; on = refl; checksum = refl; totals = once };
      })
  by_command command.Request words other f s = absurd (omega (arith, eqb-true words 2 f, eqb-true words 0 s))
  by_command command.StartOver words other f s = absurd (false≢true f)
  by_command command.JumpAndClose words other f s = close_same k.dialect words f
  by_command command.Ping words other f s = absurd (false≢true f)
  by_command command.SequentialRead words other f s = absurd (false≢true s)

  -- Load, however its words were read
  load_read : {address size : ℕ} {judged : Judged} → address ≡ argument image offset 0 → size ≡ argument image offset 1
      → judged ≡ flash-commands.overflowing session size (load_judged k.windows address size)
      → step.load_judged_as session m image (past_words offset 2) address size judged ≡ step.performed command.Load (past_words offset 2) session m image
  load_read p q j = rw (j, p, q)

  -- refused and granted
  load_refused_same : (a b : ℕ) → a ≡ argument image offset 0 → b ≡ argument image offset 1 → (q : Refusal)
      → flash-commands.overflowing session (argument image offset 1) (load_judged k.windows (argument image offset 0) (argument image offset 1)) ≡ Err q
      → Same (step.performed command.Load (past_words offset 2) session m image) (done_with opcode command.Load (begun command.Load k) m (a ∷ b ∷ []))
  unfolding done_at_last
  load_refused_same a b p r q judged =
      rw (p, r)
      (subst
      (λ (j : Judged). Same (step.load_judged_as session m image (past_words offset 2) (argument image offset 0) (argument image offset 1) j)
      (machine.◌leaving◌
      (load_begun (asking (begun command.Load k) command.Load 1 (keeping none_kept (argument image offset 0))) (argument image offset 0)
      (argument image offset 1) (out_of_numbers (begun command.Load k) j)) m))
      (sym judged)
      (record {
        refusal = refl;
        event = refl;
        memory = refl;
        alike = record { windows = refl; dialect = refl; ended = refl; on = refl; checksum = refl; totals = once };
      }))

  -- no number for it
  load_spent_same : (a b : ℕ) → a ≡ argument image offset 0 → b ≡ argument image offset 1 → (place : ℕ)
      → flash-commands.overflowing session b (load_judged k.windows a b) ≡ Ok place → is_spent (settled k.tally.totals) ≡ true
      → past_words offset 2 + 4 * data_words b ≤ length image
      → Same (step.performed command.Load (past_words offset 2) session m image) (done_with opcode command.Load (begun command.Load k) m (a ∷ b ∷ []))
  unfolding done_at_last
  load_spent_same a b p r place judged spent there =
      let reached : Core = asking (begun command.Load k) command.Load 1 (keeping none_kept a) in
      let in-flash = sym (load_read p r (sym judged)) ∙ load_spent session m image (past_words offset 2) a b place (are-present image _ _ there) spent in
      let sent : out_of_numbers reached (overflowing reached b (load_judged k.windows a b)) ≡ Err why.Number =
      ap (out_of_numbers reached) judged ∙ bars _ _ place spent in
      subst₂ Same (sym in-flash) (sym (ap (λ (j : Judged). machine.◌leaving◌ (load_begun reached a b j) m) sent))
      (record {
        refusal = refl;
        event = refl;
        memory = refl;
        alike = record { windows = refl; dialect = refl; ended = refl; on = refl; checksum = refl; totals = once };
      })

  load_granted_same : (a b : ℕ) → a ≡ argument image offset 0 → b ≡ argument image offset 1 → (place : ℕ)
      → flash-commands.overflowing session b (load_judged k.windows a b) ≡ Ok place → is_spent (settled k.tally.totals) ≡ false
      → ((i : ℕ) → get_or image i 0 < 256) → past_words offset 2 + 4 * data_words b ≤ length image
      → Same (step.performed command.Load (past_words offset 2) session m image)
      (after_words (done_with opcode command.Load (begun command.Load k) m (a ∷ b ∷ [])) (words_at image (past_words offset 2) (data_words b)))
  unfolding done_at_last
  load_granted_same a b p r place judged unspent small there =
      let reached : Core = asking (begun command.Load k) command.Load 1 (keeping none_kept a) in
      let words : List ℕ = words_at image (past_words offset 2) (data_words b) in
      let in-flash = sym (load_read p r (sym judged)) ∙ load_whole session m image (past_words offset 2) a b place (are-present image _ _ there) unspent in
      let sent = load_in_pieces reached m (keeping none_kept a) b place words (unbarred _ _ _ unspent ∙ judged)
      (words_length image (data_words b) (past_words offset 2)) in
      unwritten_same _
      (subst₂ Same (sym in-flash)
      (sym
      (sent
      ∙ ap
      (λ (bytes : List ℕ). machine.◌leaving◌
      (machine.quiet
      (machine.await reached (machine.tallied (pick k.on (load_fed k.tally.checksum a bytes) k.tally.checksum) (counted_on reached b)) Opcode))
      (loaded m place bytes))
      (data-bytes image small b (past_words offset 2) there)))
      (record {
        refusal = refl;
        event = refl;
        memory = refl;
        alike = record { windows = refl; dialect = refl; ended = refl; on = refl; checksum = refl; totals = counted_settled k.dialect k.tally.totals b };
      }))

-- a call comes to the command of its row, its words fetched
called : (s : Session) (m image : List ℕ) (k : Core) → Before s m image k → (c : Command) (words : ℕ)
    → looked_up (word_at image s.offset) Flash s.dialect ≡ Ok (with_words c words) → past_words s.offset words ≤ length image
    → step_of s m image ≡ step.performed c (past_words s.offset words) (flash.fetching (1 + words) s) m image
called s m image k b c words known there = call_whole s m image b.running b.lent b.sound c words known there

-- a Request in flash mode leaves event, switch and checksum alike in each of its cases
record Quiet (s : Session) (a : Called) : Type 0 where
  event : a.event ≡ Nothing
  on : a.session.on ≡ s.on
  checksum : a.session.checksum ≡ 0

sought_quiet : (s : Session) (led : Sought) → Quiet s (flash-commands.sought_as s led)
sought_quiet s (Ok offset) = record { event = refl; on = refl; checksum = refl }
sought_quiet s (Err q) = record { event = refl; on = refl; checksum = refl }

requested_quiet : (s : Session) (next expected seek : ℕ) → Quiet s (flash-commands.requested s next expected seek)
unfolding flash-commands.requested
requested_quiet s next expected seek =
    of_choice (Quiet s) _ (λ e. record { event = refl; on = refl; checksum = refl })
    (λ e. of_choice (Quiet s) _ (λ e. record { event = refl; on = refl; checksum = refl }) (λ e. sought_quiet s (sought_from s.offset seek)))

-- the three laws, for the flash session that is like the sent one
module _ (m image : List ℕ) (k : Core) (offset size limit retries fetched : ℕ)
    (b : Before (like k (settled k.tally.totals) offset size limit retries fetched) m image k) where
  abbrev here : Session
  here = like k (settled k.tally.totals) offset size limit retries fetched

  abbrev word : ℕ
  word = word_at image offset

  -- what the words sent come to
  sent_done : (c : Command) (words : ℕ) → looked_up word Sent k.dialect ≡ Ok (with_words c words)
      → sent_with here m image k (words_at image (offset + 4) words) ≡ done_with word c (begun c k) m (words_at image (offset + 4) words)
  sent_done c words known = by_the_table.done k m word c words (words_at image (offset + 4) words) b.awaits known (words_length image words (offset + 4))

  command_like : (c : Command) (words : ℕ) → (c ≡ command.Load → ⊥) → RowsOf k.dialect word c words words → past_words offset words ≤ length image
      → Same (step_of here m image) (sent_with here m image k (words_at image (offset + 4) words))
  command_like c words other rows there =
      subst₂ Same (sym (called here m image k b c words rows.in-flash there)) (sym (sent_done c words rows.in_sent))
      (by_command k offset size limit retries (flash.counted_on fetched (1 + words)) m image word c words other
      (row-is Flash k.dialect word c words rows.in-flash)
      (row-is Sent k.dialect word c words rows.in_sent))

  load_like : RowsOf k.dialect word command.Load 2 2 → past_words offset 2 ≤ length image → SameLoad here m image k
  unfolding words_at argument
  load_like rows there =
      let first = argument_at image offset 0 (offset + 4) (omega arith) in
      let second = argument_at image offset 1 (offset + 4 + 4) (omega arith) in
      let in-flash = sym (called here m image k b command.Load 2 rows.in-flash there) in
      let in_sent = sent_done command.Load 2 rows.in_sent in
      record {
        refused = λ q judged.
            subst₂ Same in-flash (sym in_sent) (load_refused_same k offset size limit retries (flash.counted_on fetched 3) m image word _ _ first second q
            judged);
        spent = λ place judged none all.
            subst₂ Same in-flash (sym in_sent)
            (load_spent_same k offset size limit retries (flash.counted_on fetched 3) m image word _ _ first second place (rw (first, second) judged) none
            (rw second all));
        granted = λ place judged unspent all.
            subst₂ Same in-flash
            (sym
            (after_append (word_step k m word) (words_at image (offset + 4) 2) _
            ∙ ap (λ (o : machine.WordOutcome). after_words o (words_at image (past_words offset 2) (data_words (argument image offset 1)))) in_sent))
            (subst
            (λ (n : ℕ). Same (step.performed command.Load (past_words offset 2) (flash.fetching 3 here) m image)
            (after_words (done_with word command.Load (begun command.Load k) m (words_at image (offset + 4) 2))
            (words_at image (past_words offset 2) (data_words n))))
            second
            (load_granted_same k offset size limit retries (flash.counted_on fetched 3) m image word _ _ first second place (rw (first, second) judged) unspent
            b.bytes
            (rw second all)));
      }

  request_like : RowsOf k.dialect word command.Request 2 0 → past_words offset 2 ≤ length image → RequestByMode here m image k
  unfolding words_at after_words acknowledging pick argument flash-commands.requested
  request_like rows there =
      let in-flash = called here m image k b command.Request 2 rows.in-flash there in
      let quiet = requested_quiet (flash.fetching 3 here) (past_words offset 2) (argument image offset 0) (argument image offset 1) in
      let answer = ap (λ (o : flash.CallOutcome). o.answer) in-flash in
      record {
        sent = sent_done command.Request 0 rows.in_sent;
        answer = answer;
        match = λ same.
            subst (λ (o : flash.CallOutcome). Same o (request_sent here m image k))
            (sym (in-flash ∙ ap (λ (a : Called). flash.◌leaving◌ a m) (chosen _ _ _ (eq-eqb _ _ same))))
            (record {
              refusal = refl;
              event = refl;
              memory = refl;
              alike = record {
                windows = refl;
                dialect = refl;
                ended = refl;
                on = refl;
                checksum = refl;
                totals = sym (settled_asking (settled k.tally.totals));
              };
            });
        memory = ap (λ (o : flash.CallOutcome). o.memory) in-flash;
        event = ap (λ (a : Called). a.event) answer ∙ quiet.event;
        on = ap (λ (a : Called). a.session.on) answer ∙ quiet.on;
        checksum = ap (λ (a : Called). a.session.checksum) answer ∙ quiet.checksum;
      }

pub both_modes : BothModes
both_modes =
    record {
      commands = λ s m image k b.
          subst
          (λ (x : Session). Before x m image k → (c : Command) (words : ℕ) → (c ≡ command.Load → ⊥)
          → RowsOf k.dialect (word_at image x.offset) c words words
          → past_words x.offset words ≤ length image → Same (step_of x m image) (sent_with x m image k (words_at image (x.offset + 4) words)))
          (sym (alike_like s k b.alike)) (command_like m image k s.offset s.length s.limit s.retries s.fetched) b;
      load = λ s m image k b.
          subst
          (λ (x : Session). Before x m image k → RowsOf k.dialect (word_at image x.offset) command.Load 2 2 → past_words x.offset 2 ≤ length image
          → SameLoad x m image k)
          (sym (alike_like s k b.alike)) (load_like m image k s.offset s.length s.limit s.retries s.fetched) b;
      request = λ s m image k b.
          subst
          (λ (x : Session). Before x m image k → RowsOf k.dialect (word_at image x.offset) command.Request 2 0 → past_words x.offset 2 ≤ length image
          → RequestByMode x m image k)
          (sym (alike_like s k b.alike)) (request_like m image k s.offset s.length s.limit s.retries s.fetched) b;
    }

-- the rows, by computing
load_rows : (dialect : Dialect) → RowsOf dialect 0x58535901 command.Load 2 2
unfolding looked_up found_in rows row_serves pick
load_rows Am17xx = record { in-flash = refl; in_sent = refl }
load_rows Dm648 = record { in-flash = refl; in_sent = refl }

fill_rows : (dialect : Dialect) → RowsOf dialect 0x5853590A command.Fill 4 4
unfolding looked_up found_in rows row_serves pick
fill_rows Am17xx = record { in-flash = refl; in_sent = refl }
fill_rows Dm648 = record { in-flash = refl; in_sent = refl }

boot_table_rows : (dialect : Dialect) → RowsOf dialect 0x58535907 command.BootTable 4 4
unfolding looked_up found_in rows row_serves pick
boot_table_rows Am17xx = record { in-flash = refl; in_sent = refl }
boot_table_rows Dm648 = record { in-flash = refl; in_sent = refl }

enable_rows : (dialect : Dialect) → RowsOf dialect 0x58535903 command.Enable 0 0
unfolding looked_up found_in rows row_serves pick
enable_rows Am17xx = record { in-flash = refl; in_sent = refl }
enable_rows Dm648 = record { in-flash = refl; in_sent = refl }

disable_rows : (dialect : Dialect) → RowsOf dialect 0x58535904 command.Disable 0 0
unfolding looked_up found_in rows row_serves pick
disable_rows Am17xx = record { in-flash = refl; in_sent = refl }
disable_rows Dm648 = record { in-flash = refl; in_sent = refl }

request_rows : (dialect : Dialect) → RowsOf dialect 0x58535902 command.Request 2 0
unfolding looked_up found_in rows row_serves pick
request_rows Am17xx = record { in-flash = refl; in_sent = refl }
request_rows Dm648 = record { in-flash = refl; in_sent = refl }

pub shared_rows : SharedRows
unfolding looked_up found_in rows row_serves pick
shared_rows =
    record {
      load = load_rows;
      fill = fill_rows;
      boot-table = boot_table_rows;
      enable = enable_rows;
      disable = disable_rows;
      request = request_rows;
      jump_and_close = record { in-flash = refl; in_sent = refl };
      with-totals = record { in-flash = refl; in_sent = refl };
    }
