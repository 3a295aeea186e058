-- By its words: the opcode is acknowledged and three words are kept, whatever they are; at the last word the command is judged and done. The units of each word
-- are the word, and the first four words are accepted, so that what is heard of all the units is the acknowledgement and what the last word gives.
use Prim.Native.Nat.{ℕ, suc, ◌^◌, ◌<◌}
use mathlib.Core.Bool.{true, false, true≢false}
use mathlib.Core.List.{List, [], ◌∷◌, ◌++◌, append-nil}
use mathlib.Core.Path.{◌≡◌, refl, sym, ap, subst, ◌∙◌}
use native.Mathlib.Omega.{arith}
use borrow.Author.Tests.{eqb-true, eqb-false}
use lib.Dec.{eqb, lit<}
use Rattle.std.specs.declared.result.Result.TheVariants.{Ok}
use Rattle.words.specs.rules.Bytes.{byte}
use Rattle.words.specs.rules.Choice.{pick}
use Rattle.words.proofs.Choice.{chosen, passed, by_test, of_choice}
use Rattle.opcodes.specs.rules.Answers.{code_of, accepted, told}
use Rattle.opcodes.specs.rules.Opcodes.{looked_up, with_words}
use Rattle.opcodes.specs.declared.Command.TheVariants.{BootTable}
use Rattle.opcodes.specs.declared.Mode.TheVariants.{Sent}
use Rattle.opcodes.specs.rules.Refusals as refusal
use Rattle.ledger.specs.rules.Totals.{settled, numbered}
use Rattle.ledger.specs.declared.Totals.{Totals}
use Rattle.commands.specs.rules.Commands.{setting_done, setting_memory, Judged}
use Rattle.commands.specs.rules.Wrote.{setting_wrote}
use Rattle.commands.specs.declared.Done.{Done}
use Rattle.law_effects.specs.claims.Fields.{Holds}
use Rattle.machine_answers.specs.rules.Answers.{WordOutcome, ◌leaving◌, said, quiet, writing, after}
use Rattle.machine_answers.specs.rules.Replies.{silence, one_word, acknowledged, sent_bytes}
use Rattle.machine_answers.specs.declared.Core.{Core}
use Rattle.machine_answers.specs.declared.Kept.{Kept}
use Rattle.machine_answers.specs.declared.Phase.TheVariants.{Opcode}
use Rattle.machine_answers.specs.declared.Reply.{Reply}
use Rattle.machine_answers.specs.declared.Taken.{Taken}
use Rattle.machine_commands.specs.rules.Performed.{none_kept, setting_taken}
use Rattle.machine.specs.rules.Machine.{keeping, begun, word_step}
use Rattle.machine.specs.claims.Words.{after_words, asking, done_at_last}
use Rattle.machine.proofs.ByTheTable.{word_kept, word_last, opcode_asks, by_the_table}
use Rattle.machine.proofs.Every.{every_word}
use Rattle.sent.specs.rules.Bus.{units_of, all_units}
use Rattle.sent.specs.rules.Feeding.{State, Heard, fed, answers, replied, events_heard, first_of, first_refused}
use Rattle.sent.specs.claims.Lift.{at_word, heard_word, Plain, Ready}
use Rattle.sent.specs.declared.Bus.{Bus}
use Rattle.sent.specs.declared.Bus.TheVariants.{Bytes, Halves}
use Rattle.sent.proofs.Feeding.{Goes, ◌then◌}
use Rattle.sent.proofs.Lift.{units_are_the_word, accepted_goes, absorbed}
use Rattle.field_laws.specs.claims.Meanings.{kind_in, address_in, Made}
use Rattle.field_commands.specs.claims.CarriedOut.{of_words, CarriedOut, Awaits, sent_words, ByWords, ByUnits}
use Rattle.field_commands.proofs.Settings.{Makes, boot, words_are, carried_out, by_next}

-- a Request that is settled leaves the next number
settled_next : (t : Totals) → (settled t).next ≡ t.next
settled_next t = of_choice (λ (u : Totals). u.next ≡ t.next) t.asked (λ e. refl) (λ e. refl)

-- a command that was done says nothing, and where it is not refused the next opcode is awaited
after_says : (k : Core) (totals : Totals) (done : Done) → (after k totals done).reply ≡ silence
unfolding after
after_says k totals done = of_choice (λ (t : Taken). t.reply ≡ silence) (accepted done.refusal) (λ e. refl) (λ e. refl)

after_goes : (k : Core) (totals : Totals) (done : Done) → (after k totals done).refusal ≡ refusal.None
    → ((after k totals done).core.stage.phase ≡ Opcode) × ((after k totals done).core.ended ≡ k.ended)
unfolding after
after_goes k totals done =
    of_choice (λ (t : Taken). t.refusal ≡ refusal.None → (t.core.stage.phase ≡ Opcode) × (t.core.ended ≡ k.ended)) (accepted done.refusal)
    (λ held good. (refl, refl))
    (λ failed good. absurd (true≢false (sym (ap accepted good) ∙ failed)))

-- what is heard of five words of which the first is answered, three are taken in silence and the last says nothing
module _ (reply : Reply) (k : Core) (t : Taken) where
  abbrev heard_five : Bus → List Heard
  heard_five bus =
      heard_word bus (said reply k) ++ (heard_word bus (quiet k) ++ (heard_word bus (quiet k) ++ (heard_word bus (quiet k) ++ heard_word bus t)))

  alone : (code : ℕ) → pick (eqb code 0) 0 code ≡ code
  alone code = by_test (eqb code 0) (λ none. chosen _ _ _ none ∙ sym (eqb-true _ _ none)) (λ some. passed _ _ _ some)

  heard_refusal : (bus : Bus) → first_refused (heard_five bus) ≡ code_of t.refusal
  unfolding first_refused first_of pick
  heard_refusal Bytes = alone (code_of t.refusal)
  heard_refusal Halves = alone (code_of t.refusal)

  heard_events : (bus : Bus) → events_heard (heard_five bus) ≡ told t.event
  unfolding events_heard
  heard_events Bytes = append-nil (told t.event)
  heard_events Halves = append-nil (told t.event)

  heard_replies : t.reply ≡ silence → (bus : Bus) → replied (heard_five bus) ≡ sent_bytes reply
  unfolding replied
  heard_replies quietly Bytes = ap (λ (r : Reply). sent_bytes reply ++ (sent_bytes r ++ [])) quietly ∙ append-nil (sent_bytes reply)
  heard_replies quietly Halves = ap (λ (r : Reply). sent_bytes reply ++ (sent_bytes r ++ [])) quietly ∙ append-nil (sent_bytes reply)

module _ (k : Core) (m : List ℕ) (kind address value : ℕ) (awaits : Awaits k m)
    (known : looked_up 0x58535907 Sent k.dialect ≡ Ok (with_words BootTable 4)) where
  abbrev words : List ℕ
  words = 0x58535907 ∷ kind ∷ address ∷ value ∷ 0 ∷ []

  -- the cores that await its words, and what the last of them gives
  abbrev started : Core
  started = begun BootTable k

  abbrev first_kept : Kept
  first_kept = keeping none_kept kind

  abbrev second_kept : Kept
  second_kept = keeping first_kept address

  abbrev third_kept : Kept
  third_kept = keeping second_kept value

  abbrev last : Core
  last = asking started BootTable 1 third_kept

  abbrev given : WordOutcome
  given = setting_taken last m kind address value 0

  words_give : sent_words k m words ≡ given
  unfolding after_words done_at_last
  words_give = by_the_table.done k m 0x58535907 BootTable 4 (kind ∷ address ∷ value ∷ 0 ∷ []) awaits.opcode known refl

  -- what a word makes of a judgement
  makes : Makes kind value (settled k.tally.totals).next m
      (λ (j : Judged). of_words (writing (setting_wrote j kind last.tally.totals.next)
      (after last (numbered last.tally.totals) (setting_done j last.tally.checksum 0)) leaving setting_memory j m kind value))
  unfolding after setting_done setting_memory pick
  makes = record { granted = λ place. refl; out_of_range = refl; out-of-numbers = refl }

  words_go_on : (sent_words k m words).answer.refusal ≡ refusal.None
      → ((sent_words k m words).answer.core.stage.phase ≡ Opcode) × ((sent_words k m words).answer.core.ended ≡ k.ended)
  words_go_on good =
      let a = ap (λ (o : WordOutcome). o.answer) words_give in
      let on = after_goes _ _ _ (sym (ap (λ (t : Taken). t.refusal) a) ∙ good) in
      (ap (λ (t : Taken). t.core.stage.phase) a ∙ on.0, ap (λ (t : Taken). t.core.ended) a ∙ on.1)

  -- on the line
  module _ (bus : Bus) (running : k.ended ≡ false) (kind-small : kind < 2 ^ 32) (address-small : address < 2 ^ 32) (value_small : value < 2 ^ 32) where
    -- the opcode begins with no start unit, and behind it there is none
    opcode_plain : (b : Bus) → Plain b k 0x58535907
    unfolding byte
    opcode_plain Bytes e same = omega (arith, same)
    opcode_plain Halves e same = omega (arith, same)

    ready : (left : ℕ) (kept : Kept) (word : ℕ) → word < 2 ^ 32 → Ready bus (asking started BootTable left kept) m word
    ready left kept word small = record { running = running; lent = awaits.lent; small = small; plain = λ e. absurd (true≢false e) }

    opcode_goes : Goes bus (at_word k m) (units_of bus 0x58535907) (at_word (asking started BootTable 4 none_kept) m)
        (heard_word bus (said (one_word (acknowledged 0x58535907)) (asking started BootTable 4 none_kept)))
    opcode_goes =
        accepted_goes bus k m 0x58535907 (record { running = running; lent = awaits.lent; small = lit< tt; plain = opcode_plain bus })
        (opcode_asks k m 0x58535907 3 awaits.opcode known) refl

    -- a word that is kept
    kept_goes : (left : ℕ) (kept : Kept) (word : ℕ) → word < 2 ^ 32
        → Goes bus (at_word (asking started BootTable (suc (suc left)) kept) m) (units_of bus word)
        (at_word (asking started BootTable (suc left) (keeping kept word)) m)
        (heard_word bus (quiet (asking started BootTable (suc left) (keeping kept word))))
    kept_goes left kept word small =
        accepted_goes bus (asking started BootTable (suc (suc left)) kept) m word (ready (suc (suc left)) kept word small)
        (word_kept BootTable started m kept word left) refl

    -- the last, whatever becomes of it
    abbrev end : State
    end = fed bus (at_word last m) (units_of bus 0)

    last_ready : Ready bus last m 0
    last_ready = ready 1 third_kept 0 (lit< tt)

    last_is : word_step last m 0 ≡ given
    last_is = word_last BootTable started m third_kept 0

    last_goes : Goes bus (at_word last m) (units_of bus 0 ++ []) end (heard_word bus given.answer)
    last_goes =
        rw (append-nil (units_of bus 0))
        (record { leads = refl; says = (units_are_the_word bus last m 0 last_ready).hears ∙ ap (λ (o : WordOutcome). heard_word bus o.answer) last_is })

    abbrev heard_all : List Heard
    heard_all = heard_five (one_word (acknowledged 0x58535907)) k given.answer bus

    all_go : Goes bus (at_word k m) (all_units bus words) end heard_all
    all_go =
        opcode_goes then kept_goes 2 none_kept kind kind-small then kept_goes 1 first_kept address address-small
        then kept_goes 0 second_kept value value_small then last_goes

    -- it leads to what the word gives
    record Ends : Type 0 where
      pub core : end.session.core ≡ given.answer.core
      pub memory : end.memory ≡ given.memory

    ends : Ends
    ends =
        let lift = units_are_the_word bus last m 0 last_ready in
        let o = word_step last m 0 in
        by_test (eqb (code_of o.answer.refusal) 0)
        (λ good.
        let at-end = lift.accepted (eqb-true _ _ good) in
        record {
          core = ap (λ (x : State). x.session.core) at-end ∙ ap (λ (w : WordOutcome). w.answer.core) last_is;
          memory = ap (λ (x : State). x.memory) at-end ∙ ap (λ (w : WordOutcome). w.memory) last_is;
        })
        (λ bad.
        let at-end = lift.refused (eqb-false _ _ bad) in
        record {
          core = at-end.0 ∙ ap (λ (w : WordOutcome). w.answer.core) last_is;
          memory = at-end.2 ∙ sym ((every_word last m 0).untouched (eqb-false _ _ bad)) ∙ ap (λ (w : WordOutcome). w.memory) last_is;
        })

    -- the acknowledgement
    acknowledgement : sent_bytes (one_word (acknowledged 0x58535907)) ≡ 0x07 ∷ 0x59 ∷ 0x53 ∷ 0x52 ∷ []
    unfolding one_word acknowledged byte
    acknowledgement = refl

    units_carry : (carried : CarriedOut k.windows k.tally.totals words value m (of_words (sent_words k m words))) → ByUnits bus k m words value
    units_carry carried =
        let core_is = ap (λ (x : State). x.session.core) all_go.leads ∙ ends.core ∙ sym (ap (λ (o : WordOutcome). o.answer.core) words_give) in
        let memory-is = ap (λ (x : State). x.memory) all_go.leads ∙ ends.memory ∙ sym (ap (λ (o : WordOutcome). o.memory) words_give) in
        let refusal_is = ap first_refused all_go.says ∙ heard_refusal (one_word (acknowledged 0x58535907)) k given.answer bus
        ∙ sym (ap (λ (o : WordOutcome). code_of o.answer.refusal) words_give) in
        let events-are = ap events_heard all_go.says ∙ heard_events (one_word (acknowledged 0x58535907)) k given.answer bus
        ∙ sym (ap (λ (o : WordOutcome). told o.answer.event) words_give) in
        record {
          accepted = λ place over unspent.
              let set = carried.sets place over unspent in (refusal_is ∙ ap code_of set.accepted, events-are ∙ ap told set.wait);
          holds = λ place over unspent. subst (Holds kind place value m) (sym memory-is) (carried.sets place over unspent).holds;
          core = core_is;
          memory = memory-is;
          refusal = refusal_is;
          events = events-are;
          reply = ap replied all_go.says ∙ heard_replies (one_word (acknowledged 0x58535907)) k given.answer (after_says _ _ _) bus ∙ acknowledgement;
        }

module _ (text name : List ℕ) (release value : ℕ) where
  words_made : (kind address : ℕ) → Made text name release value (0x58535907 ∷ kind ∷ address ∷ value ∷ 0 ∷ [])
      → (k : Core) (m : List ℕ) → Awaits k m → ByWords k m (0x58535907 ∷ kind ∷ address ∷ value ∷ 0 ∷ []) value
  words_made kind address made k m awaits =
      let ws : List ℕ = 0x58535907 ∷ kind ∷ address ∷ value ∷ 0 ∷ [] in
      let known = (boot text name release value ws made).in_table Sent k.dialect in
      let done = carried_out text name release value ws made k.windows (settled k.tally.totals) m awaits.lent _
      (makes k m kind address value awaits known) in
      record {
        carried_out = subst (λ (o : WordOutcome). CarriedOut k.windows k.tally.totals ws value m (of_words o))
            (sym (words_give k m kind address value awaits known))
            (by_next k.windows (settled k.tally.totals) k.tally.totals ws value m _ (settled_next k.tally.totals) done);
        goes_on = words_go_on k m kind address value awaits known;
      }

  units_made : (kind address : ℕ) → Made text name release value (0x58535907 ∷ kind ∷ address ∷ value ∷ 0 ∷ [])
      → (bus : Bus) (k : Core) (m : List ℕ) → Awaits k m → k.ended ≡ false → ByUnits bus k m (0x58535907 ∷ kind ∷ address ∷ value ∷ 0 ∷ []) value
  units_made kind address made bus k m awaits running =
      let table = boot text name release value (0x58535907 ∷ kind ∷ address ∷ value ∷ 0 ∷ []) made in
      units_carry k m kind address value awaits (table.in_table Sent k.dialect) bus running (table.small 1) (table.small 2) (table.small 3)
      (words_made kind address made k m awaits).carried_out

  module _ (words : List ℕ) (made : Made text name release value words) (k : Core) (m : List ℕ) (awaits : Awaits k m) where
    made_so : Made text name release value (0x58535907 ∷ kind_in words ∷ address_in words ∷ value ∷ 0 ∷ [])
    made_so = subst (Made text name release value) (words_are text name release value words made) made

    pub by_words : ByWords k m words value
    by_words =
        subst (λ (ws : List ℕ). ByWords k m ws value) (sym (words_are text name release value words made))
        (words_made (kind_in words) (address_in words) made_so k m awaits)

    pub by_units : (bus : Bus) → k.ended ≡ false → ByUnits bus k m words value
    by_units bus running =
        subst (λ (ws : List ℕ). ByUnits bus k m ws value) (sym (words_are text name release value words made))
        (units_made (kind_in words) (address_in words) made_so bus k m awaits running)

-- an ended session
pub units_over : (bus : Bus) (k : Core) (m : List ℕ) (unit : ℕ) (units : List ℕ) → k.ended ≡ true
    → (first_refused (answers bus (at_word k m) (unit ∷ units)) ≡ 14) × (fed bus (at_word k m) (unit ∷ units) ≡ at_word k m)
unfolding first_refused first_of pick
units_over bus k m unit units over =
    let a = absorbed bus (at_word k m) (unit ∷ units) over in
    (ap first_refused a.hears, a.stays)
