-- A load by line as a whole. The units of a word list what the word lists, so the history is that of the words; what these tell is the whole load's, and what
-- they leave in memory too, so each bit that is listed is listed with the load's number and value.
use Rattle.opcodes.specs.declared.Refusal.TheVariants as why
use Rattle.std.specs.Prelude.{Ok}
use Prim.Native.Nat.{ℕ, zero, suc, ◌+◌, ◌-◌, ◌*◌, ◌/◌, ◌^◌, ◌≤◌, ◌<◌, min}
use mathlib.Core.Bool.{Bool, true, false, not, ◌&&◌, ◌||◌, or-true, or-false, true≢false}
use mathlib.Core.List.{List, [], ◌∷◌, ◌++◌, append-nil, append_assoc}
use mathlib.Core.Path.{◌≡◌, refl, sym, ap, ap₂, subst, ◌∙◌}
use native.Mathlib.Omega.{arith}
use borrow.Author.Tests.{eq-eqb, lt-ltb, le-ltb, eqb-true, eqb-false, ltb-true}
use lib.Dec.{eqb, leb, ltb, lit<, lit≤}
use lib.ListN.{length, get_or, take}
use Rattle.words.specs.rules.Bits.{within}
use Rattle.words.specs.rules.Bytes.{byte, words_bytes, bit_at}
use Rattle.words.specs.rules.Choice.{pick}
use Rattle.words.proofs.Choice.{chosen, passed, by_test, both, of_choice}
use Rattle.windows.specs.rules.Window as window
use Rattle.windows.specs.rules.Window.{sum_of}
use Rattle.opcodes.specs.rules.Answers.{code_of, accepted}
use Rattle.opcodes.specs.declared.Command.TheVariants as command
use Rattle.opcodes.specs.declared.Dialect.{Dialect}
use Rattle.opcodes.specs.declared.Dialect.TheVariants.{Am17xx, Dm648}
use Rattle.ledger.specs.rules.Totals.{counted, first_spent, is_spent, following, numbered, would_pass}
use Rattle.ledger.specs.declared.Totals.{Totals}
use Rattle.commands.specs.rules.Commands.{barred, range_judged, load_judged, Judged}
use Rattle.commands.specs.declared.Wrote.{Wrote}
use Rattle.law_effects.specs.claims.Effects.{Effect, writes, becomes, some_writes, DoesInside}
use Rattle.law_effects.proofs.Effects.{load_does, load_granted}
use Rattle.stores.specs.rules.Stores.{loaded}
use Rattle.machine_answers.specs.rules.Answers.{WordOutcome, quiet, ◌leaving◌}
use Rattle.machine_answers.specs.rules.Counts.{overflowing, out_of_numbers}
use Rattle.machine_answers.specs.declared.Core.{Core}
use Rattle.machine_answers.specs.declared.Phase.{Phase}
use Rattle.machine_loads.specs.rules.Loads.{awaited, load_begun, data_bytes}
use Rattle.machine_commands.specs.rules.Performed.{performed}
use Rattle.machine.specs.rules.Machine.{in_phase, word_step}
use Rattle.machine.specs.claims.Words.{after_words}
use Rattle.machine.specs.claims.Wrote.{some_tell, AllBy, told_by}
use Rattle.machine_loads.proofs.Granted.{section_counts}
use Rattle.machine.proofs.Laws.{data_step, load_in_pieces, data_count}
use Rattle.machine.proofs.Wrote.{pieces_tell_the_load}
use Rattle.sent.specs.rules.Bus.{units_in_word, units_of, all_units, first_unit, pushed}
use Rattle.sent.specs.rules.Feeding.{State, next, fed}
use Rattle.sent.specs.rules.Line.{UnitOutcome, is_start}
use Rattle.sent.specs.claims.Lift.{at_word, Ready}
use Rattle.sent.specs.declared.Bus.{Bus}
use Rattle.sent.specs.declared.Bus.TheVariants.{Bytes, Halves}
use Rattle.sent.proofs.Cases.{unit_gathered}
use Rattle.sent.proofs.Feeding.{fed_append}
use Rattle.sent.proofs.Gathering.{holding, bytes_again, halves_again, begins_word, inside-word}
use Rattle.sent.proofs.Lift.{accepted_goes}
use Rattle.bit_history.specs.claims.Accepted.{one}
use Rattle.bit_history.specs.claims.History.{Numbered, any_writes, last_of, last_number, last_given, LeftBy, SaySame}
use Rattle.bit_history.specs.claims.UnitHistory.{accepted_word, word_history, ends_word, unit_history, history}
use Rattle.bit_history.specs.claims.LoadHistory.{AtLoad, whole_load, AsWhole, LoadsTell}
use Rattle.bit_history.proofs.Agreeing.{Told, left_given, same_told_bits, same_choice}
use Rattle.bit_history.proofs.History.{no_one_law, some_one, some_after}
use Rattle.bit_history.proofs.UnitHistory.{values_law}
use Rattle.bit_history.proofs.Words.{word_shown}

-- units one after the other list one after the other
history_append : (bus : Bus) (x : State) (us vs : List ℕ) → history bus x (us ++ vs) ≡ history bus x us ++ history bus (fed bus x us) vs
unfolding history fed
history_append bus x [] vs = refl
history_append bus x (u ∷ us) vs =
    ap (λ (l : List Numbered). unit_history bus x u ++ l) (history_append bus (next bus x u) us vs) ∙ sym (append_assoc (unit_history bus x u) _ _)

-- whether a unit of a running session ends a word is whether enough units came before it
by_units : (ended right start started short : Bool) → ended ≡ false → right ≡ true → start ≡ false → started ≡ true
    → (not ended && right && not start && started && not short) ≡ not short
by_units ended right start started short a b c d = rw (a, b, c, d)

module _ (bus : Bus) (k : Core) (m : List ℕ) (running : k.ended ≡ false) (lent : length m ≡ sum_of k.windows) where
  ends : (have part u : ℕ) → is_start bus (holding k have part m).session u ≡ false
      → ends_word bus (holding k have part m).session m u ≡ not (ltb have (units_in_word bus - 1))
  unfolding ends_word
  ends have part u other =
      by_units k.ended (eqb (length m) (sum_of k.windows)) (is_start bus (holding k have part m).session u) true (ltb have (units_in_word bus - 1))
      running (eq-eqb _ _ lent) other refl

  -- a unit that is gathered lists nothing
  gathers : (have part u : ℕ) → have < units_in_word bus - 1 → is_start bus (holding k have part m).session u ≡ false → (us : List ℕ)
      → history bus (holding k have part m) (u ∷ us) ≡ history bus (holding k (have + 1) (pushed bus part u) m) us
  unfolding history
  gathers have part u few other us =
      ap₂ (λ (l : List Numbered) (o : UnitOutcome). l ++ history bus (record { session = o.answer.session; memory = o.memory }) us)
      (passed _ _ _ (ends have part u other ∙ ap not (lt-ltb _ _ few)))
      (unit_gathered bus (holding k have part m).session m u running lent other refl few)

  -- the last one lists what the word lists
  makes_word : (have part u word : ℕ) → units_in_word bus - 1 ≤ have → is_start bus (holding k have part m).session u ≡ false → pushed bus part u ≡ word
      → history bus (holding k have part m) (u ∷ []) ≡ word_history k m word
  unfolding history
  makes_word have part u word enough other makes =
      ap (λ (l : List Numbered). l ++ []) (chosen _ _ _ (ends have part u other ∙ ap not (le-ltb _ _ enough)))
      ∙ append-nil (word_history k m (pushed bus part u)) ∙ ap (word_history k m) makes

-- the units of a word
word_lists : (bus : Bus) (k : Core) (m : List ℕ) (word : ℕ) → Ready bus k m word → history bus (at_word k m) (units_of bus word) ≡ word_history k m word
word_lists Bytes k m word ready =
    let gather = gathers Bytes k m ready.running ready.lent in
    gather 0 0 (byte word 0) (lit< tt) (begins_word Bytes k m _ ready.plain) _
    ∙ gather 1 _ (byte word 1) (lit< tt) (inside-word Bytes k m 1 _ _ refl) _
    ∙ gather 2 _ (byte word 2) (lit< tt) (inside-word Bytes k m 2 _ _ refl) _
    ∙ makes_word Bytes k m ready.running ready.lent 3 _ (byte word 3) word (lit≤ tt) (inside-word Bytes k m 3 _ _ refl) (bytes_again word ready.small)
word_lists Halves k m word ready =
    gathers Halves k m ready.running ready.lent 0 0 (first_unit Halves word) (lit< tt) (begins_word Halves k m _ ready.plain) _
    ∙ makes_word Halves k m ready.running ready.lent 1 _ (get_or (units_of Halves word) 1 0) word (lit≤ tt) (inside-word Halves k m 1 _ _ refl)
    (halves_again word)

-- words that are taken and accepted, one after the other, and what they list
unfoldable Takes : Bus → Core → List ℕ → List ℕ → Type 0
Takes bus k m [] = Unit {0}
Takes bus k m (w ∷ ws) =
    Ready bus k m w × (code_of (word_step k m w).answer.refusal ≡ 0) × Takes bus (word_step k m w).answer.core (word_step k m w).memory ws

unfoldable words_history : Core → List ℕ → List ℕ → List Numbered
words_history k m [] = []
words_history k m (w ∷ ws) = word_history k m w ++ words_history (word_step k m w).answer.core (word_step k m w).memory ws

units_list : (bus : Bus) (ws : List ℕ) (k : Core) (m : List ℕ) → Takes bus k m ws → history bus (at_word k m) (all_units bus ws) ≡ words_history k m ws
unfolding history words_history Takes
units_list bus [] k m takes = refl
units_list bus (w ∷ ws) k m takes =
    history_append bus (at_word k m) (units_of bus w) (all_units bus ws)
    ∙ ap₂ (λ (l : List Numbered) (x : State). l ++ history bus x (all_units bus ws)) (word_lists bus k m w takes.0)
    (accepted_goes bus k m w takes.0 refl takes.1).leads
    ∙ ap (λ (l : List Numbered). word_history k m w ++ l) (units_list bus ws _ _ takes.2)

-- the memory that they leave goes by the core and the memory of the word before
memory_on : (o : WordOutcome) (ws : List ℕ) → (after_words (quiet o.answer.core leaving o.memory) ws).memory ≡ (after_words o ws).memory
unfolding after_words
memory_on o [] = refl
memory_on o (w ∷ ws) = refl

units_leave : (bus : Bus) (ws : List ℕ) (k : Core) (m : List ℕ) → Takes bus k m ws
    → (fed bus (at_word k m) (all_units bus ws)).memory ≡ (after_words (quiet k leaving m) ws).memory
unfolding fed Takes after_words
units_leave bus [] k m takes = refl
units_leave bus (w ∷ ws) k m takes =
    ap (λ (x : State). x.memory)
    (fed_append bus (at_word k m) (units_of bus w) (all_units bus ws)
    ∙ ap (λ (x : State). fed bus x (all_units bus ws)) (accepted_goes bus k m w takes.0 refl takes.1).leads)
    ∙ units_leave bus ws _ _ takes.2 ∙ memory_on (word_step k m w) ws

-- a bit is listed where a word tells it, and by the number that is told
words_bits : (ws : List ℕ) (k : Core) (m : List ℕ) (p : ℕ) → any_writes (words_history k m ws) p ≡ some_tell (told_by k m ws) p
unfolding words_history some_writes some_tell told_by
words_bits [] k m p = refl
words_bits (w ∷ ws) k m p =
    let o : WordOutcome = word_step k m w in
    some_after (word_history k m w) (words_history o.answer.core o.memory ws) p
    ∙ ap₂ ◌||◌ (same_told_bits (word_history k m w) o.answer.wrote (word_shown k m w).told p) (words_bits ws o.answer.core o.memory p)

unfoldable Numbers : ℕ → List Numbered → Type 0
Numbers n [] = Unit {0}
Numbers n (c ∷ cs) = (c.number ≡ n) × Numbers n cs

numbers_append : (n : ℕ) (earlier later : List Numbered) → Numbers n earlier → Numbers n later → Numbers n (earlier ++ later)
unfolding Numbers
numbers_append n [] later a b = b
numbers_append n (c ∷ cs) later a b = (a.0, numbers_append n cs later a.1 b)

told_number : (n : ℕ) (cs : List Numbered) (w : Wrote) → Told cs w → w.number ≡ n → Numbers n cs
unfolding Numbers
told_number n [] w told e = tt
told_number n (c ∷ []) w told e = (sym told.0 ∙ e, tt)
told_number n (c ∷ d ∷ cs) w told e = absurd told

words_numbers : (n : ℕ) (ws : List ℕ) (k : Core) (m : List ℕ) → AllBy n (told_by k m ws) → Numbers n (words_history k m ws)
unfolding words_history told_by AllBy Numbers
words_numbers n [] k m by = tt
words_numbers n (w ∷ ws) k m by =
    let o : WordOutcome = word_step k m w in
    numbers_append n (word_history k m w) (words_history o.answer.core o.memory ws)
    (told_number n (word_history k m w) o.answer.wrote (word_shown k m w).told by.0) (words_numbers n ws o.answer.core o.memory by.1)

last_by : (n : ℕ) (cs : List Numbered) → Numbers n cs → (p : ℕ) → last_number cs p ≡ pick (any_writes cs p) n 0
unfolding last_of some_writes Numbers
last_by n [] by p = sym (passed _ _ _ refl)
last_by n (c ∷ cs) by p =
    by_test (any_writes cs p)
    (λ t.
    chosen _ _ _ t ∙ last_by n cs by.1 p ∙ chosen _ _ _ t
    ∙ sym (chosen _ _ _ (ap (λ (u : Bool). writes c.effect p || u) t ∙ or-true (writes c.effect p))))
    (λ f.
    passed _ _ _ f
    ∙ ap₂ (λ (u : Bool) (x : ℕ). pick u x 0) (sym (ap (λ (u : Bool). writes c.effect p || u) f ∙ or-false (writes c.effect p))) by.0)

-- histories that list the same bits, one of them as one effect, by one number, and leave the same memory, say the same
module _ (a : List Numbered) (n : ℕ) (e : Effect) (m left : List ℕ) (leaves : LeftBy a m left) (does : DoesInside e m left)
    (bits : (p : ℕ) → any_writes a p ≡ any_writes (one n e) p) (numbers : Numbers n a) where
  -- a bit that the effect writes lies inside memory
  in_memory : (p : ℕ) → any_writes (one n e) p ≡ true → p < 8 * length m
  unfolding some_writes within
  in_memory p t =
      let parts = both (leb e.first p) (ltb p (e.first + e.count)) (sym (or-false (writes e p)) ∙ t) in
      omega (arith, ltb-true p (e.first + e.count) parts.1, does.lies)

  value : (p was : ℕ) → last_given a p was ≡ last_given (one n e) p was
  value p was =
      let reads : Numbered → ℕ = λ c. becomes c.effect p in
      by_test (any_writes (one n e) p)
      (λ t.
      let h : p < 8 * length m = in_memory p t in
      some_one reads a p was (bit_at m p) (bits p ∙ t) ∙ sym (leaves.each_bit p h)
      ∙ (left_given (one n e) m left does.does).each_bit p h ∙ some_one reads (one n e) p (bit_at m p) was t)
      (λ f. no_one_law reads a p was (bits p ∙ f) ∙ sym (no_one_law reads (one n e) p was f))

  one_number : Numbers n (one n e)
  unfolding Numbers
  one_number = (refl, tt)

  say_same : SaySame a (one n e)
  say_same =
      record {
        same_bits = bits;
        same_numbers = λ p. last_by n a numbers p ∙ ap (λ (t : Bool). pick t n 0) (bits p) ∙ sym (last_by n (one n e) one_number p);
        same_values = value;
      }

-- the data of a load are taken and accepted, word by word
data_takes : (bus : Bus) (ws : List ℕ) (k : Core) (m : List ℕ) (place size : ℕ) → k.stage.phase ≡ awaited (place + size) size
    → length ws ≡ (size + 3) / 4 → k.ended ≡ false → k.begun ≡ true → length m ≡ sum_of k.windows → ((i : ℕ) → get_or ws i 0 < 2 ^ 32)
    → Takes bus k m ws
unfolding Takes
data_takes bus [] k m place size at whole running begun lent small = tt
data_takes bus (w ∷ ws) k m place size at whole running begun lent small =
    let step = data_step k m place size w (omega (arith, whole)) at in
    let end : place + size ≡ place + min size 4 + (size - 4) = omega arith in (
      record { running = running; lent = lent; small = small 0; plain = λ e. absurd (true≢false (sym begun ∙ e)) },
      ap (λ (o : WordOutcome). code_of o.answer.refusal) step,
      subst (λ (o : WordOutcome). Takes bus o.answer.core o.memory ws) (sym step)
          (data_takes bus ws _ (loaded m place (data_bytes w size)) (place + min size 4) (size - 4) (ap (λ (x : ℕ). awaited x (size - 4)) end)
          (omega (arith, whole)) running begun ((load_does m place (data_bytes w size)).same_length ∙ lent) (λ i. small (suc i))),
    )

-- the number that a load takes is the last that was taken once it has it
taken_number : (dialect : Dialect) (t : Totals) (size : ℕ) → is_spent t ≡ false → (numbered (counted dialect t size)).next - 1 ≡ t.next
unfolding following
taken_number dialect t size left = by_dialect dialect
  where
    back : following t.next - 1 ≡ t.next
    back =
        of_choice (λ (x : ℕ). x - 1 ≡ t.next) (eqb t.next 0) (λ e. omega (arith, eqb-true t.next 0 e))
        (λ e. of_choice (λ (x : ℕ). x - 1 ≡ t.next) (leb first_spent t.next) (λ l. absurd (true≢false (sym l ∙ left))) (λ l. omega arith))

    by_dialect : (d : Dialect) → (numbered (counted d t size)).next - 1 ≡ t.next
    by_dialect Am17xx = back
    by_dialect Dm648 = back

-- a granted load that is not refused at its size word has found a number and passed no total
size_granted : (k : Core) (address size place : ℕ) (past spent : Bool)
    → code_of (load_begun k address size (barred spent why.Number (barred past why.Overflow (Ok place)))).refusal ≡ 0
    → barred spent why.Number (barred past why.Overflow (Ok place)) ≡ Ok place
unfolding pick
size_granted k address size place true spent e = absurd (eqb-false 18 0 refl e)
size_granted k address size place false true e = absurd (eqb-false 25 0 refl e)
size_granted k address size place false false e = refl

module _ (bus : Bus) (k : Core) (m : List ℕ) (size place : ℕ) (words : List ℕ) (at : AtLoad k m size place words) where
  abbrev bytes : List ℕ
  bytes = take size (words_bytes words)

  abbrev units : List ℕ
  units = all_units bus (size ∷ words)

  abbrev sized : Core
  sized = (load_begun k at.kept.third size (Ok place)).core

  -- the size word: it is performed, and lists nothing
  performs : word_step k m size ≡ performed command.Load k m at.kept size
  unfolding word_step
  performs = ap (λ (x : Phase). in_phase x k m size) at.awaits ∙ chosen _ _ _ refl

  granted : out_of_numbers k (overflowing k size (load_judged k.windows at.kept.third size)) ≡ Ok place
  granted =
      ap (λ (j : Judged). out_of_numbers k (overflowing k size j)) at.granted
      ∙ size_granted k at.kept.third size place (would_pass k.dialect k.tally.totals size) (is_spent k.tally.totals)
      (sym (ap (λ (o : WordOutcome). code_of o.answer.refusal) performs
      ∙ ap (λ (j : Judged). code_of (load_begun k at.kept.third size (out_of_numbers k (overflowing k size j))).refusal) at.granted)
      ∙ at.taken)

  size_step : word_step k m size ≡ load_begun k at.kept.third size (Ok place) leaving m
  size_step = performs ∙ ap (λ (j : Judged). load_begun k at.kept.third size j leaving m) granted

  size_lists : word_history k m size ≡ []
  unfolding word_history
  size_lists =
      ap (λ (x : Phase). pick (accepted (word_step k m size).answer.refusal) (accepted_word x k size) []) at.awaits
      ∙ ap (λ (l : List Numbered). pick (accepted (word_step k m size).answer.refusal) l []) (same_choice _) ∙ same_choice _

  takes : Takes bus k m (size ∷ words)
  unfolding Takes
  takes = (
    record { running = at.running; lent = at.lent; small = at.small 0; plain = λ e. absurd (true≢false (sym at.begun ∙ e)) },
    at.taken,
    subst (λ (o : WordOutcome). Takes bus o.answer.core o.memory words) (sym size_step)
        (data_takes bus words sized m place size refl at.complete at.running at.begun at.lent (λ i. at.small (suc i))),
  )

  lists : history bus (at_word k m) units ≡ words_history sized m words
  unfolding words_history
  lists =
      units_list bus (size ∷ words) k m takes
      ∙ ap₂ (λ (l : List Numbered) (o : WordOutcome). l ++ words_history o.answer.core o.memory words) size_lists size_step

  leaves : (fed bus (at_word k m) units).memory ≡ loaded m place bytes
  unfolding after_words
  leaves =
      units_leave bus (size ∷ words) k m takes
      ∙ ap (λ (o : WordOutcome). (after_words o words).memory) performs
      ∙ ap (λ (o : WordOutcome). o.memory) (load_in_pieces k m at.kept size place words granted at.complete)

  gives : DoesInside (whole_load place size words) m (fed bus (at_word k m) units).memory
  gives =
      subst (DoesInside (whole_load place size words) m) (sym leaves)
      (load_granted k.windows m at.lent at.kept.third bytes
      (ap (load_judged k.windows at.kept.third) (data_count size words at.complete) ∙ at.granted))

  number : sized.tally.totals.next - 1 ≡ k.tally.totals.next
  number =
      taken_number k.dialect k.tally.totals size
      (section_counts k size (load_judged k.windows at.kept.third size) place granted).unspent

  bits : (p : ℕ) → any_writes (history bus (at_word k m) units) p ≡ any_writes (one k.tally.totals.next (whole_load place size words)) p
  unfolding some_writes
  bits p =
      let first : 8 * place + 0 ≡ 8 * place = omega arith in
      ap (λ (l : List Numbered). any_writes l p) lists ∙ words_bits words sized m p
      ∙ pieces_tell_the_load.bits words sized m place size refl at.complete p
      ∙ ap₂ (λ (b n : ℕ). within b (8 * n) p) first (sym (data_count size words at.complete))
      ∙ sym (or-false (writes (whole_load place size words) p))

  numbers : Numbers k.tally.totals.next (history bus (at_word k m) units)
  numbers =
      subst (λ (n : ℕ). Numbers n (history bus (at_word k m) units)) number
      (subst (Numbers (sized.tally.totals.next - 1)) (sym lists)
      (words_numbers _ words sized m (pieces_tell_the_load.number words sized m place size refl at.complete)))

  pub as_whole : AsWhole bus k m size place words
  as_whole =
      record {
        listed = say_same (history bus (at_word k m) units) k.tally.totals.next (whole_load place size words) m (fed bus (at_word k m) units).memory
            (values_law bus (at_word k m) units) gives bits numbers;
        given = gives;
      }

-- words below 2 ^ 32, three of them
three_small : (a b c : ℕ) → a < 2 ^ 32 → b < 2 ^ 32 → c < 2 ^ 32 → (i : ℕ) → get_or (a ∷ b ∷ c ∷ []) i 0 < 2 ^ 32
three_small a b c f g h zero = f
three_small a b c f g h (suc zero) = g
three_small a b c f g h (suc (suc zero)) = h
three_small a b c f g h (suc (suc (suc i))) = lit< tt

pub loads_tell : LoadsTell
unfolding pick window.has_right window.inside window.grants_range window.place_from window.place_of window.sum_of range_judged load_judged word_step awaited
    following
loads_tell =
    record {
      whole = as_whole;
      met =
          record {
            kept = record { first = 0; second = 0; third = 0x80000000 };
            awaits = refl;
            running = refl;
            begun = refl;
            lent = refl;
            granted = refl;
            taken = refl;
            complete = refl;
            small = three_small 5 0x04030201 0xFFFFFF05 (lit< tt) (lit< tt) (lit< tt);
          };
    }
