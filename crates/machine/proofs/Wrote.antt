-- What words tell that they wrote. The data words of a load tell its bits: each tells the next of them, and two ranges that adjoin are one. Any word tells by
-- its command's number: by cases over the commands, then over the phases.
use Rattle.std.specs.Prelude.{Some, None, Ok, Err}
use Prim.Native.Nat.{ℕ, ◌+◌, ◌-◌, ◌*◌, ◌/◌, ◌<◌, min}
use mathlib.Core.Bool.{Bool, false, ◌||◌}
use mathlib.Core.List.{List, [], ◌∷◌}
use mathlib.Core.Logic.{◌≢◌}
use mathlib.Core.Path.{◌≡◌, refl, sym, ap, ap₂, subst, ◌∙◌}
use native.Mathlib.Omega.{arith}
use lib.Dec.{eqb}
use lib.ListN.{length}
use borrow.Author.Tests.{eqb-false}
use Rattle.std.specs.declared.result.Result.{Result}
use Rattle.words.specs.rules.Bits.{within}
use Rattle.words.specs.rules.Choice.{pick}
use Rattle.words.proofs.Choice.{of_choice}
use Rattle.words.proofs.Ranges.{inside, below, above, by_range}
use Rattle.checksum.specs.rules.Checksum.{fed}
use Rattle.opcodes.specs.rules.Answers.{code_of}
use Rattle.opcodes.specs.declared.Command.{Command}
use Rattle.opcodes.specs.declared.Command.TheVariants as command
use Rattle.opcodes.specs.declared.Event.{Event}
use Rattle.opcodes.specs.declared.Mode.TheVariants.{Sent}
use Rattle.opcodes.specs.declared.Refusal.TheVariants as why
use Rattle.opcodes.specs.rules.Refusals.{Verdict}
use Rattle.opcodes.specs.rules.Refusals as refusal
use Rattle.opcodes.specs.declared.Refusal.{Refusal}
use Rattle.opcodes.specs.declared.Known.{Known}
use Rattle.opcodes.proofs.Looked.{Looked, of_row, of_none, of_retired, looked}
use Rattle.ledger.specs.claims.Agreement.{HasNumbers}
use Rattle.ledger.specs.rules.Totals.{counted, first_spent, is_spent, following, numbered, turned}
use Rattle.ledger.specs.declared.Totals.{Totals}
use Rattle.ledger.proofs.Agreement.{numbers_stay}
use Rattle.ledger.proofs.Laws.{numbers_on}
use Rattle.commands.specs.rules.Commands.{done_if, load_judged, fill_judged, fill_done, shape_of, setting_judged, setting_done, Judged, Shape}
use Rattle.stores.specs.rules.Stores.{loaded}
use Rattle.commands.specs.rules.Wrote.{none_wrote, bytes_wrote, shape_wrote, setting_wrote}
use Rattle.commands.specs.declared.Done.{Done}
use Rattle.commands.specs.declared.Wrote.{Wrote}
use Rattle.commands.proofs.Judging.{granted_before}
use Rattle.machine_answers.specs.rules.Answers.{WordOutcome, await, with_checksum, stop, refused, writing, ◌leaving◌, after, entered}
use Rattle.machine_answers.specs.rules.Counts.{counted_on, out_of_numbers, overflowing}
use Rattle.machine_loads.specs.rules.Loads.{awaited, load_begun, data_bytes}
use Rattle.machine_commands.specs.rules.Performed.{none_kept, echoing, performed}
use Rattle.machine.specs.rules.Machine.{toward, begun, acknowledging, opening, at_opcode, in_phase, word_step}
use Rattle.machine_answers.specs.rules.Replies.{farewell}
use Rattle.machine.specs.claims.Wrote.{tells, some_tell, AllBy, told_by, PiecesTellTheLoad, TookOne, KeepsNumbers, ByLast, WordTells, TellsByNumber}
use Rattle.machine_answers.specs.declared.Core.{Core}
use Rattle.machine_answers.specs.declared.Kept.{Kept}
use Rattle.machine_answers.specs.declared.Phase.{Phase}
use Rattle.machine_answers.specs.declared.Phase.TheVariants as phase
use Rattle.machine_answers.specs.declared.Reply.{Reply}
use Rattle.machine_answers.specs.declared.Taken.{Taken}
use Rattle.machine_loads.proofs.Granted.{section_counts}
use Rattle.machine_loads.proofs.Numbers.{counted_next}
use Rattle.machine.proofs.Laws.{data_step}

-- a range of none, and two that adjoin
within_none : (s p : ℕ) → within s 0 p ≡ false
within_none s p = by_range s 0 p (λ h. below s 0 p h) (λ j h e. absurd (omega arith)) (λ j e. above s 0 p (omega arith))

within_both : (s a b p : ℕ) → (within s a p || within (s + a) b p) ≡ within s (a + b) p
within_both s a b p =
    by_range s a p
    (λ h. ap₂ ◌||◌ (below s a p h) (below (s + a) b p (omega arith)) ∙ sym (below s (a + b) p h))
    (λ j h e. ap (λ (t : Bool). t || within (s + a) b p) (inside s a p (omega arith) (omega arith)) ∙ sym (inside s (a + b) p (omega arith) (omega arith)))
    (λ j e. by_range (s + a) b p (λ h. absurd (omega arith))
    (λ i h f. ap₂ ◌||◌ (above s a p (omega arith)) (inside (s + a) b p (omega arith) (omega arith)) ∙ sym (inside s (a + b) p (omega arith) (omega arith)))
    (λ i f. ap₂ ◌||◌ (above s a p (omega arith)) (above (s + a) b p (omega arith)) ∙ sym (above s (a + b) p (omega arith))))

-- the core after a data word
abbrev next_core : Core → ℕ → ℕ → ℕ → Core
next_core k place size w =
    await k (with_checksum k (pick k.on (fed k.tally.checksum w (8 * min size 4)) k.tally.checksum)) (awaited (place + size) (size - 4))

bits : (ws : List ℕ) (k : Core) (m : List ℕ) (place size : ℕ) → k.stage.phase ≡ awaited (place + size) size → length ws ≡ (size + 3) / 4
    → (p : ℕ) → some_tell (told_by k m ws) p ≡ tells (bytes_wrote (Ok place) size (k.tally.totals.next - 1)) p
unfolding some_tell told_by
bits [] k m place size at whole p =
    let none : size ≡ 0 = omega arith in
    sym (ap (λ (n : ℕ). within (8 * place + 0) (8 * n) p) none ∙ within_none (8 * place + 0) p)
bits (w ∷ ws) k m place size at whole p =
    let more : 0 < size = omega arith in
    let step = data_step k m place size w more at in
    let end : place + size ≡ place + min size 4 + (size - 4) = omega arith in
    let rest =
    bits ws (next_core k place size w) (loaded m place (data_bytes w size)) (place + min size 4) (size - 4) (ap (λ (e : ℕ). awaited e (size - 4)) end)
    (omega arith) p in
    let first : 8 * (place + min size 4) + 0 ≡ 8 * place + 0 + 8 * min size 4 = omega arith in
    let all : 8 * min size 4 + 8 * (size - 4) ≡ 8 * size = omega arith in
    ap (λ (o : WordOutcome). tells o.answer.wrote p || some_tell (told_by o.answer.core o.memory ws) p) step
    ∙ ap (λ (t : Bool). within (8 * place + 0) (8 * min size 4) p || t) (rest ∙ ap (λ (s : ℕ). within s (8 * (size - 4)) p) first)
    ∙ within_both (8 * place + 0) (8 * min size 4) (8 * (size - 4)) p
    ∙ ap (λ (n : ℕ). within (8 * place + 0) n p) all

number : (ws : List ℕ) (k : Core) (m : List ℕ) (place size : ℕ) → k.stage.phase ≡ awaited (place + size) size → length ws ≡ (size + 3) / 4
    → AllBy (k.tally.totals.next - 1) (told_by k m ws)
unfolding AllBy told_by
number [] k m place size at whole = tt
number (w ∷ ws) k m place size at whole =
    let more : 0 < size = omega arith in
    let step = data_step k m place size w more at in
    let end : place + size ≡ place + min size 4 + (size - 4) = omega arith in
    let rest =
    number ws (next_core k place size w) (loaded m place (data_bytes w size)) (place + min size 4) (size - 4) (ap (λ (e : ℕ). awaited e (size - 4)) end)
    (omega arith) in (
      ap (λ (o : WordOutcome). o.answer.wrote.number) step,
      subst (λ (o : WordOutcome). AllBy (k.tally.totals.next - 1) (told_by o.answer.core o.memory ws)) (sym step) rest,
    )

pub pieces_tell_the_load : PiecesTellTheLoad
pieces_tell_the_load = record { bits = bits; number = number }

-- what is awaited once a load took its number, and while words are echoed
awaited_took : (end left next : ℕ) → 1 < next → TookOne (awaited end left) next
unfolding awaited
awaited_took end left next took = of_choice (λ (p : Phase). TookOne p next) (eqb left 0) (λ h. tt) (λ h. took)

echo_took : (n next : ℕ) → TookOne (echoing n) next
unfolding echoing
echo_took n next = of_choice (λ (p : Phase). TookOne p next) (eqb n 0) (λ h. tt) (λ h. tt)

-- a command that tells nothing
silent_tells : {k next : Core} {m : List ℕ} {q : Verdict} {reply : Reply} {event : Event} → (KeepsNumbers k → KeepsNumbers next)
    → WordTells k (record { refusal = q; reply = reply; event = event; core = next; wrote = none_wrote } leaving m)
silent_tells on = record { refused = λ h. refl; number = λ n some. absurd (some refl); goes_on = on }

refused_tells : (k : Core) (m : List ℕ) (q : Verdict) → WordTells k (refused k q leaving m)
refused_tells k m q = silent_tells (λ n. record { totals = n.totals; load = n.load })

-- the number that is taken where a section, or a setting, is granted
taken_next : (t u : Totals) → u.next ≡ t.next → 0 < t.next → is_spent t ≡ false → t.next + 1 ≡ (numbered u).next
taken_next t u same some left = sym (ap following same ∙ numbers_on.one_more t (λ e. omega (arith, some, e)) left)

section_next : (k : Core) (size : ℕ) (judged : Judged) (place : ℕ) → KeepsNumbers k → out_of_numbers k (overflowing k size judged) ≡ Ok place
    → k.tally.totals.next + 1 ≡ (counted_on k size).next
section_next k size judged place n granted =
    taken_next k.tally.totals (counted k.dialect k.tally.totals size) (counted_next k.dialect k.tally.totals size) n.totals.0.some
    (section_counts k size judged place granted).unspent

setting_next : (k : Core) (judged : Judged) (place : ℕ) → KeepsNumbers k → out_of_numbers k judged ≡ Ok place
    → k.tally.totals.next + 1 ≡ (numbered k.tally.totals).next
setting_next k judged place n granted =
    taken_next k.tally.totals k.tally.totals refl n.totals.0.some
    (granted_before (is_spent k.tally.totals) why.Number judged place granted).0

counted-on : (k : Core) (size : ℕ) → KeepsNumbers k → HasNumbers (counted_on k size)
counted-on k size n = numbers_stay.numbering (counted k.dialect k.tally.totals size)
    (numbers_stay.counting k.dialect k.tally.totals size n.totals)

-- what is told of a judgement: nothing where it is refused, else by the number
bytes_by : (judged : Judged) (size number : ℕ) (t : Totals) → 0 < number → ((place : ℕ) → judged ≡ Ok place → number + 1 ≡ t.next)
    → (bytes_wrote judged size number).count ≢ 0 → ByLast (bytes_wrote judged size number) t
bytes_by (Ok place) size number t some taken written = record { some = some; last = taken place refl }
bytes_by (Err q) size number t some taken written = absurd (written refl)

shape_by : (place : ℕ) (shape : Shape) (number : ℕ) (t : Totals) → 0 < number → number + 1 ≡ t.next → (shape_wrote place shape number).count ≢ 0
    → ByLast (shape_wrote place shape number) t
shape_by place None number t some taken written = absurd (written refl)
shape_by place (Some bits) number t some taken written = record { some = some; last = taken }

setting_by : (judged : Judged) (word number : ℕ) (t : Totals) → 0 < number → ((place : ℕ) → judged ≡ Ok place → number + 1 ≡ t.next)
    → (setting_wrote judged word number).count ≢ 0 → ByLast (setting_wrote judged word number) t
setting_by (Ok place) word number t some taken written = shape_by place (shape_of word) number t some (taken place refl) written
setting_by (Err q) word number t some taken written = absurd (written refl)

bytes_none : (judged : Judged) (checksum : ℕ) (told : Event) (fed size number : ℕ) → code_of (done_if judged checksum told fed).refusal ≢ 0
    → bytes_wrote judged size number ≡ none_wrote
bytes_none (Ok place) checksum told fed size number h = absurd (h refl)
bytes_none (Err q) checksum told fed size number h = refl

setting_none : (judged : Judged) (checksum : ℕ) (told : Event) (fed word number : ℕ) → code_of (done_if judged checksum told fed).refusal ≢ 0
    → setting_wrote judged word number ≡ none_wrote
setting_none (Ok place) checksum told fed word number h = absurd (h refl)
setting_none (Err q) checksum told fed word number h = refl

-- a command that was judged and done
done_tells : (k : Core) (m : List ℕ) (t : Totals) (done : Done) (wrote : Wrote) → (KeepsNumbers k → HasNumbers t)
    → (KeepsNumbers k → wrote.count ≢ 0 → ByLast wrote t) → (code_of done.refusal ≢ 0 → wrote ≡ none_wrote)
    → WordTells k (writing wrote (after k t done) leaving m)
unfolding after
done_tells k m t done wrote on by none =
    of_choice (λ (x : Taken). WordTells k (writing wrote x leaving m)) _
    (λ h. record { refused = λ h. absurd (h refl); number = by; goes_on = λ n. record { totals = on n; load = tt } })
    (λ h.
    let nothing = none (eqb-false _ _ h) in
    record {
      refused = λ q. nothing;
      number = λ n some. absurd (some (ap (λ (w : Wrote). w.count) nothing));
      goes_on = λ n. record { totals = n.totals; load = n.load };
    })

load_tells : (k : Core) (m : List ℕ) (address size : ℕ) (judged : Judged)
    → ((place : ℕ) → KeepsNumbers k → judged ≡ Ok place → k.tally.totals.next + 1 ≡ (counted_on k size).next)
    → WordTells k (load_begun k address size judged leaving m)
load_tells k m address size (Ok place) taken =
    silent_tells
    (λ n. record {
      totals = counted-on k size n;
      load =
          awaited_took (place + size) size (counted_on k size).next (omega (arith, n.totals.0.some, taken place n refl));
    })
load_tells k m address size (Err q) taken = refused_tells k m (Some q)

-- a command that was judged and wrote nothing
closed_tells : (k : Core) (m : List ℕ) (done : Done) → WordTells k (after k k.tally.totals done leaving m)
unfolding after
closed_tells k m done =
    of_choice (λ (x : Taken). WordTells k (x leaving m)) _ (λ h. silent_tells (λ n. record { totals = n.totals; load = tt }))
    (λ h. refused_tells k m done.refusal)

entered_tells : (k : Core) (m : List ℕ) (t : Taken) → WordTells k (t leaving m) → WordTells k (entered t leaving m)
unfolding entered
entered_tells k m t told =
    of_choice (λ (x : Taken). WordTells k (x leaving m)) _
    {a = record { refusal = t.refusal; reply = farewell t.core.dialect; event = t.event; core = stop t.core; wrote = t.wrote }}
    (λ h. record {
      refused = told.refused;
      number = told.number;
      goes_on = λ n. record { totals = (told.goes_on n).totals; load = (told.goes_on n).load };
    })
    (λ h. told)

performed_tells : (c : Command) (k : Core) (m : List ℕ) (kept : Kept) (word : ℕ) → WordTells k (performed c k m kept word)
unfolding fill_done setting_done
performed_tells command.Load k m kept word =
    let judged : Judged = load_judged k.windows kept.third word in
    load_tells k m kept.third word (out_of_numbers k (overflowing k word judged)) (λ place n granted. section_next k word judged place n granted)
performed_tells command.Fill k m kept word =
    let first : Judged = fill_judged k.windows kept.first kept.second kept.third in
    let judged : Judged = out_of_numbers k (overflowing k kept.second first) in
    done_tells k _ (counted_on k kept.second) _ (bytes_wrote judged kept.second k.tally.totals.next) (counted-on k kept.second)
    (λ n. bytes_by judged kept.second k.tally.totals.next (counted_on k kept.second) n.totals.0.some
    (λ place granted. section_next k kept.second first place n granted))
    (bytes_none judged _ _ _ kept.second k.tally.totals.next)
performed_tells command.BootTable k m kept word =
    let first : Judged = setting_judged k.windows kept.first kept.second kept.third in
    let judged : Judged = out_of_numbers k first in
    done_tells k _ (numbered k.tally.totals) _ (setting_wrote judged kept.first k.tally.totals.next)
    (λ n. numbers_stay.numbering k.tally.totals n.totals)
    (λ n. setting_by judged kept.first k.tally.totals.next (numbered k.tally.totals) n.totals.0.some
    (λ place granted. setting_next k first place n granted))
    (setting_none judged _ _ _ kept.first k.tally.totals.next)
performed_tells command.Enable k m kept word = silent_tells (λ n. record { totals = n.totals; load = tt })
performed_tells command.Disable k m kept word = silent_tells (λ n. record { totals = n.totals; load = tt })
performed_tells command.Request k m kept word = silent_tells (λ n. record { totals = n.totals; load = tt })
performed_tells command.StartOver k m kept word = silent_tells (λ n. record { totals = n.totals; load = tt })
performed_tells command.JumpAndClose k m kept word = entered_tells k m (after k k.tally.totals _) (closed_tells k m _)
performed_tells command.Ping k m kept word = silent_tells (λ n. record { totals = n.totals; load = echo_took word k.tally.totals.next })
performed_tells command.SequentialRead k m kept word = refused_tells k m refusal.Opcode

toward_tells : (c : Command) (left : ℕ) (k : Core) (m : List ℕ) (kept : Kept) (word : ℕ) → WordTells k (toward c left k m kept word)
toward_tells c left k m kept word =
    of_choice (WordTells k) _ (λ h. performed_tells c k m kept word) (λ h. silent_tells (λ n. record { totals = n.totals; load = tt }))

-- an acknowledgement changes nothing of it
opening_tells : (opcode : ℕ) (k : Core) (o : WordOutcome) → WordTells k o → WordTells k (opening opcode o)
unfolding acknowledging
opening_tells opcode k o told =
    of_choice (λ (t : Taken). WordTells k (t leaving o.memory)) _
    (λ h. record { refused = told.refused; number = told.number; goes_on = told.goes_on }) (λ h. told)

-- an opcode that is taken leaves a session that numbers
begun_numbers : (c : Command) (k : Core) → k.stage.phase ≡ phase.Opcode → KeepsNumbers k → KeepsNumbers (begun c k)
begun_numbers c k here n =
    record {
      totals = numbers_stay.turning k.tally.totals c n.totals;
      load = subst (λ (p : Phase). TookOne p (turned c k.tally.totals).next) (sym here) tt;
    }

opcode_tells : (k : Core) (m : List ℕ) (word : ℕ) {found : Result Known Refusal} → Looked found → k.stage.phase ≡ phase.Opcode
    → WordTells k (at_opcode k m word found)
opcode_tells k m word of_none here = refused_tells k m refusal.Opcode
opcode_tells k m word of_retired here = refused_tells k m refusal.Retired
opcode_tells k m word (of_row f) here =
    let told = opening_tells word (begun f.command k) _ (toward_tells f.command f.words (begun f.command k) m none_kept 0) in
    record {
      refused = told.refused;
      number = λ n. told.number (begun_numbers f.command k here n);
      goes_on = λ n. told.goes_on (begun_numbers f.command k here n);
    }

-- the data of a load
data_tells : (end left : ℕ) (k : Core) (m : List ℕ) (word : ℕ) → k.stage.phase ≡ phase.Data end left → WordTells k (in_phase (phase.Data end left) k m word)
data_tells end left k m word here =
    record {
      refused = λ h. absurd (h refl);
      number = λ n some. record { some = omega (arith, took n); last = omega (arith, took n) };
      goes_on = λ n. record { totals = n.totals; load = awaited_took end (left - 4) k.tally.totals.next (took n) };
    }
  where
    took : KeepsNumbers k → 1 < k.tally.totals.next
    took n = subst (λ (p : Phase). TookOne p k.tally.totals.next) here n.load

phase_tells : (p : Phase) (k : Core) (m : List ℕ) (word : ℕ) → k.stage.phase ≡ p → WordTells k (in_phase p k m word)
phase_tells phase.Opcode k m word here = opcode_tells k m word (looked word Sent k.dialect) here
phase_tells (phase.Argument c left kept) k m word here = toward_tells c (left - 1) k m kept word
phase_tells (phase.Data end left) k m word here = data_tells end left k m word here
phase_tells (phase.Echo n) k m word here = silent_tells (λ on. record { totals = on.totals; load = echo_took (n - 1) k.tally.totals.next })

word_tells : (k : Core) (m : List ℕ) (word : ℕ) → WordTells k (word_step k m word)
unfolding word_step
word_tells k m word = phase_tells k.stage.phase k m word refl

-- what is below the next number is below the first that no command gets
word_below : (k : Core) (m : List ℕ) (word : ℕ) → KeepsNumbers k → (word_step k m word).answer.wrote.count ≢ 0
    → (word_step k m word).answer.wrote.number < first_spent
word_below k m word n some =
    let told = word_tells k m word in
    omega (arith, (told.number n some).last, (told.goes_on n).totals.0.most)

pub tells_by_number : TellsByNumber
tells_by_number =
    record {
      opens = λ k here. record { totals = numbers_stay.opening k.tally.totals; load = subst (λ (p : Phase). TookOne p 1) (sym here) tt };
      words = word_tells;
      below = word_below;
    }
