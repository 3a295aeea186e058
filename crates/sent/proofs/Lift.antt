-- The units of a word are the word. From a word's beginning all units but the last are gathered in silence, and the last hands the word to the word machine:
-- by the two buses up to there, and once for both from there.
use Prim.Native.Nat.{ℕ, ◌+◌, ◌-◌, ◌/◌, ◌%◌, ◌^◌, ◌≤◌, ◌<◌}
use mathlib.Core.Bool.{true, false}
use mathlib.Core.List.{List, [], ◌∷◌, ◌++◌}
use mathlib.Core.Logic.{◌≢◌}
use mathlib.Core.Path.{◌≡◌, refl, ap, ap₂, subst, ◌∙◌}
use native.Mathlib.Omega.{arith}
use lib.Dec.{lit<, lit≤}
use lib.ListN.{length, get_or, replicate}
use borrow.Author.Tests.{eq-eqb}
use Rattle.words.specs.rules.Bytes.{byte}
use Rattle.words.proofs.Choice.{chosen, of_choice}
use Rattle.windows.specs.rules.Window.{sum_of}
use Rattle.windows.specs.declared.Window.{Window}
use Rattle.opcodes.specs.rules.Answers.{code_of, accepted}
use Rattle.opcodes.specs.declared.Dialect.{Dialect}
use Rattle.opcodes.specs.rules.Refusals.{Verdict}
use Rattle.opcodes.specs.rules.Refusals as refusal
use Rattle.sent.specs.rules.Bus.{unit_bits, units_in_word, units_of, first_unit, pushed}
use Rattle.sent.specs.rules.Feeding.{State, Heard, next, fed, answers, NoneRefused}
use Rattle.sent.specs.claims.Lift.{at_word, silent, heard_word, Plain, Ready, UnitsAreTheWord, Absorbed, bootme, Lines}
use Rattle.sent.specs.rules.Line.{UnitOutcome, plainly, carried, is_start, unit_step}
use Rattle.machine_answers.specs.rules.Answers as machine
use Rattle.machine.specs.rules.Machine.{word_step}
use Rattle.sent.specs.rules.Opening.{opened_by}
use Rattle.sent.specs.rules.Line.{start_answer}
use Rattle.machine_answers.specs.rules.Replies.{silence, sent_bytes}
use Rattle.sent.specs.declared.Bus.{Bus}
use Rattle.sent.specs.declared.Bus.TheVariants.{Bytes, Halves}
use Rattle.machine_answers.specs.declared.Core.{Core}
use Rattle.sent.specs.declared.Line.{Line}
use Rattle.sent.specs.declared.Opened.{Opened}
use Rattle.machine_answers.specs.declared.Taken.{Taken}
use Rattle.sent.proofs.Cases.{unit_ended, unit_memory, unit_gathered, unit_whole}
use Rattle.machine.proofs.Every.{every_word}
use Rattle.sent.proofs.Feeding.{Goes, ◌then◌, unit_goes}
use Rattle.sent.proofs.Gathering.{holding, bytes_again, halves_again, begins_word, inside-word}

-- all units of a word but the last are gathered, and the last makes the word
record Gathered (bus : Bus) (k : Core) (m : List ℕ) (word : ℕ) : Type 0 where
  units : List ℕ
  last : ℕ
  have : ℕ
  part : ℕ
  split : units_of bus word ≡ units ++ (last ∷ [])
  goes : Goes bus (at_word k m) units (holding k have part m) (replicate (units_in_word bus - 1) silent)
  enough : units_in_word bus - 1 ≤ have
  inside : is_start bus (holding k have part m).session last ≡ false
  makes : pushed bus part last ≡ word

module _ (k : Core) (m : List ℕ) (running : k.ended ≡ false) (lent : length m ≡ sum_of k.windows) where
  -- one more unit is gathered
  gathers : (bus : Bus) (have part u : ℕ) → have < units_in_word bus - 1 → is_start bus (holding k have part m).session u ≡ false
      → Goes bus (holding k have part m) (u ∷ []) (holding k (have + 1) (pushed bus part u) m) (silent ∷ [])
  gathers bus have part u few other = unit_goes (unit_gathered bus (holding k have part m).session m u running lent other refl few)

  gathered : (bus : Bus) (word : ℕ) → word < 2 ^ 32 → Plain bus k word → Gathered bus k m word
  gathered Bytes word small plain =
      record {
        units = byte word 0 ∷ byte word 1 ∷ byte word 2 ∷ [];
        last = byte word 3;
        have = 3;
        part = pushed Bytes (pushed Bytes (pushed Bytes 0 (byte word 0)) (byte word 1)) (byte word 2);
        split = refl;
        goes =
            gathers Bytes 0 0 (byte word 0) (lit< tt) (begins_word Bytes k m _ plain)
            then gathers Bytes 1 _ (byte word 1) (lit< tt) (inside-word Bytes k m 1 _ _ refl)
            then gathers Bytes 2 _ (byte word 2) (lit< tt) (inside-word Bytes k m 2 _ _ refl);
        enough = lit≤ tt;
        inside = inside-word Bytes k m 3 _ _ refl;
        makes = bytes_again word small;
      }
  gathered Halves word small plain =
      record {
        units = first_unit Halves word ∷ [];
        last = get_or (units_of Halves word) 1 0;
        have = 1;
        part = pushed Halves 0 (first_unit Halves word);
        split = refl;
        goes = gathers Halves 0 0 (first_unit Halves word) (lit< tt) (begins_word Halves k m _ plain);
        enough = lit≤ tt;
        inside = inside-word Halves k m 1 _ _ refl;
        makes = halves_again word;
      }

  -- the last unit hands the word to the word machine
  word_goes : (bus : Bus) (word : ℕ) (g : Gathered bus k m word)
      → Goes bus (at_word k m) (units_of bus word)
      (record {
        session = (carried (holding k g.have g.part m).session (word_step k m word)).answer.session;
        memory = (carried (holding k g.have g.part m).session (word_step k m word)).memory;
      })
      (heard_word bus (word_step k m word).answer)
  unfolding carried
  word_goes bus word g =
      rw g.split
      (g.goes
      then unit_goes (unit_whole bus (holding k g.have g.part m).session m g.last running lent g.inside refl g.enough
      ∙ ap (λ (w : ℕ). carried (holding k g.have g.part m).session (word_step k m w)) g.makes))

-- the lift
pub units_are_the_word : (bus : Bus) (k : Core) (m : List ℕ) (word : ℕ) → Ready bus k m word → UnitsAreTheWord bus k m word
unfolding carried
units_are_the_word bus k m word ready =
    let g = gathered k m ready.running ready.lent bus word ready.small ready.plain in
    let goes = word_goes k m ready.running ready.lent bus word g in
    let o = word_step k m word in
    let every = every_word k m word in
    record {
      hears = goes.says;
      accepted = λ e.
          goes.leads
          ∙ ap (λ (l : Line). record { session = record { core = o.answer.core; line = l }; memory = o.memory })
          (chosen _ _ _ (eq-eqb (code_of o.answer.refusal) 0 e));
      refused = λ h.
          (ap (λ (x : State). x.session.core) goes.leads, every.ended h, ap (λ (x : State). x.memory) goes.leads ∙ every.untouched h);
    }

-- a word that is accepted, as it goes
pub accepted_goes : (bus : Bus) (k : Core) (m : List ℕ) (word : ℕ) → Ready bus k m word → {o : machine.WordOutcome} → word_step k m word ≡ o
    → code_of o.answer.refusal ≡ 0 → Goes bus (at_word k m) (units_of bus word) (at_word o.answer.core o.memory) (heard_word bus o.answer)
accepted_goes bus k m word ready e accepted =
    let lift = units_are_the_word bus k m word ready in
    rw (← e) (record { leads = lift.accepted (ap (λ (o : machine.WordOutcome). code_of o.answer.refusal) e ∙ accepted); says = lift.hears })

-- where none of the units of a word is refused, nor is the word
unfoldable AllNone : List Heard → Type 0
AllNone [] = Unit {0}
AllNone (h ∷ hs) = (h.refusal ≡ refusal.None) × AllNone hs

none_heard : (bus : Bus) (x : State) (us : List ℕ) → NoneRefused bus x us → AllNone (answers bus x us)
unfolding NoneRefused answers AllNone
none_heard bus x [] n = tt
none_heard bus x (u ∷ us) n = (n.0, none_heard bus (next bus x u) us n.1)

last_none : (bus : Bus) (t : Taken) → AllNone (heard_word bus t) → t.refusal ≡ refusal.None
unfolding AllNone
last_none Bytes t n = n.1.1.1.0
last_none Halves t n = n.1.0

pub word_accepted : (bus : Bus) (k : Core) (m : List ℕ) (word : ℕ) → Ready bus k m word → NoneRefused bus (at_word k m) (units_of bus word)
    → (word_step k m word).answer.refusal ≡ refusal.None
word_accepted bus k m word ready n =
    last_none bus (word_step k m word).answer (subst AllNone (units_are_the_word bus k m word ready).hears (none_heard bus (at_word k m) (units_of bus word) n))

-- a session that refuses a unit and stays as it is, refuses them all
refuses_all : (bus : Bus) (x : State) (q : Verdict) → ((u : ℕ) → unit_step bus x.session x.memory u ≡ plainly q silence x.session x.memory)
    → (units : List ℕ) → Absorbed bus x units q
unfolding fed answers
refuses_all bus x q step [] = record { stays = refl; hears = refl }
refuses_all bus x q step (u ∷ us) =
    let same : next bus x u ≡ x = ap (λ (o : UnitOutcome). record { session = o.answer.session; memory = o.memory }) (step u) in
    let rest = refuses_all bus x q step us in
    record {
      stays = ap (λ (y : State). fed bus y us) same ∙ rest.stays;
      hears = ap₂ ◌∷◌
          (ap (λ (o : UnitOutcome). record { refusal = o.answer.refusal; reply = o.answer.reply; event = o.answer.event }) (step u))
          (ap (λ (y : State). answers bus y us) same ∙ rest.hears);
    }

pub absorbed : (bus : Bus) (x : State) (units : List ℕ) → x.session.core.ended ≡ true → Absorbed bus x units refusal.Ended
absorbed bus x units over = refuses_all bus x refusal.Ended (λ u. unit_ended bus x.session x.memory u over) units

pub unlent : (bus : Bus) (x : State) (units : List ℕ) → x.session.core.ended ≡ false → length x.memory ≢ sum_of x.session.core.windows
    → Absorbed bus x units refusal.Memory
unlent bus x units running other = refuses_all bus x refusal.Memory (λ u. unit_memory bus x.session x.memory u running other) units

-- a reply is whole units
abbrev InUnits : Bus → UnitOutcome → Type 0
InUnits bus o = o.answer.reply.count % (unit_bits bus / 8) ≡ 0

silence_whole : (bus : Bus) → 0 % (unit_bits bus / 8) ≡ 0
silence_whole Bytes = refl
silence_whole Halves = refl

answer_whole : (bus : Bus) → (start_answer bus).count % (unit_bits bus / 8) ≡ 0
unfolding start_answer
answer_whole Bytes = refl
answer_whole Halves = refl

words_whole : (bus : Bus) (n : ℕ) → n % 4 ≡ 0 → n % (unit_bits bus / 8) ≡ 0
words_whole Bytes n e = omega (arith, e)
words_whole Halves n e = omega (arith, e)

unit_whole_units : (bus : Bus) (x : State) (u : ℕ) → InUnits bus (unit_step bus x.session x.memory u)
unfolding unit_step carried
unit_whole_units bus x u =
    of_choice (InUnits bus) _ (λ h. silence_whole bus)
    (λ h. of_choice (InUnits bus) _ (λ h. silence_whole bus)
    (λ h. of_choice (InUnits bus) _ (λ h. answer_whole bus)
    (λ h. of_choice (InUnits bus) _ (λ h. silence_whole bus)
    (λ h. of_choice (InUnits bus) _ (λ h. silence_whole bus)
    (λ h. words_whole bus _ (every_word x.session.core x.memory _).words)))))

greeting_opening : (dialect : Dialect) (count : ℕ) (windows : List Window) → (opened_by Bytes dialect count windows).refusal ≡ refusal.None
    → sent_bytes (opened_by Bytes dialect count windows).reply ≡ bootme
unfolding opened_by
greeting_opening dialect count windows =
    of_choice (λ (o : Opened). (o.refusal ≡ refusal.None → sent_bytes o.reply ≡ bootme)) _ (λ h e. absurd (omega (arith, ap code_of e))) (λ h e. refl)

silent_opening : (dialect : Dialect) (count : ℕ) (windows : List Window) → sent_bytes (opened_by Halves dialect count windows).reply ≡ []
unfolding opened_by
silent_opening dialect count windows = of_choice (λ (o : Opened). sent_bytes o.reply ≡ []) _ (λ h. refl) (λ h. refl)

pub lines : Lines
lines =
    record {
      lift = units_are_the_word;
      every = every_word;
      absorbs = absorbed;
      unlent = unlent;
      whole_units = unit_whole_units;
      greets = greeting_opening;
      no_greeting = silent_opening;
    }
