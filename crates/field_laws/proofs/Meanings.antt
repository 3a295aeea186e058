-- The two questions agree, and the command does what it says: the line that the name is answers for each of its bits, and by the laws of a field that is set
-- its command does so to the word.
use Rattle.std.specs.Prelude.{Option, Some, Ok, ok_or}
use Prim.Native.Nat.{ℕ}
use mathlib.Core.Bool.{true, false, ◌&&◌}
use mathlib.Core.List.{List}
use mathlib.Core.Path.{◌≡◌, refl, sym, ap, ap₂, subst, ◌∙◌}
use borrow.Author.Tests.{leb-true, le-leb}
use Rattle.std.specs.Prelude.{Option, Some, unwrap_or}
use Rattle.std.proofs.lemmas.Option.{option_and_then_some}
use lib.Dec.{leb}
use lib.ListN.{length, get_or}
use Rattle.std.specs.declared.result.Result.TheVariants.{Ok}
use Rattle.words.specs.rules.Bits.{within}
use Rattle.words.specs.rules.Bytes.{byte}
use Rattle.words.specs.rules.Choice.{pick}
use Rattle.words.proofs.Choice.{both}
use Rattle.windows.specs.rules.Window.{sum_of, place_of}
use Rattle.windows.specs.declared.Window.{Window}
use Rattle.windows.specs.declared.Right.TheVariants.{Set}
use Rattle.opcodes.specs.rules.Opcodes.{rows, row_serves, found_in as row_found, looked_up, with_words}
use Rattle.opcodes.specs.declared.Command.TheVariants.{BootTable}
use Rattle.opcodes.specs.declared.Dialect.{Dialect}
use Rattle.opcodes.specs.declared.Dialect.TheVariants.{Am17xx, Dm648}
use Rattle.opcodes.specs.declared.Mode.{Mode}
use Rattle.opcodes.specs.declared.Mode.TheVariants.{Sent, Flash}
use Rattle.opcodes.specs.declared.Refusal.TheVariants as why
use Rattle.commands.specs.rules.Commands.{start_of, stop_of, too_wide, range_judged, setting_judged, setting_memory}
use Rattle.commands.proofs.Judging.{units_range, shape_fits}
use Rattle.law_effects.specs.claims.Fields.{field_width, Holds}
use Rattle.law_effects.proofs.Fields.{field_laws, named_shape}
use Rattle.field_lines.specs.rules.Clashes.{in_force, has_bit}
use Rattle.field_lines.specs.rules.Lines.{no_line}
use Rattle.field_lines.specs.rules.Text.{name_of}
use Rattle.field_lines.specs.declared.FieldLine.{FieldLine}
use Rattle.field_register.specs.rules.Commands.{type_word, words_for}
use Rattle.field_register.specs.rules.Questions.{is_about, answers, asked, field_of, line_of_name}
use Rattle.field_register.specs.declared.Subject.TheVariants.{Name, Bit}
use Rattle.field_laws.specs.claims.Meanings.{register_of, lines_of, kind_in, address_in, writes_bit, Made, QuestionsAgree, line_named, IsBootTable, DoesWhatItSays}
use Rattle.field_laws.specs.claims.WellFormed.{InRanges}
use Rattle.field_laws.proofs.Answers.{Where, where_found, the_answer_is}
use Rattle.field_laws.proofs.Clashing.{has-bit, is_bit}
use Rattle.field_laws.proofs.Commands.{OfLine, of_line, type_start, type_stop, type_kind, type_width, names_field, names_bits, words_small}
use Rattle.field_laws.proofs.Kept.{lines_good}

-- a question about a bit asks for the bit
about_bit : (l : FieldLine) (word bit release : ℕ) → has_bit l word bit ≡ true → in_force l release ≡ true → answers (Bit word bit) release l ≡ true
unfolding answers is_about
about_bit l word bit release e f = ap₂ ◌&&◌ e f

of_bit : (l : FieldLine) (word bit release : ℕ) → answers (Bit word bit) release l ≡ true → has_bit l word bit ≡ true
unfolding answers is_about
of_bit l word bit release e = (both (has_bit l word bit) _ e).0

in-force : (s : _) (release : ℕ) (l : FieldLine) → answers s release l ≡ true → in_force l release ≡ true
unfolding answers
in-force s release l e = (both (is_about s l) _ e).1

module _ (text name : List ℕ) (release value : ℕ) (words : List ℕ) (m : Made text name release value words) where
  abbrev f : Option FieldLine
  f = line_of_name (register_of text) name release

  of : OfLine f value words
  of = of_line f value words m.made

  abbrev l : FieldLine
  l = of.line

  -- the name is one, and the line is the answer about it
  record Named : Type 0 where
    letters : List ℕ
    answered : asked (register_of text) (Name letters) release ≡ Some l

  named : Named
  named =
      option_and_then_some (λ n. asked (register_of text) (Name n) release) (name_of name) l of.is_found
      (λ n e found. record { letters = n; answered = found })

  stands : Where (Name named.letters) release (lines_of text) l
  stands = where_found (Name named.letters) release (lines_of text) l named.answered

  sound : InRanges l
  sound = subst InRanges stands.is ((lines_good text).sound stands.number stands.below)

  kind : kind_in words ≡ type_word l
  unfolding words_for
  kind = sym (ap kind_in of.words_are)

  address : address_in words ≡ l.word
  unfolding words_for
  address = sym (ap address_in of.words_are)

  bits : (bit : ℕ) → within (start_of (kind_in words)) (field_width (kind_in words)) bit ≡ (leb l.start bit && leb bit l.stop)
  bits bit = rw kind (names_bits l sound bit)

  -- each bit that is written is the line's
  written_is : (word bit : ℕ) → writes_bit words word bit → field_of (register_of text) word bit release ≡ f
  written_is word bit w =
      let range = both (leb l.start bit) _ (sym (bits bit) ∙ w.1) in
      let has : has_bit l word bit ≡ true = is_bit l word bit (sym address ∙ sym w.0) (leb-true _ _ range.0) (leb-true _ _ range.1) in
      let answered : answers (Bit word bit) release l ≡ true = about_bit l word bit release has (in-force _ release l stands.answers_it) in
      the_answer_is text (Bit word bit) release stands.number stands.below (rw stands.is answered)
      ∙ ap Some stands.is ∙ sym of.is_found

  other_is_not : (word bit : ℕ) → (writes_bit words word bit → ⊥) → field_of (register_of text) word bit release ≡ f → ⊥
  other_is_not word bit never e =
      let w = where_found (Bit word bit) release (lines_of text) l (e ∙ of.is_found) in
      let answered : answers (Bit word bit) release l ≡ true = w.answers_it in
      let h = has-bit l word bit (of_bit l word bit release answered) in
      never (sym h.word_is ∙ sym address, bits bit ∙ ap₂ ◌&&◌ (le-leb _ _ h.from) (le-leb _ _ h.to))

  boot_of_line : IsBootTable l value words
  unfolding pick words_for looked_up rows row_serves row_found
  boot_of_line =
      record {
        five = sym (ap length of.words_are);
        small = λ i. rw (← of.words_are) (words_small l sound value of.fits i);
        opcode = first;
        in_table = found;
        names_field = rw kind (names_field l sound);
        kind = ap (λ (w : ℕ). byte w 0) kind ∙ type_kind l sound;
        start = ap start_of kind ∙ type_start l sound;
        stop = ap stop_of kind ∙ type_stop l sound;
        address = address;
        data_word = sym (ap (λ (ws : List ℕ). get_or ws 3 0) of.words_are);
        no_delay = sym (ap (λ (ws : List ℕ). get_or ws 4 0) of.words_are);
      }
    where
      first : get_or words 0 0 ≡ 0x58535907
      first = sym (ap (λ (ws : List ℕ). get_or ws 0 0) of.words_are)

      found : (mode : Mode) (dialect : Dialect) → looked_up (get_or words 0 0) mode dialect ≡ Ok (with_words BootTable 4)
      found Sent Am17xx = rw first
      found Sent Dm648 = rw first
      found Flash Am17xx = rw first
      found Flash Dm648 = rw first

  boot : IsBootTable (line_named text name release) value words
  boot =
      subst (λ (x : FieldLine). IsBootTable x value words) (sym (ap (λ (o : Option FieldLine). unwrap_or o no_line) of.is_found)) boot_of_line

  fits : too_wide (field_width (type_word l)) value ≡ false
  fits = rw (type_width l sound) of.fits

  by_place : (windows : List Window)
      → setting_judged windows (kind_in words) (address_in words) value ≡ ok_or (place_of windows Set (address_in words) 4) why.Range
  unfolding range_judged
  by_place windows =
      rw (kind, address)
      (shape_fits windows l.word value (named_shape windows (type_word l) l.word value (names_field l sound)) fits
      ∙ units_range windows Set _ l.word 4 sound.aligned refl)

  sets : (windows : List Window) (memory : List ℕ) (place : ℕ) → length memory ≡ sum_of windows → place_of windows Set (address_in words) 4 ≡ Some place
      → (setting_judged windows (kind_in words) (address_in words) value ≡ Ok place)
      × Holds (kind_in words) place value memory (setting_memory (Ok place) memory (kind_in words) value)
  sets windows memory place lent over =
      let judged = by_place windows ∙ ap (λ (found : Option ℕ). ok_or found why.Range) over in
      (judged, field_laws.accepted windows memory lent (kind_in words) (address_in words) value place boot.names_field judged)

pub questions_agree : QuestionsAgree
questions_agree = record { written = written_is; not_written = other_is_not }

pub does_what_it_says : DoesWhatItSays
does_what_it_says = record { boot-table = boot; by_window = by_place; accepted = sets }
