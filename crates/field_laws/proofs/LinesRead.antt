-- A line is its six pairs, one behind the other: what is read of each is written there, and where they are written each is read where the one before it ends.
use Prim.Native.Nat.{ℕ, ◌+◌, ◌%◌}
use Prim.Native.Char.{code}
use mathlib.Core.Bool.{true, ◌&&◌}
use mathlib.Core.List.{List, ◌∷◌, ◌++◌, append_assoc}
use mathlib.Core.Path.{◌≡◌, refl, sym, ap, ap₂, subst, ◌∙◌}
use native.Mathlib.Omega.{arith}
use borrow.Author.Tests.{leb-true, le-leb, eqb-true, eq-eqb, eqb-false, ne_eqb}
use lib.Dec.{eqb, leb, lit<, lit≤}
use Rattle.std.specs.Prelude.{Option, Some}
use Rattle.std.proofs.lemmas.Option.{option_and_then_some}
use lib.ListN.{length, drop, length-append}
use lib.Seq.{drop-append_seam}
use Rattle.words.proofs.Choice.{chosen, by_test, both, of_choice}
use Rattle.field_lines.specs.rules.Lines.{line_of, in_order, parsed_if, line_at}
use Rattle.field_lines.specs.rules.Pairs.{field_pair, word_pair, start_pair, stop_pair, since_pair, until_pair}
use Rattle.field_lines.specs.rules.Text.{bytes_of}
use Rattle.field_lines.specs.declared.FieldLine.{FieldLine}
use Rattle.field_lines.specs.declared.Pair.{Pair}
use Rattle.field_lines.specs.declared.Parsed.{Parsed}
use Rattle.field_laws.specs.claims.WellFormed.{written, InRanges, line_text, WellFormed, Stands}
use Rattle.field_laws.proofs.Clashing.{or_first, or_second, or_else}
use Rattle.field_laws.proofs.PairsRead.{PairAt}
use Rattle.field_laws.proofs.ValuesRead.{decimal_read, decimal_is, word_read, word_is, name_read, name_is}

-- a space
abbrev space : ℕ
space = code " "

-- a line's text and what follows, pair by pair
abbrev until_on : FieldLine → List ℕ → List ℕ
until_on l rest = bytes_of "until=" ++ (written l.until ++ (code "\n" ∷ rest))

abbrev since_on : FieldLine → List ℕ → List ℕ
since_on l rest = bytes_of "since=" ++ (written l.since ++ (space ∷ until_on l rest))

abbrev stop_on : FieldLine → List ℕ → List ℕ
stop_on l rest = bytes_of "stop=" ++ (written l.stop ++ (space ∷ since_on l rest))

abbrev start_on : FieldLine → List ℕ → List ℕ
start_on l rest = bytes_of "start=" ++ (written l.start ++ (space ∷ stop_on l rest))

abbrev word_on : FieldLine → List ℕ → List ℕ → List ℕ
word_on l address rest = bytes_of "word=0x" ++ (address ++ (space ∷ start_on l rest))

abbrev field_on : FieldLine → List ℕ → List ℕ → List ℕ → List ℕ
field_on l name address rest = bytes_of "field=" ++ (name ++ (space ∷ word_on l address rest))

by_pairs : (l : FieldLine) (name address rest : List ℕ) → line_text l name address ++ rest ≡ field_on l name address rest
by_pairs l name address rest = simp append_assoc

-- six pairs, each where the one before it ends, are the line's text, and the last ends with it
module _ (text : List ℕ) (at : ℕ) (l : FieldLine) (name address : List ℕ) (word_at start-at stop-at Since-at until-at next : ℕ)
    (field : PairAt text at (bytes_of "field=") name space word_at) (word : PairAt text word_at (bytes_of "word=0x") address space start-at)
    (start : PairAt text start-at (bytes_of "start=") (written l.start) space stop-at)
    (stop : PairAt text stop-at (bytes_of "stop=") (written l.stop) space Since-at)
    (since : PairAt text Since-at (bytes_of "since=") (written l.since) space until-at)
    (until : PairAt text until-at (bytes_of "until=") (written l.until) (code "\n") next) where
  all_there : drop at text ≡ line_text l name address ++ drop next text
  all_there =
      field.there
      ∙ ap (λ (rest : List ℕ). bytes_of "field=" ++ (name ++ (space ∷ rest)))
      (word.there
      ∙ ap (λ (rest : List ℕ). bytes_of "word=0x" ++ (address ++ (space ∷ rest)))
      (start.there
      ∙ ap (λ (rest : List ℕ). bytes_of "start=" ++ (written l.start ++ (space ∷ rest)))
      (stop.there
      ∙ ap (λ (rest : List ℕ). bytes_of "stop=" ++ (written l.stop ++ (space ∷ rest)))
      (since.there ∙ ap (λ (rest : List ℕ). bytes_of "since=" ++ (written l.since ++ (space ∷ rest))) until.there))))
      ∙ sym (by_pairs l name address (drop next text))

  all_long : next ≡ at + length (line_text l name address)
  all_long = simp length-append (omega arith)

-- what is read of a line
module _ (text : List ℕ) (at : ℕ) where
  -- six pairs, each where the one before it ends, that are right together
  read_so : (field : Pair (List ℕ)) (word start stop since until : Pair ℕ) → field_pair text at ≡ Some field → word_pair text field.next ≡ Some word
      → start_pair text word.next ≡ Some start → stop_pair text start.next ≡ Some stop → since_pair text stop.next ≡ Some since
      → until_pair text since.next ≡ Some until → in_order (line_of field word start stop since until) ≡ true
      → Stands text at (record { line = line_of field word start stop since until; next = until.next })
  unfolding in_order
  read_so field word start stop since until f w s t i u held =
      let ordered = both (eqb (word.value % 4) 0 && leb start.value stop.value) _ held in
      let front = both (eqb (word.value % 4) 0) _ ordered.0 in
      let name = name_read text at field f in
      let address = word_read text field.next word w in
      let first = decimal_read text word.next (bytes_of "start=") 0 31 space (lit≤ tt) start s in
      let last = decimal_read text start.next (bytes_of "stop=") 0 31 space (lit≤ tt) stop t in
      let begin = decimal_read text stop.next (bytes_of "since=") 1 9999 space (lit≤ tt) since i in
      let end = decimal_read text since.next (bytes_of "until=") 0 9999 (code "\n") (lit≤ tt) until u in
      let l : FieldLine = line_of field word start stop since until in
      record {
        line = line_text l name.name address.address;
        well_formed = record {
          name = name.name;
          address = address.address;
          in_ranges = record {
            small = address.small;
            aligned = eqb-true _ _ front.0;
            order = leb-true _ _ front.1;
            last = last.high;
            first = begin.low;
            since_most = begin.high;
            until_most = end.high;
            ends = λ some. leb-true _ _ (or_else (eqb until.value 0) _ ordered.1 (ne_eqb _ _ some));
          };
          is_name = name.is_name;
          is_address = address.is_address;
          is_text = refl;
        };
        there = all_there text at l name.name address.address field.next word.next start.next stop.next since.next until.next name.stands
            address.stands first.stands last.stands begin.stands end.stands;
        behind = all_long text at l name.name address.address field.next word.next start.next stop.next since.next until.next name.stands
            address.stands first.stands last.stands begin.stands end.stands;
      }

  -- pairs that are right together are the line that is read
  right_so : (l : FieldLine) (next : ℕ) (p : Parsed) → parsed_if l next ≡ Some p → (in_order l ≡ true → Stands text at (record { line = l; next = next }))
      → Stands text at p
  unfolding parsed_if
  right_so l next p =
      of_choice (λ (o : Option Parsed). o ≡ Some p → (in_order l ≡ true → Stands text at (record { line = l; next = next })) → Stands text at p) (in_order l)
      (λ held e stands.
      let is : record { line = l; next = next } ≡ p = cc in
      subst (Stands text at) is (stands held))
      (λ failed e stands. cc)

  pub line_written : (p : Parsed) → line_at text at ≡ Some p → Stands text at p
  unfolding line_at
  line_written p e =
      option_and_then_some _ (field_pair text at) p e
      (λ field f e1.
      option_and_then_some _ (word_pair text field.next) p e1
      (λ word w e2.
      option_and_then_some _ (start_pair text word.next) p e2
      (λ start s e3.
      option_and_then_some _ (stop_pair text start.next) p e3
      (λ stop t e4.
      option_and_then_some _ (since_pair text stop.next) p e4
      (λ since i e5.
      option_and_then_some _ (until_pair text since.next) p e5
      (λ until u e6.
      right_so (line_of field word start stop since until) until.next p e6 (read_so field word start stop since until f w s t i u)))))))

-- a line that is written is read
module _ (text : List ℕ) (at : ℕ) where
  in-order : (l : FieldLine) → InRanges l → in_order l ≡ true
  unfolding in_order
  in-order l r =
      ap₂ ◌&&◌ (ap₂ ◌&&◌ (eq-eqb _ _ r.aligned) (le-leb _ _ r.order))
      (by_test (eqb l.until 0) (λ endless. or_first (eqb l.until 0) _ endless)
      (λ ending. or_second (eqb l.until 0) _ (le-leb _ _ (r.ends (eqb-false _ _ ending)))))

  -- each pair, where the one before it ends
  module _ (l : FieldLine) (line after : List ℕ) (w : WellFormed l line) (there : drop at text ≡ field_on l w.name w.address after) where
    abbrev word_from : ℕ
    word_from = at + 6 + length w.name + 1

    abbrev start_from : ℕ
    start_from = word_from + 7 + length w.address + 1

    abbrev stop_from : ℕ
    stop_from = start_from + 6 + length (written l.start) + 1

    abbrev since_from : ℕ
    since_from = stop_from + 5 + length (written l.stop) + 1

    abbrev until_from : ℕ
    until_from = since_from + 6 + length (written l.since) + 1

    abbrev next_from : ℕ
    next_from = until_from + 6 + length (written l.until) + 1

    line_is : line_at text at ≡ Some (record { line = l; next = next_from })
    unfolding line_at parsed_if
    line_is =
        let r = w.in_ranges in
        let field = name_is text at w.name l.name (word_on l w.address after) w.is_name there in
        let word = word_is text word_from w.address l.word (start_on l after) r.small w.is_address field.1 in
        let start = decimal_is text start_from (bytes_of "start=") 0 31 space (lit≤ tt) l.start (stop_on l after) (omega arith) (omega arith) (lit< tt)
        word.1 in
        let stop = decimal_is text stop_from (bytes_of "stop=") 0 31 space (lit≤ tt) l.stop (since_on l after) (omega arith) r.last (lit< tt)
        start.1 in
        let since = decimal_is text since_from (bytes_of "since=") 1 9999 space (lit≤ tt) l.since (until_on l after) r.first r.since_most (lit< tt)
        stop.1 in
        let until = decimal_is text until_from (bytes_of "until=") 0 9999 (code "\n") (lit≤ tt) l.until after (omega arith) r.until_most (lit< tt)
        since.1 in
        rw (field.0, word.0, start.0, stop.0, since.0, until.0) (chosen _ _ _ (in-order l w.in_ranges))

pub line_read : (before line after : List ℕ) (l : FieldLine) → WellFormed l line
    → line_at (before ++ line ++ after) (length before) ≡ Some (record { line = l; next = length before + length line })
line_read before line after l w =
    let text : List ℕ = before ++ line ++ after in
    let there : drop (length before) text ≡ field_on l w.name w.address after =
    ap (drop (length before)) (append_assoc before line after) ∙ drop-append_seam before (line ++ after)
    ∙ ap (λ (t : List ℕ). t ++ after) w.is_text ∙ by_pairs l w.name w.address after in
    let next_is : next_from text (length before) l line after w there ≡ length before + length line =
    omega (arith, simp length-append at (ap length w.is_text)) in
    line_is text (length before) l line after w there
    ∙ ap (λ (n : ℕ). Some (record { line = l; next = n })) next_is
