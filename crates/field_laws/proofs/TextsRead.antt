-- A text is its lines, one behind the other: line by line, what is read is written there, and what is written there is read while it clashes with none before.
use Prim.Native.Nat.{ℕ, zero, suc, ◌+◌, ◌≤◌, ◌<◌}
use mathlib.Core.Bool.{true, false, ◌||◌}
use mathlib.Core.List.{List, [], ◌∷◌, ◌++◌, append_assoc, append-nil}
use mathlib.Core.Path.{◌≡◌, refl, sym, ap, ap₂, subst, ◌∙◌}
use native.Mathlib.Omega.{arith}
use borrow.Author.Tests.{leb-true, le-leb, lt-leb}
use Rattle.std.specs.Prelude.{Some, IsOk}
use lib.Dec.{leb}
use lib.ListN.{length, drop, drop_of_length-le, length-append, get_or-append}
use lib.Seq.{append_snoc, get_or-append_seam}
use Rattle.words.proofs.Choice.{chosen, passed, of_choice}
use Rattle.field_lines.specs.rules.Clashes.{clash}
use Rattle.field_lines.specs.rules.Lines.{no_line, line_at}
use Rattle.field_lines.specs.declared.FieldLine.{FieldLine}
use Rattle.field_register.proofs.ByLine.{by_line}
use Rattle.field_register.specs.rules.Reading.{Reading, lines_in, read_as, refused_at, clashes, read_from}
use Rattle.field_register.specs.declared.FieldRefusal.{FieldRefusal}
use Rattle.field_register.specs.declared.FieldRefusal.TheVariants.{Malformed, Clash}
use Rattle.field_laws.specs.claims.Meanings.{nth, register_in}
use Rattle.field_laws.specs.claims.WellFormed.{TextOf, none, more, ReadsWellFormed}
use Rattle.field_laws.proofs.Kept.{lines_kept}
use Rattle.field_laws.proofs.LinesRead.{line_written, line_read}

-- the lines that were read from a place on, behind others
record ReadOn (ls : List FieldLine) (rest : List ℕ) (q : Reading) : Type 0 where
  pub lines : List FieldLine
  pub kept_so : lines_in (register_in q) ≡ ls ++ lines
  pub text_of : TextOf lines rest

abbrev Reads : List FieldLine → List ℕ → Reading → Type 0
Reads ls rest q = IsOk q → ReadOn ls rest q

-- none where the text is at its end
at-end : (ls : List FieldLine) (text : List ℕ) (at : ℕ) → leb (length text) at ≡ true → Reads ls (drop at text) (read_as ls)
at-end ls text at e good =
    record {
      lines = [];
      kept_so = lines_kept ls ∙ sym (append-nil ls);
      text_of = rw (drop_of_length-le text (leb-true _ _ e)) none;
    }

refused_none : (ls : List FieldLine) (rest : List ℕ) (q : FieldRefusal) (n : ℕ) → Reads ls rest (refused_at q n)
refused_none ls rest q n good = cc

read_on : (allowed : ℕ) (ls : List FieldLine) (text : List ℕ) (at : ℕ) → Reads ls (drop at text) (read_from allowed ls text at)
unfolding read_from
read_on zero ls text at =
    of_choice (Reads ls (drop at text)) (leb (length text) at) (at-end ls text at) (λ further. refused_none ls (drop at text) Malformed _)
read_on (suc allowed) ls text at =
    of_choice (Reads ls (drop at text)) (leb (length text) at) (at-end ls text at)
    (λ further.
    by_line (Reads ls (drop at text)) (line_at text at) _ (λ bad. refused_none ls (drop at text) Malformed _)
    (λ p there.
    of_choice (Reads ls (drop at text)) (clashes ls p.line) (λ clashing. refused_none ls (drop at text) Clash _)
    (λ free good.
    let here = line_written text at p there in
    let rest = read_on allowed (ls ++ p.line ∷ []) text p.next good in
    record {
      lines = p.line ∷ rest.lines;
      kept_so = rest.kept_so ∙ append_snoc ls p.line rest.lines;
      text_of = subst (TextOf (p.line ∷ rest.lines)) (sym here.there) (more here.well_formed rest.text_of);
    })))

-- as many as are allowed
few_on : (allowed : ℕ) (ls : List FieldLine) (text : List ℕ) (at : ℕ) → length (lines_in (register_in (read_from allowed ls text at))) ≤ length ls + allowed
unfolding read_from
few_on zero ls text at =
    of_choice (λ (q : Reading). length (lines_in (register_in q)) ≤ length ls + 0) (leb (length text) at) (λ e. rw (lines_kept ls) (omega arith))
    (λ e. rw (lines_kept []) (omega arith))
few_on (suc allowed) ls text at =
    of_choice (λ (q : Reading). length (lines_in (register_in q)) ≤ length ls + suc allowed) (leb (length text) at) (λ e. rw (lines_kept ls) (omega arith))
    (λ e.
    by_line (λ (q : Reading). length (lines_in (register_in q)) ≤ length ls + suc allowed) (line_at text at) _ (λ bad. rw (lines_kept []) (omega arith))
    (λ p there.
    of_choice (λ (q : Reading). length (lines_in (register_in q)) ≤ length ls + suc allowed) (clashes ls p.line)
    (λ clashing. rw (lines_kept []) (omega arith))
    (λ free.
    let rest = few_on allowed (ls ++ p.line ∷ []) text p.next in
    omega (arith, length-append ls (p.line ∷ [])))))

-- no two clash
abbrev Apart : List FieldLine → Type 0
Apart ls = (i j : ℕ) → i < j → j < length ls → clash (nth ls i) (nth ls j) ≡ false

-- a line that clashes with none of some
free_of : (es : List FieldLine) (l : FieldLine) → ((i : ℕ) → i < length es → clash (nth es i) l ≡ false) → clashes es l ≡ false
unfolding clashes
free_of [] l each = refl
free_of (e ∷ es) l each = ap₂ ◌||◌ (each 0 (omega arith)) (free_of es l (λ i h. each (suc i) (omega arith)))

free_next : (done : List FieldLine) (l : FieldLine) (ls : List FieldLine) → Apart (done ++ l ∷ ls) → clashes done l ≡ false
free_next done l ls apart =
    free_of done l
    (λ i h.
    let long = length-append done (l ∷ ls) in
    subst (λ (e : FieldLine). clash e l ≡ false) (get_or-append done (l ∷ ls) no_line i h)
    (subst (λ (e : FieldLine). clash (nth (done ++ l ∷ ls) i) e ≡ false) (get_or-append_seam done l ls no_line) (apart i (length done) h (omega arith))))

-- a text at its end, and one line more
end_read : (allowed : ℕ) (done : List FieldLine) (text : List ℕ) (at : ℕ) → length text ≤ at → read_from allowed done text at ≡ read_as done
unfolding read_from
end_read zero done text at h = chosen _ _ _ (le-leb _ _ h)
end_read (suc allowed) done text at h = chosen _ _ _ (le-leb _ _ h)

line_more : (allowed : ℕ) (done : List FieldLine) (text : List ℕ) (at : ℕ) (l : FieldLine) (next : ℕ) → at < length text
    → line_at text at ≡ Some (record { line = l; next = next }) → clashes done l ≡ false
    → read_from (suc allowed) done text at ≡ read_from allowed (done ++ l ∷ []) text next
unfolding read_from
line_more allowed done text at l next h e free =
    passed _ _ _ (lt-leb _ _ h)
    ∙ rw e (passed _ _ _ free)

reads : (allowed : ℕ) (done : List FieldLine) (before : List ℕ) {ls : List FieldLine} {text : List ℕ} → TextOf ls text → length ls ≤ allowed
    → Apart (done ++ ls) → read_from allowed done (before ++ text) (length before) ≡ read_as (done ++ ls)
reads allowed done before none few apart =
    end_read allowed done (before ++ []) (length before) (rw (append-nil before) (omega arith)) ∙ ap read_as (sym (append-nil done))
reads zero done before (more w t) few apart = absurd (omega arith)
reads (suc allowed) done before (more {l} {ls} {line} {text} w t) few apart =
    let regrouped = append_assoc before line text in
    let some : 1 ≤ length line = omega (arith, simp length-append at (ap length w.is_text)) in
    let inside : length before < length (before ++ (line ++ text)) = simp length-append (omega arith) in
    line_more allowed done (before ++ (line ++ text)) (length before) l (length before + length line) inside
    (ap (λ (whole : List ℕ). line_at whole (length before)) (sym regrouped) ∙ line_read before line text l w) (free_next done l ls apart)
    ∙ ap₂ (read_from allowed (done ++ l ∷ [])) (sym regrouped) (sym (length-append before line))
    ∙ reads allowed (done ++ l ∷ []) (before ++ line) t (omega arith) (subst Apart (sym (append_snoc done l ls)) apart)
    ∙ ap read_as (append_snoc done l ls)

pub reads_well_formed : ReadsWellFormed
reads_well_formed =
    record {
      line_read = line_read;
      line_written = line_written;
      text_read = λ ls text lines few apart. reads 200 [] [] lines few apart;
      text_written = λ text good.
          let all = read_on 200 [] text 0 good in
          rw all.kept_so all.text_of;
      text_counted = λ text. few_on 200 [] text 0;
    }
