-- How reading goes on: one law for each way that the line at a place may go, of a register that has so many lines and room for the rest.
use Prim.Native.Nat.{ℕ, zero, suc, ◌+◌, ◌-◌, ◌≤◌, ◌<◌}
use mathlib.Core.Bool.{true, false}
use mathlib.Core.List.{List, [], ◌∷◌, ◌++◌}
use mathlib.Core.Path.{◌≡◌, refl, sym, ap, ◌∙◌}
use native.Mathlib.Numerals.{add-one}
use native.Mathlib.Omega.{arith}
use borrow.Author.Tests.{le-leb, lt-leb}
use Rattle.std.specs.Prelude.{Option, Some, None, Ok}
use Rattle.std.specs.Option.{option_map_or}
use lib.ListN.{length, take, set, replicate, length-set}
use lib.Seq.{length-take-le, set_at, take-suc-set, append_snoc}
use Rattle.words.specs.rules.Choice.{pick}
use Rattle.words.proofs.Choice.{chosen, passed}
use Rattle.field_lines.specs.rules.Lines.{no_line, line_at}
use Rattle.field_lines.specs.declared.FieldLine.{FieldLine}
use Rattle.field_lines.specs.declared.Parsed.{Parsed}
use Rattle.field_register.specs.rules.Reading.{Reading, kept, read_as, refused_at, clashes, read_from, reading_of}
use Rattle.field_register.specs.declared.FieldRefusal.{FieldRefusal}
use Rattle.field_register.specs.declared.FieldRefusal.TheVariants.{Malformed, Clash}
use Rattle.field_register.specs.declared.Register.{Register}

-- the array behind count lines holds none
abbrev pub Room : List FieldLine → ℕ → Type 0
Room lines count = lines ≡ take count lines ++ replicate (200 - count) no_line

-- at the text's end nothing more is read
at-end : (allowed : ℕ) (ls : List FieldLine) (text : List ℕ) (at : ℕ) → length text ≤ at → read_as ls ≡ read_from allowed ls text at
unfolding read_from
at-end zero ls text at h = sym (chosen _ _ _ (le-leb _ _ h))
at-end (suc allowed) ls text at h = sym (chosen _ _ _ (le-leb _ _ h))

module _ (lines : List FieldLine) (count : ℕ) (long : length lines ≡ 200) (few : count ≤ 200) where
  counted : length (take count lines) ≡ count
  counted = length-take-le count lines (omega arith)

  -- all is read: the array is the register of these lines
  read_all : (text : List ℕ) (at : ℕ) → length text ≤ at → Room lines count
      → Ok (record { count = count; lines = lines }) ≡ read_from (200 - count) (take count lines) text at
  unfolding kept
  read_all text at h room =
      let same : record { count = count; lines = lines } ≡ kept (take count lines) =
      rw counted (ap (λ (ls : List FieldLine). record { count = count; lines = ls }) room) in
      ap (λ (r : Register). Ok r) same ∙ at-end (200 - count) (take count lines) text at h

  numbered : (q : FieldRefusal) → refused_at q (count + 1) ≡ refused_at q (length (take count lines) + 1)
  numbered q = ap (λ (n : ℕ). refused_at q (n + 1)) (sym counted)

  module _ (text : List ℕ) (at : ℕ) (h : at < length text) where
    none_allowed : read_from 0 (take count lines) text at ≡ refused_at Malformed (length (take count lines) + 1)
    unfolding read_from
    none_allowed = passed _ _ _ (lt-leb _ _ h)

    -- a line beyond the last that is allowed
    read_beyond : 200 ≤ count → refused_at Malformed (count + 1) ≡ read_from (200 - count) (take count lines) text at
    read_beyond full =
        let none : 200 - count ≡ 0 = omega arith in
        numbered Malformed ∙ sym (ap (λ (n : ℕ). read_from n (take count lines) text at) none ∙ none_allowed)

    -- else the line at the place decides
    module _ (below : count < 200) where
      allowed : 200 - count ≡ suc (200 - (count + 1))
      allowed = omega arith

      abbrev on_from : Parsed → Reading
      on_from p =
          pick (clashes (take count lines) p.line) (refused_at Clash (length (take count lines) + 1))
          (read_from (200 - (count + 1)) (take count lines ++ p.line ∷ []) text p.next)

      by-line : (o : Option Parsed) → o ≡ line_at text at
          → read_from (200 - count) (take count lines) text at ≡ option_map_or on_from o (refused_at Malformed (length (take count lines) + 1))
      unfolding read_from
      by-line o e =
          ap (λ (n : ℕ). read_from n (take count lines) text at) allowed ∙ passed _ _ _ (lt-leb _ _ h)
          ∙ ap (λ (q : Option Parsed). option_map_or on_from q (refused_at Malformed (length (take count lines) + 1))) (sym e)

      read_malformed : None ≡ line_at text at → refused_at Malformed (count + 1) ≡ read_from (200 - count) (take count lines) text at
      read_malformed bad = numbered Malformed ∙ sym (by-line None bad)

      module _ (p : Parsed) (e : Some p ≡ line_at text at) where
        read_clash : clashes (take count lines) p.line ≡ true
            → refused_at Clash (count + 1) ≡ read_from (200 - count) (take count lines) text at
        read_clash clashing = numbered Clash ∙ sym (by-line (Some p) e ∙ chosen _ _ _ clashing)

        front : take (count + 1) (set lines count p.line) ≡ take count lines ++ p.line ∷ []
        front = rw add-one (take-suc-set lines count p.line (omega arith))

        -- one line more
        read_on : clashes (take count lines) p.line ≡ false
            → read_from (200 - (count + 1)) (take (count + 1) (set lines count p.line)) text p.next ≡ read_from (200 - count) (take count lines) text at
        read_on clear =
            ap (λ (ls : List FieldLine). read_from (200 - (count + 1)) ls text p.next) front
            ∙ sym (by-line (Some p) e ∙ passed _ _ _ clear)

        room_on : Room lines count → Room (set lines count p.line) (count + 1)
        room_on room =
            let none-next : lines ≡ take count lines ++ no_line ∷ replicate (200 - (count + 1)) no_line = room ∙ rw allowed in
            ap (λ (ls : List FieldLine). set ls count p.line) none-next
            ∙ set_at (take count lines) no_line (replicate (200 - (count + 1)) no_line) p.line count counted
            ∙ rw (front, append_snoc)

-- what each turn of the reading keeps: the lines so far lead with the rest of the text to what the whole text leads to
pub record SoFar (text : List ℕ) (lines : List FieldLine) (count at : ℕ) : Type 0 where
  pub few : count ≤ 200
  pub long : length lines ≡ 200
  pub room : Room lines count
  pub leads : read_from (200 - count) (take count lines) text at ≡ reading_of text

pub begins : (text : List ℕ) → SoFar text (replicate 200 no_line) 0 0
begins text = record { few = omega arith; long = refl; room = refl; leads = refl }

module _ (text : List ℕ) (lines : List FieldLine) (count at : ℕ) (so : SoFar text lines count at) where
  pub ends : length text ≤ at → Ok (record { count = count; lines = lines }) ≡ reading_of text
  ends h = read_all lines count so.long so.few text at h so.room ∙ so.leads

  module _ (h : at < length text) where
    pub beyond : 200 ≤ count → refused_at Malformed (count + 1) ≡ reading_of text
    beyond full = read_beyond lines count so.long so.few text at h full ∙ so.leads

    module _ (below : count < 200) where
      pub malformed : None ≡ line_at text at → refused_at Malformed (count + 1) ≡ reading_of text
      malformed none = read_malformed lines count so.long so.few text at h below none ∙ so.leads

      module _ (p : Parsed) (e : Some p ≡ line_at text at) where
        pub clashing : clashes (take count lines) p.line ≡ true → refused_at Clash (count + 1) ≡ reading_of text
        clashing held = read_clash lines count so.long so.few text at h below p e held ∙ so.leads

        pub goes_on : clashes (take count lines) p.line ≡ false → SoFar text (set lines count p.line) (count + 1) p.next
        goes_on free =
            record {
              few = omega arith;
              long = simp length-set so.long;
              room = room_on lines count so.long so.few text at h below p e so.room;
              leads = read_on lines count so.long so.few text at h below p e free ∙ so.leads;
            }
