-- What holds of the survey of a list of images. The survey so far has the number of the images before and the last opened one of them, which is all that a
-- line asks of it; so each law goes by induction over the images that are still to come.
use Rattle.std.proofs.Common.{◌≡◌, ℕ, suc, ◌+◌, ◌*◌, ◌%◌, ◌^◌, ◌<◌, ◌≤◌, ◌&&◌, leb, List, [], ◌∷◌}
use Rattle.std.proofs.Common.{◌++◌, length, take, drop, sym, refl, ap, ◌∙◌, ap₂, mod-eq_of_lt, arith, length-append, take_at, drop_at}
use mathlib.Core.List.{map-append}
use mathlib.Core.Option.{Option, none, some}
use lib.Bits.{bit_xor, xor_lt}
use lib.Count.{ones-le}
use lib.ListN.{length-map}
use lib.Seq.{drop-append-add}
use Rattle.words.specs.rules.Bits.{join}
use Rattle.words.specs.rules.Bytes.{number, bytes_at, word_at}
use Rattle.words.proofs.Choice.{chosen, passed, by_test, of_choice}
use Rattle.survey.specs.rules.Images.{absent, memory_left, image_of, is_opened, was_opened, set_of, unlike}
use Rattle.survey.specs.rules.Survey.{most_images, begun, counted_by, latest, line_of, including}
use Rattle.survey.specs.claims.Lists.{survey_from, survey_of, lines_from, lines_of, opened_ones, last_or, line_after, lines_after, EachLine, FullAtTheLast}
use Rattle.survey.specs.claims.Lists.{totals_over, AllWords, TotalsOfTheLines, image_named, WordsFit, AllSmall, AtMost32, figures, AbsentTakenOut}
use Rattle.survey.specs.declared.Image.{Image}
use Rattle.survey.specs.declared.SurveyLine.{SurveyLine}
use Rattle.survey.specs.declared.Outcome.{Outcome}
use Rattle.survey.specs.declared.Outcome.TheVariants.{Entered, Refused, Absent}
use Rattle.survey.specs.declared.Survey.{Survey}
use Rattle.survey.specs.declared.SurveyTotals.{SurveyTotals}

-- ---- each line

-- one image more, and the last opened one is it, or as before where it is absent
last_opened : (other : Image) (earlier : List Image) (i : Image)
    → last_or other (opened_ones (earlier ++ i ∷ [])) ≡ latest (last_or other (opened_ones earlier)) i
unfolding opened_ones latest
last_opened other [] i =
    by_test (is_opened i)
    (λ t. ap (last_or other) (chosen (is_opened i) _ _ t) ∙ sym (chosen (is_opened i) i other t))
    (λ t. ap (last_or other) (passed (is_opened i) (i ∷ []) [] t) ∙ sym (passed (is_opened i) i other t))
last_opened other (x ∷ earlier) i =
    by_test (is_opened x)
    (λ t. ap (last_or other) (chosen (is_opened x) _ _ t) ∙ last_opened x earlier i
    ∙ sym (ap (λ (l : List Image). latest (last_or other l) i) (chosen (is_opened x) _ _ t)))
    (λ t. ap (last_or other) (passed (is_opened x) _ _ t) ∙ last_opened other earlier i
    ∙ sym (ap (λ (l : List Image). latest (last_or other l) i) (passed (is_opened x) _ _ t)))

-- a survey so far that fits the images before
record Fits (s : Survey) (earlier : List Image) : Type 0 where
  written : s.written ≡ length earlier
  last : s.last ≡ last_or absent (opened_ones earlier)

one_more : (earlier : List Image) (i : Image) → length (earlier ++ i ∷ []) ≡ length earlier + 1
one_more earlier i = simp length-append

fits_on : {s : Survey} {earlier : List Image} (i : Image) → length earlier + 1 ≤ most_images → Fits s earlier → Fits (including s i) (earlier ++ i ∷ [])
unfolding including
fits_on {s} {earlier} i room fits =
    record {
      written = ap (λ (n : ℕ). (n + 1) % 2 ^ 32) fits.written ∙ mod-eq_of_lt (omega arith) ∙ sym (one_more earlier i);
      last = ap (λ (b : Image). latest b i) fits.last ∙ sym (last_opened absent earlier i);
    }

line_fits : {s : Survey} {earlier : List Image} (i : Image) → length earlier + 1 ≤ most_images → Fits s earlier → line_of s i ≡ line_after earlier i
unfolding line_of
line_fits {s} {earlier} i room fits =
    ap₂ (λ (n : ℕ) (b : Image). record { image = n; outcome = i.outcome; set = set_of i; differ = unlike b i })
    (ap (λ (n : ℕ). (n + 1) % 2 ^ 32) fits.written ∙ mod-eq_of_lt (omega arith))
    fits.last

lines_fit : (images : List Image) {s : Survey} {earlier : List Image} → length earlier + length images ≤ most_images → Fits s earlier
    → lines_from s images ≡ lines_after earlier images
unfolding lines_from
lines_fit [] room fits = refl
lines_fit (i ∷ images) {s} {earlier} room fits =
    ap₂ (λ (l : SurveyLine) (ls : List SurveyLine). l ∷ ls) (line_fits i (omega arith) fits)
    (lines_fit images (omega (arith, one_more earlier i)) (fits_on i (omega arith) fits))

pub each_line : EachLine
unfolding opened_ones
each_line images room = lines_fit images {earlier = []} (omega arith) (record { written = refl; last = refl })

-- ---- how many lines are written

written_count : (images : List Image) (s : Survey) → s.written + length images ≤ most_images → (survey_from s images).written ≡ s.written + length images
unfolding survey_from including
written_count [] s room = omega arith
written_count (i ∷ images) s room =
    let next : (s.written + 1) % 2 ^ 32 ≡ s.written + 1 = mod-eq_of_lt (omega arith) in
    let rest = written_count images (including s i) (omega arith) in
    omega arith

all_written : (images : List Image) → length images ≤ most_images → (survey_of images).written ≡ length images
all_written images room = omega (arith, written_count images begun (omega arith))

pub full_at_the_last : FullAtTheLast
full_at_the_last images room = ap (leb most_images) (all_written images room)

-- ---- set and differ are at most 32

word_small : (i : Image) → i.word < 2 ^ 32 → set_of i ≤ 32
unfolding set_of
word_small i fit = of_choice (λ (n : ℕ). n ≤ 32) (is_opened i) (λ t. ones-le 32 i.word fit) (λ t. omega arith)

unlike_small : (last i : Image) → last.word < 2 ^ 32 → i.word < 2 ^ 32 → unlike last i ≤ 32
unfolding unlike
unlike_small last i low fit =
    of_choice (λ (n : ℕ). n ≤ 32) (is_opened last && is_opened i)
    (λ t. ones-le 32 (bit_xor last.word i.word) (xor_lt 32 last.word i.word low fit)) (λ t. omega arith)

latest_word : (last i : Image) → last.word < 2 ^ 32 → i.word < 2 ^ 32 → (latest last i).word < 2 ^ 32
unfolding latest
latest_word last i low fit = of_choice (λ (b : Image). b.word < 2 ^ 32) (is_opened i) (λ t. fit) (λ t. low)

all_small : (images : List Image) (s : Survey) → s.last.word < 2 ^ 32 → AllWords images → AllSmall (lines_from s images)
unfolding lines_from line_of including
all_small [] s low fit = tt
all_small (i ∷ images) s low fit = (
  word_small i fit.0,
  unlike_small s.last i low fit.0,
  all_small images (including s i) (latest_word s.last i low fit.0) fit.1,
)

pub at_most_32 : AtMost32
at_most_32 images fit = all_small images begun (omega arith) fit

-- the option word of an opened image has four bytes
four_small : (s : List ℕ) → number (take 4 s) < 2 ^ 32
unfolding number join
four_small [] = omega arith
four_small (a ∷ []) = omega arith
four_small (a ∷ b ∷ []) = omega arith
four_small (a ∷ b ∷ c ∷ []) = omega arith
four_small (a ∷ b ∷ c ∷ d ∷ s) = omega arith

named_word : (name : Option (List ℕ)) → (image_named name).word < 2 ^ 32
unfolding image_of word_at bytes_at
named_word none = omega arith
named_word (some bytes) = four_small (drop 0 (memory_left bytes))

pub words_fit : WordsFit
words_fit [] = tt
words_fit (name ∷ names) = (named_word name, words_fit names)

-- ---- the totals

counted_small : (o : Outcome) → counted_by o ≤ 1
counted_small Entered = omega arith
counted_small Refused = omega arith
counted_small Absent = omega arith

lines_length : (images : List Image) (s : Survey) → length (lines_from s images) ≡ length images
unfolding lines_from
lines_length [] s = refl
lines_length (i ∷ images) s = ap suc (lines_length images (including s i))

-- the two sums grow by those of the lines: so many images can't bring them to 2 ^ 32
record Sums (s : Survey) (images : List Image) (t : SurveyTotals) : Type 0 where
  entered : (survey_from s images).entered ≡ s.entered + t.entered
  differ : (survey_from s images).differ ≡ s.differ + t.differ

sums : (images : List Image) (s : Survey) → s.entered + length images < 2 ^ 32 → s.differ + 32 * length images < 2 ^ 32
    → s.last.word < 2 ^ 32 → AllWords images → Sums s images (totals_over (lines_from s images))
unfolding survey_from lines_from line_of including
sums [] s e d low fit = record { entered = omega arith; differ = omega arith }
sums (i ∷ images) s e d low fit =
    let one = counted_small i.outcome in
    let small = unlike_small s.last i low fit.0 in
    let entered : (s.entered + counted_by i.outcome) % 2 ^ 32 ≡ s.entered + counted_by i.outcome = mod-eq_of_lt (omega arith) in
    let differ : (s.differ + unlike s.last i) % 2 ^ 32 ≡ s.differ + unlike s.last i = mod-eq_of_lt (omega arith) in
    let rest = sums images (including s i) (omega arith) (omega arith) (latest_word s.last i low fit.0) fit.1 in
    record { entered = omega arith; differ = omega arith }

pub totals_of_the_lines : TotalsOfTheLines
totals_of_the_lines images room fit =
    let all = sums images begun (omega arith) (omega arith) (omega arith) fit in
    let written = all_written images room ∙ sym (lines_length images begun) in
    let entered : (survey_of images).entered ≡ (totals_over (lines_of images)).entered = omega arith in
    let differ : (survey_of images).differ ≡ (totals_over (lines_of images)).differ = omega arith in
    rw (written, entered, differ)

-- ---- an absent image taken out

-- the lines of images after images are written from the survey that these lead to
lines_append : (images : List Image) (s : Survey) (later : List Image)
    → lines_from s (images ++ later) ≡ lines_from s images ++ lines_from (survey_from s images) later
unfolding survey_from lines_from
lines_append [] s later = refl
lines_append (i ∷ images) s later = ap (λ (ls : List SurveyLine). line_of s i ∷ ls) (lines_append images (including s i) later)

-- set and differ ask the survey so far for the image before, and for nothing else
same_figures : (images : List Image) (s t : Survey) → s.last ≡ t.last → figures (lines_from s images) ≡ figures (lines_from t images)
unfolding lines_from line_of including
same_figures [] s t e = refl
same_figures (i ∷ images) s t e =
    ap₂ (λ (n : ℕ) (fs : List (ℕ × ℕ)). (set_of i, n) ∷ fs)
    (ap (λ (b : Image). unlike b i) e)
    (same_figures images (including s i) (including t i) (ap (λ (b : Image). latest b i) e))

-- an absent image is not looked back at
skipped : (s : Survey) (i : Image) → i.outcome ≡ Absent → (including s i).last ≡ s.last
unfolding including latest
skipped s i e = passed (is_opened i) i s.last (ap was_opened e)

pub absent_taken_out : AbsentTakenOut
unfolding lines_from
absent_taken_out earlier gone later e =
    let s = survey_of earlier in
    let first = figures (lines_of earlier) in
    let many : length first ≡ length earlier = length-map (lines_of earlier) (λ l. (l.set, l.differ)) ∙ lines_length earlier begun in
    let split : (images : List Image) → figures (lines_of (earlier ++ images)) ≡ first ++ figures (lines_from s images) =
    λ images. ap figures (lines_append earlier begun images) ∙ map-append _ (lines_of earlier) (lines_from s images) in
    let rest = figures (lines_from s (gone ∷ later)) in
    let after = same_figures later (including s gone) s (skipped s gone e) in
    record {
      same_earlier =
          ap (take (length earlier)) (split (gone ∷ later)) ∙ take_at first _ _ many
          ∙ sym (ap (take (length earlier)) (split later) ∙ take_at first _ _ many);
      same_later =
          ap (drop (length earlier + 1)) (split (gone ∷ later)) ∙ ap (λ (n : ℕ). drop (n + 1) (first ++ rest)) (sym many) ∙ drop-append-add first rest 1
          ∙ after
          ∙ sym (ap (drop (length earlier)) (split later) ∙ drop_at first _ _ many);
    }
