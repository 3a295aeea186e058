-- What the survey of a list of images must be, said of the list itself, and what holds of it.
use Rattle.std.specs.Prelude.{◌≡◌, ℕ, ◌+◌, ◌^◌, ◌<◌, ◌≤◌, List, [], ◌∷◌, ◌++◌, map, length, take, drop, nat_le}
use Rattle.std.proofs.Math.Option.{Option, none, some}
use Rattle.words.specs.rules.Choice.{pick}
use Rattle.survey.specs.rules.Images.{absent, image_of, is_opened, set_of, unlike}
use Rattle.survey.specs.rules.Survey.{most_images, begun, is_full, counted_by, line_of, including, totals_of}
use Rattle.survey.specs.declared.Image.{Image}
use Rattle.survey.specs.declared.SurveyLine.{SurveyLine}
use Rattle.survey.specs.declared.Outcome.TheVariants.{Absent}
use Rattle.survey.specs.declared.Survey.{Survey}
use Rattle.survey.specs.declared.SurveyTotals.{SurveyTotals}

-- the survey once the lines of these images are written, one after another
unfoldable pub survey_from : Survey → List Image → Survey
survey_from s [] = s
survey_from s (i ∷ images) = survey_from (including s i) images

abbrev pub survey_of : List Image → Survey
survey_of images = survey_from begun images

-- their lines, each written from the survey so far
unfoldable pub lines_from : Survey → List Image → List SurveyLine
lines_from s [] = []
lines_from s (i ∷ images) = line_of s i ∷ lines_from (including s i) images

abbrev pub lines_of : List Image → List SurveyLine
lines_of images = lines_from begun images

-- the images of a list that were opened
unfoldable pub opened_ones : List Image → List Image
opened_ones [] = []
opened_ones (i ∷ images) = pick (is_opened i) (i ∷ opened_ones images) (opened_ones images)

-- the last of a list, or another where it is empty
abbrev pub last_or : Image → List Image → Image
last_or other [] = other
last_or other (i ∷ images) = last_or i images

-- the line of an image by the list of images before it: it looks back at the last of them that was opened, if one was
abbrev pub line_after : List Image → Image → SurveyLine
line_after earlier i =
    record { image = length earlier + 1; outcome = i.outcome; set = set_of i; differ = unlike (last_or absent (opened_ones earlier)) i }

-- the lines of images that follow these
abbrev pub lines_after : List Image → List Image → List SurveyLine
lines_after earlier [] = []
lines_after earlier (i ∷ images) = line_after earlier i ∷ lines_after (earlier ++ i ∷ []) images

-- each line is what the list of images before it says
abbrev pub EachLine : Type 0
EachLine = (images : List Image) → length images ≤ most_images → lines_of images ≡ lines_after [] images

-- a survey is full once it has as many lines as it may have, and not before
abbrev pub FullAtTheLast : Type 0
FullAtTheLast = (images : List Image) → length images ≤ most_images → is_full (survey_of images) ≡ nat_le most_images (length images)

-- the totals of some lines: how many they are, those entered, and the sum of differ
abbrev pub sum_over : (SurveyLine → ℕ) → List SurveyLine → ℕ
sum_over f [] = 0
sum_over f (l ∷ lines) = f l + sum_over f lines

abbrev pub totals_over : List SurveyLine → SurveyTotals
totals_over lines =
    record { images = length lines; entered = sum_over (λ l. counted_by l.outcome) lines; differ = sum_over (λ l. l.differ) lines }

-- the option words of some images have 32 bits
abbrev pub AllWords : List Image → Type 0
AllWords [] = Unit {0}
AllWords (i ∷ images) = (i.word < 2 ^ 32) × AllWords images

-- so the totals that are written are those of the lines
abbrev pub TotalsOfTheLines : Type 0
TotalsOfTheLines =
    (images : List Image) → length images ≤ most_images → AllWords images → totals_of (survey_of images) ≡ totals_over (lines_of images)

-- what a name stands for: no image, or the bytes of one
abbrev pub image_named : Option (List ℕ) → Image
image_named none = absent
image_named (some bytes) = image_of bytes

-- all option words that a survey meets have 32 bits
abbrev pub WordsFit : Type 0
WordsFit = (names : List (Option (List ℕ))) → AllWords (map image_named names)

-- set and differ of a line are at most 32
abbrev pub AllSmall : List SurveyLine → Type 0
AllSmall [] = Unit {0}
AllSmall (l ∷ lines) = (l.set ≤ 32) × (l.differ ≤ 32) × AllSmall lines

abbrev pub AtMost32 : Type 0
AtMost32 = (images : List Image) → AllWords images → AllSmall (lines_of images)

-- set and differ of each line
abbrev pub figures : List SurveyLine → List (ℕ × ℕ)
figures lines = map (λ l. (l.set, l.differ)) lines

-- with an image and with that image taken out, all other lines have the same set and differ
pub record SameWithout (earlier : List Image) (gone : Image) (later : List Image) : Type 0 where
  pub same_earlier : take (length earlier) (figures (lines_of (earlier ++ gone ∷ later))) ≡ take (length earlier) (figures (lines_of (earlier ++ later)))
  pub same_later : drop (length earlier + 1) (figures (lines_of (earlier ++ gone ∷ later))) ≡ drop (length earlier) (figures (lines_of (earlier ++ later)))

-- this holds of an absent one
abbrev pub AbsentTakenOut : Type 0
AbsentTakenOut = (earlier : List Image) (gone : Image) (later : List Image) → gone.outcome ≡ Absent → SameWithout earlier gone later
