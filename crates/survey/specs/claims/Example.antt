-- Two releases of one car: in release 2 door dwell 3 stands in bits 4 and 5 of the option word, and the priority bit just above it; in release 3 dwell has
-- taken that bit as its third, and 3 leaves it 0.
use Rattle.std.specs.Prelude.{◌≡◌, ℕ, [], ◌∷◌}
use Rattle.survey.specs.rules.Images.{absent}
use Rattle.survey.specs.claims.Lists.{survey_of, lines_of, SameWithout}
use Rattle.survey.specs.rules.Survey.{totals_of}
use Rattle.survey.specs.declared.Image.{Image}
use Rattle.survey.specs.declared.SurveyLine.{SurveyLine}
use Rattle.survey.specs.declared.Outcome.{Outcome}
use Rattle.survey.specs.declared.Outcome.TheVariants.{Entered, Absent}

abbrev pub release2 : Image
release2 = record { outcome = Entered; word = 0x70 }

abbrev pub release3 : Image
release3 = record { outcome = Entered; word = 0x30 }

abbrev pub line : ℕ → Outcome → ℕ → ℕ → SurveyLine
line image outcome set differ = record { image = image; outcome = outcome; set = set; differ = differ }

-- with a missing name between them the second still looks back at the first
pub record Worked : Type 0 where
  pub lines : lines_of (release2 ∷ absent ∷ release3 ∷ []) ≡ line 1 Entered 3 0 ∷ line 2 Absent 0 0 ∷ line 3 Entered 2 1 ∷ []
  pub totals : totals_of (survey_of (release2 ∷ absent ∷ release3 ∷ [])) ≡ record { images = 3; entered = 2; differ = 1 }

-- an opened image is no absent one: taken out from between, it changes what the next line says
abbrev pub OpenedIsMissed : Type 0
OpenedIsMissed = SameWithout (release2 ∷ []) release3 (release2 ∷ []) → ⊥
