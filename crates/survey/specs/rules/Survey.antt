-- The survey so far, and what is written from it: a line for the next image, and the totals. Counts are of 32 bits.
use Rattle.std.specs.Prelude.{ℕ, ◌+◌, ◌%◌, ◌^◌, Bool, nat_le}
use Rattle.words.specs.rules.Choice.{pick}
use Rattle.survey.specs.rules.Images.{absent, is_opened, set_of, unlike}
use Rattle.survey.specs.declared.Image.{Image}
use Rattle.survey.specs.declared.SurveyLine.{SurveyLine}
use Rattle.survey.specs.declared.Outcome.{Outcome}
use Rattle.survey.specs.declared.Outcome.TheVariants.{Entered, Refused, Absent}
use Rattle.survey.specs.declared.Survey.{Survey}
use Rattle.survey.specs.declared.SurveyTotals.{SurveyTotals}

-- names past the 16th are ignored
abbrev pub most_images : ℕ
most_images = 16

-- nothing is written, and no opened image stands before the first
abbrev pub begun : Survey
begun = record { written = 0; entered = 0; differ = 0; last = absent }

-- is the last line written that a survey may have?
abbrev pub is_full : Survey → Bool
is_full s = nat_le most_images s.written

-- what an image adds to those entered
abbrev pub counted_by : Outcome → ℕ
counted_by Entered = 1
counted_by Refused = 0
counted_by Absent = 0

abbrev pub entered_by : Image → ℕ
entered_by i = counted_by i.outcome

-- the image that the next one looks back at: an absent one is skipped
unfoldable pub latest : Image → Image → Image
latest last i = pick (is_opened i) i last

-- the line of the next image; images are numbered from 1
unfoldable pub line_of : Survey → Image → SurveyLine
line_of s i =
    record { image = (s.written + 1) % 2 ^ 32; outcome = i.outcome; set = set_of i; differ = unlike s.last i }

-- the survey once that line is written
unfoldable pub including : Survey → Image → Survey
including s i =
    record {
      written = (s.written + 1) % 2 ^ 32;
      entered = (s.entered + entered_by i) % 2 ^ 32;
      differ = (s.differ + unlike s.last i) % 2 ^ 32;
      last = latest s.last i;
    }

-- the last line
abbrev pub totals_of : Survey → SurveyTotals
totals_of s = record { images = s.written; entered = s.entered; differ = s.differ }
