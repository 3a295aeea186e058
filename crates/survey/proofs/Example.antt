-- The two releases, by computing their lines; and what is missed where the one between is an opened image.
use Rattle.std.proofs.Common.{◌≡◌, ℕ, List, get_or, refl, ap, arith}
use lib.Count.{ones_in, ones}
use Rattle.words.specs.rules.Choice.{pick}
use Rattle.survey.specs.rules.Images.{set_of, unlike}
use Rattle.survey.specs.rules.Survey.{latest, line_of, including}
use Rattle.survey.specs.claims.Lists.{survey_from, lines_from}
use Rattle.survey.specs.claims.Example.{Worked, OpenedIsMissed}

pub worked : Worked
unfolding ones_in ones pick set_of unlike latest line_of including survey_from lines_from
worked = record { lines = refl; totals = refl }

pub opened_is_missed : OpenedIsMissed
unfolding ones_in ones pick set_of unlike latest line_of including survey_from lines_from
opened_is_missed same =
    let differs : ◌≡◌ {A = ℕ} 1 0 = ap (λ (fs : List (ℕ × ℕ)). (get_or fs 0 (0, 0)).1) same.same_later in
    omega arith
