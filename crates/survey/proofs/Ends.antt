-- A survey comes to its last line: while it is not full its count is below 16, so that one more does not wrap.
use Rattle.std.proofs.Common.{◌≡◌, ℕ, ◌+◌, ◌-◌, ◌%◌, ◌^◌, ◌<◌, false, mod-eq_of_lt, arith, leb-false}
use Rattle.survey.specs.rules.Survey.{most_images, is_full, including}
use Rattle.survey.specs.declared.Image.{Image}
use Rattle.survey.specs.declared.Survey.{Survey}

-- the lines that a survey may still have
abbrev pub lines_left : Survey → ℕ
lines_left s = most_images - s.written

pub one_fewer : (s : Survey) (i : Image) → is_full s ≡ false → lines_left (including s i) < lines_left s
unfolding including
one_fewer s i e =
    let room : s.written < 16 = leb-false _ _ e in
    let next : (s.written + 1) % 2 ^ 32 ≡ s.written + 1 = mod-eq_of_lt (omega arith) in
    omega arith
