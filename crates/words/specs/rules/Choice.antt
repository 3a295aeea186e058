-- A choice by a test.
use Rattle.std.specs.Prelude.{Bool, true, false}

-- the first where the test is true, else the second
unfoldable pub pick {ℓ} : {A : Type ℓ} → Bool → A → A → A
pick true a b = a
pick false a b = b
