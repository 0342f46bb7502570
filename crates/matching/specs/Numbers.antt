-- The number of each answer of a step, as a host in C sees it.
use Rattle.std.specs.Prelude.{ℕ}
use Rattle.matching.specs.declared.stepping.Step.{Step}
use Rattle.matching.specs.declared.stepping.Step.TheVariants.{Next, End}

abbrev pub step_number : Step → ℕ
step_number Next = 0
step_number End = 100
