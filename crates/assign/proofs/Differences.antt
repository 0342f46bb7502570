-- A table into which the difference of two values that were read is written.
-- Idea: the columns at the place that was written are those of the difference, so they weigh what
-- it weighs and are within what it is within; and each value that was read has the columns of its
-- place.
use Rattle.std.proofs.Common.{◌≡◌, ℕ, ◌<◌, List, length, set, ℤ, ◌-ℤ◌, sym, ap, ◌∙◌, subst, ap₂}
use Rattle.cost.specs.declared.Cost.{Ghosts}
use Rattle.cost.specs.Columns.{AreWithin}
use Rattle.cost.specs.Weights.{weight}
use Rattle.tables.specs.Said.{columns_at}
use Rattle.assign.proofs.Entries.{put_same}

module _ {K : Type 0} (kind : Ghosts K) (xs : List K) (i : ℕ) (y : K)
    (inside : i < length xs) where
  -- p' and q' are the columns that the two values were read from
  pub put_weighs : (p p' q q' : List ℤ) → weight (kind.meaning y) ≡ weight p -ℤ weight q → p ≡ p'
      → q ≡ q' → weight (columns_at kind (set xs i y) i) ≡ weight p' -ℤ weight q'
  put_weighs p p' q q' e f g = ap weight (put_same kind xs i y inside)
      ∙ e ∙ ap₂ (λ (y z : List ℤ). weight y -ℤ weight z) f g

  pub put_within : (limit : ℕ) → AreWithin limit (kind.meaning y)
      → AreWithin limit (columns_at kind (set xs i y) i)
  put_within limit w = subst (AreWithin limit) (sym (put_same kind xs i y inside)) w
