-- What every cost kind must prove of the columns that its values mean.
use Rattle.std.specs.Prelude.{◌≡◌, ℕ, List, length, ℤ}
use Rattle.cost.specs.declared.TheConstants.{RAIL}
use Rattle.cost.specs.Columns.{AreWithin, zeros}

pub record KindLaws {K : Type 0} (columns : ℕ) (meaning : K → List ℤ) (zero : K) : Type 0 where
  -- each value has as many columns as the kind
  pub column_count : (x : K) → length (meaning x) ≡ columns
  -- each column is from -10^15 to 10^15
  pub on_rail : (x : K) → AreWithin RAIL (meaning x)
  -- the value that `zero` answers has 0 in each column
  pub zero_columns : meaning zero ≡ zeros columns
