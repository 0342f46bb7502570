-- The cost of a pair by the rules of the house: which figures it is made of, and which do not fit.
use Rattle.std.specs.Prelude.{◌≡◌, ℕ, ◌<◌, ◌≤◌, List, [], ◌∷◌, ℤ, pos}
use Rattle.std.specs.Int.{abs_diff}
use Rattle.cost.specs.declared.TheConstants.{COST_LIMIT}
use Rattle.cost.specs.Columns.{AreWithin, rail_of}
use Rattle.example_kind.specs.declared.house.Block.{Block}
use Rattle.example_kind.specs.declared.house.HouseCost.{HouseCost}
use Rattle.example_kind.specs.declared.house.Unfit.{Unfit}
use Rattle.example_kind.specs.declared.house.Unfit.TheVariants.{Time, Wear}

-- what a cost means: time before wear before mixing
abbrev pub house_columns : HouseCost → List ℤ
house_columns cost = rail_of cost.time ∷ rail_of cost.wear ∷ rail_of cost.mixing ∷ []

-- the cost of a pair that was programmed in `time` microseconds
pub record IsCostOf (time : ℕ) (left right : Block) (cost : HouseCost) : Type 0 where
  pub time_is : cost.time ≡ pos time
  pub wear_is : cost.wear ≡ pos (abs_diff left.erases right.erases)
  pub mixing_is : cost.mixing ≡ pos (abs_diff left.class right.class)
  -- so entering it is never refused for its range
  pub fits : AreWithin COST_LIMIT (house_columns cost)

-- the first of the figures that is too large for a cost
abbrev pub IsUnfit : (time : ℕ) (left right : Block) → Unfit → Type 0
IsUnfit time left right (Time told) = (told ≡ time) × (COST_LIMIT < told)
IsUnfit time left right (Wear told) =
    (time ≤ COST_LIMIT) × (told ≡ abs_diff left.erases right.erases) × (COST_LIMIT < told)
