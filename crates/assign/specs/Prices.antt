-- The prices that the last search leaves, and what the whole answers.
use Rattle.std.specs.Prelude.{◌≡◌, ℕ, ◌<◌, false, List, length, ℤ, ◌+ℤ◌, ◌≢◌}
use Rattle.cost.specs.declared.Cost.{Ghosts}
use Rattle.cost.specs.declared.TheConstants.{PRICE_LIMIT}
use Rattle.blockset.specs.declared.BlockSet.{BlockSet}
use Rattle.pairing.specs.Grid.{at}
use Rattle.tables.specs.Said.{AreValuesWithin}
use Rattle.assign.specs.Weighed.{weight_at, cost_weight, graph}
use Rattle.assign.specs.Search.{from_all, pairing, Course, Kept, Grown}
use Rattle.matching.specs.declared.chains.Holders.{Holders}

-- the right prices are the distances of a search from an imagined left block to all right blocks,
-- and each left price is what its pair costs beyond the right one
pub record Topmost {K : Type 0} (kind : Ghosts K) (rows : List BlockSet) (costs : List K)
    (partners : List ℕ) (holders : Holders) (v : ℕ → ℤ) (left right : List K) : Type 0 where
  pub search : Course
  pub turns : ℕ
  pub grown : Grown (graph kind rows costs) (pairing (λ _. false) partners holders v) from_all
      search turns (length rows)
  pub done : (c : ℕ) → c < length rows → search.stage c ≢ 1
  pub priced : (c : ℕ) → c < length rows → weight_at kind right c ≡ search.dist c
  pub tight : (l : ℕ) → l < length rows → weight_at kind left l +ℤ weight_at kind right
      (at partners l) ≡ cost_weight kind (length rows) costs l (at partners l)

-- a perfect pairing, prices that go with it, and those that the last search makes of them
pub record IsSolution {K : Type 0} (kind : Ghosts K) (rows : List BlockSet) (costs : List K)
    (partners : List ℕ) (left right : List K) : Type 0 where
  pub holders : Holders
  pub price : ℕ → ℤ
  pub kept : Kept (graph kind rows costs) (pairing (λ _. false) partners holders price)
  pub topmost : Topmost kind rows costs partners holders price left right
  pub left_near : AreValuesWithin kind PRICE_LIMIT (length rows) left
  pub right_near : AreValuesWithin kind PRICE_LIMIT (length rows) right
