-- What lent tables that hold together are: a sane grid, a perfect pairing in it, and prices that
-- prove the pairing optimum.
use Rattle.std.specs.Prelude.{◌≡◌, ℕ, ◌≤◌, List, length}
use Rattle.blockset.specs.declared.TheConstants.{MOST_BLOCKS}
use Rattle.cost.specs.declared.Cost.{Ghosts}
use Rattle.cost.specs.declared.TheConstants.{PRICE_LIMIT}
use Rattle.pairing.specs.Grid.{IsPerfectIn}
use Rattle.pairing.specs.Places.{places_of, rights_of}
use Rattle.pairing.specs.Prices.{AreValid}
use Rattle.tables.specs.Said.{AreValuesWithin, IsInOrder}
use Rattle.tables.specs.Lent.{Lent, grid, left_price, right_price}

module _ {K : Type 0} (kind : Ghosts K) where
  -- pair tables of at most 64 blocks a plane, with a place for each pair, that are in order
  pub record ArePairTables (n : ℕ) (costs : List K) (standing : List ℕ) : Type 0 where
    pub few : n ≤ MOST_BLOCKS
    pub costs_long : length costs ≡ places_of n
    pub standing_long : length standing ≡ places_of n
    pub in_order : IsInOrder kind (places_of n) costs standing

  -- a price for each of n blocks, within 10^12 in each column
  pub record ArePrices (n : ℕ) (prices : List K) : Type 0 where
    pub long : length prices ≡ n
    pub near : AreValuesWithin kind PRICE_LIMIT n prices

  -- The tables hold together.
  pub record HoldTogether (t : Lent K) : Type 0 where
    pub pair_tables : ArePairTables t.size t.costs t.standing
    pub perfect : IsPerfectIn (grid kind t) t.partners
    pub left_prices : ArePrices t.size t.left
    pub right_prices : ArePrices (rights_of t.size) t.right
    pub valid : AreValid (grid kind t) (left_price kind t) (right_price kind t) t.partners
