-- The tables of a settled sheet as one value, and what they state at a cost kind.
use Rattle.std.specs.Prelude.{◌≡◌, ℕ, ◌<◌, ◌≤◌, List, length, ℤ, refl}
use Rattle.std.specs.Coded.{Coded, code_by, coded×, coded_ℕ, coded_list}
use Rattle.blockset.specs.declared.TheConstants.{MOST_BLOCKS}
use Rattle.cost.specs.declared.Cost.{Ghosts}
use Rattle.cost.specs.declared.TheConstants.{PRICE_LIMIT}
use Rattle.pairing.specs.Grid.{Grid}
use Rattle.pairing.specs.Places.{places_of, rights_of}
use Rattle.tables.specs.Said.{columns_at, grid_of, AreValuesWithin, IsInOrder}
use Rattle.tables.specs.declared.flaw.Flaw.{Flaw}
use Rattle.tables.specs.declared.flaw.Flaw.TheVariants.{Size, Length, Order}

-- the tables of `size` left blocks and their right blocks
pub record Lent (K : Type 0) : Type 0 where
  pub size : ℕ
  pub costs : List K
  pub standing : List ℕ
  pub partners : List ℕ
  pub left : List K
  pub right : List K

abbrev pub lent : {K : Type 0} → ℕ → List K → (standing partners : List ℕ) → (left right : List K)
    → Lent K
lent n costs standing partners left right = record {
  size = n;
  costs = costs;
  standing = standing;
  partners = partners;
  left = left;
  right = right;
}

-- tables are stored as the tuple of their parts
abbrev pub lent_code : {K : Type 0} → Coded K → Coded (Lent K)
lent_code {K} code =
    code_by (ℕ × (List K × (List ℕ × (List ℕ × (List K × List K)))))
    (coded× coded_ℕ
    (coded× (coded_list code)
    (coded× (coded_list coded_ℕ)
    (coded× (coded_list coded_ℕ) (coded× (coded_list code) (coded_list code))))))
    (λ t. (t.size, (t.costs, (t.standing, (t.partners, (t.left, t.right))))))
    (λ p. lent p.0 p.1.0 p.1.1.0 p.1.1.1.0 p.1.1.1.1.0 p.1.1.1.1.1)
    (λ _. refl)

-- the tables but the partners have the lengths that their size asks for
pub record HasRoom {K : Type 0} (t : Lent K) : Type 0 where
  pub costs_long : length t.costs ≡ places_of t.size
  pub standing_long : length t.standing ≡ places_of t.size
  pub left_long : length t.left ≡ t.size
  pub right_long : length t.right ≡ rights_of t.size

-- all tables have the lengths that their size asks for
pub record HasLengths {K : Type 0} (t : Lent K) : Type 0 where
  pub room : HasRoom t
  pub partners_long : length t.partners ≡ t.size

module _ {K : Type 0} (kind : Ghosts K) (t : Lent K) where
  -- the grid that the tables state
  abbrev pub grid : Grid
  grid = grid_of kind t.size t.costs t.standing

  -- the columns of the price of a left block, and of a right block
  abbrev pub left_price : ℕ → List ℤ
  left_price = columns_at kind t.left

  abbrev pub right_price : ℕ → List ℤ
  right_price = columns_at kind t.right

  -- there are not too many blocks, the tables but the partners have room for them, and each price
  -- is within 10^12 in each column
  pub record ArePriced : Type 0 where
    pub few : t.size ≤ MOST_BLOCKS
    pub room : HasRoom t
    pub left_near : AreValuesWithin kind PRICE_LIMIT t.size t.left
    pub right_near : AreValuesWithin kind PRICE_LIMIT (rights_of t.size) t.right

  -- the pair tables are in order
  abbrev pub IsOrderly : Type 0
  IsOrderly = IsInOrder kind (places_of t.size) t.costs t.standing

  -- a call that pairs by cost can be made with them
  pub record IsUsable : Type 0 where
    pub few : t.size ≤ MOST_BLOCKS
    pub lengths : HasLengths t
    pub in_order : IsOrderly

  -- it cannot, and this is the first reason
  abbrev pub IsUnusable : Flaw → Type 0
  IsUnusable Size = MOST_BLOCKS < t.size
  IsUnusable Length = (t.size ≤ MOST_BLOCKS) × (HasLengths t → ⊥)
  IsUnusable Order = (t.size ≤ MOST_BLOCKS) × HasLengths t × (IsOrderly → ⊥)
