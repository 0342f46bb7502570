-- Augmenting row reduction: which right block a left block takes from whoever has it, and at what
-- price.
use Rattle.std.specs.Prelude.{◌≡◌, ℕ, ◌+◌, ◌*◌, ◌<◌, ◌≤◌, Bool, true, false, List, length, ℤ}
use Rattle.std.specs.Prelude.{◌+ℤ◌, ◌≤ℤ◌, ◌<ℤ◌, ◌≢◌, ◌⊎◌, Option, MatchOption}
use Rattle.cost.specs.declared.Cost.{Ghosts}
use Rattle.cost.specs.declared.TheConstants.{COST_LIMIT}
use Rattle.cost.specs.Columns.{AreWithin}
use Rattle.cost.specs.Weights.{weight}
use Rattle.blockset.specs.declared.BlockSet.{BlockSet}
use Rattle.blockset.specs.Has.{has, IsLeast}
use Rattle.pairing.specs.Grid.{at}
use Rattle.pairing.specs.Rows.{holds}
use Rattle.tables.specs.Said.{columns_at, AreValuesWithin}
use Rattle.assign.specs.declared.limits.TheConstants.{REDUCED_LIMIT}
use Rattle.assign.specs.declared.tree.Bid.{Bid}
use Rattle.assign.specs.Weighed.{weight_at, cost_weight}
use Rattle.assign.specs.Pairs.{SoFar}

-- A left block that stands with the right blocks of `to` at these costs takes j of them, whose
-- price is w then. None of them is nearer beyond its price. A free one keeps its price; where j is
-- held, its price falls, and only so far that another one is as near.
pub record IsBestBid (to held : ℕ → Bool) (v cost : ℕ → ℤ) (j : ℕ) (w : ℤ) : Type 0 where
  pub member : to j ≡ true
  pub best : (c : ℕ) → to c ≡ true → c ≢ j → (v c +ℤ cost j) ≤ℤ (w +ℤ cost c)
  pub free : held j ≡ false → w ≡ v j
  pub falls : held j ≡ true → w <ℤ v j
  pub tied : held j ≡ true
      → (c : ℕ) × (to c ≡ true) × (c ≢ j) × (v c +ℤ cost j ≡ w +ℤ cost c)

-- the best bid of a left block with these costs, if there is any
abbrev pub IsBidFound : {K : Type 0} (kind : Ghosts K) (to held : ℕ → Bool) (costs right : List K)
    → Option (Bid K) → Type 0
IsBidFound kind to held costs right found = MatchOption found
    ((j : ℕ) (w : ℤ) → IsBestBid to held (weight_at kind right) (weight_at kind costs) j w → ⊥)
    (λ bid. IsBestBid to held (weight_at kind right) (weight_at kind costs) bid.block
    (weight (kind.meaning bid.price)))

-- no right block that is held is the best bid of a left block with these costs
abbrev pub HasNoHeldBid : {K : Type 0} (kind : Ghosts K) (to held : ℕ → Bool)
    (costs right : List K) → Type 0
HasNoHeldBid kind to held costs right = (j : ℕ) (w : ℤ) → held j ≡ true
    → IsBestBid to held (weight_at kind right) (weight_at kind costs) j w → ⊥

-- the price of a bid is at most two costs farther from zero than the prices so far
abbrev pub IsPricedNear : {K : Type 0} (kind : Ghosts K) (n : ℕ) (right : List K) → Bid K → Type 0
IsPricedNear kind n right bid = (b : ℕ) → AreValuesWithin kind b n right → b ≤ REDUCED_LIMIT
    → AreWithin (b + 2 * COST_LIMIT) (kind.meaning bid.price)

-- Left block l, which was left out, has right block c now. A left block that had c before is left
-- out instead, and all others keep what they have.
pub record IsSeated (n : ℕ) (out : ℕ → Bool) (p : List ℕ) (l c : ℕ) (out' : ℕ → Bool) (p' : List ℕ)
    : Type 0 where
  pub len : length p' ≡ n
  pub inside : (m : ℕ) → out' m ≡ true → m < n
  pub gets : at p' l ≡ c
  pub paired : out' l ≡ false
  pub others : (m : ℕ) → m ≢ l → at p' m ≡ at p m
  pub stays : (m : ℕ) → m < n → m ≢ l → out m ≡ false → at p m ≢ c → out' m ≡ false
  pub was : (m : ℕ) → m < n → m ≢ l → out' m ≡ false → (out m ≡ false) × (at p m ≢ c)

-- what left block l can bid for under the prices so far, and at what price
abbrev pub IsBidOf : {K : Type 0} (kind : Ghosts K) (rows : List BlockSet) (costs : List K)
    (now : SoFar K) (l j : ℕ) (w : ℤ) → Type 0
IsBidOf kind rows costs now l j w = IsBestBid (holds rows l) (has now.holders.held)
    (weight_at kind now.right) (cost_weight kind (length rows) costs l) j w

-- there is nothing that left block l can bid for
abbrev pub HasNoBid : {K : Type 0} (kind : Ghosts K) (rows : List BlockSet) (costs : List K)
    (now : SoFar K) (l : ℕ) → Type 0
HasNoBid kind rows costs now l = (j : ℕ) (w : ℤ) → IsBidOf kind rows costs now l j w → ⊥

-- left block l has taken what it bids for, and no other price has changed
pub record IsReduced {K : Type 0} (kind : Ghosts K) (rows : List BlockSet) (costs : List K) (l : ℕ)
    (before after : SoFar K) : Type 0 where
  pub block : ℕ
  pub bid : IsBidOf kind rows costs before l block (weight_at kind after.right block)
  pub seated : IsSeated (length rows) before.out before.partners l block after.out after.partners
  pub others : (c : ℕ) → c ≢ block
      → columns_at kind after.right c ≡ columns_at kind before.right c

-- every right block that was held is held, and no price has risen
pub record HasGoneOn {K : Type 0} (kind : Ghosts K) (before after : SoFar K) : Type 0 where
  pub held : (c : ℕ) → has before.holders.held c ≡ true → has after.holders.held c ≡ true
  pub falls : (c : ℕ) → weight_at kind after.right c ≤ℤ weight_at kind before.right c

-- Left block l has had its turn: a right block that it could bid for is held, at no higher price
-- than it bid; or there was none that it could bid for.
abbrev pub HasHadTurn : {K : Type 0} (kind : Ghosts K) (rows : List BlockSet) (costs : List K)
    (l : ℕ) (before after : SoFar K) → Type 0
HasHadTurn kind rows costs l before after = HasNoBid kind rows costs before l
    ⊎ ((j : ℕ) × (w : ℤ) × IsBidOf kind rows costs before l j w
    × (has after.holders.held j ≡ true) × (weight_at kind after.right j ≤ℤ w))

-- the left block that is left out first has had its turn
abbrev pub HasHadFirstTurn : {K : Type 0} (kind : Ghosts K) (rows : List BlockSet)
    (costs : List K) (out : BlockSet) (before after : SoFar K) → Type 0
HasHadFirstTurn kind rows costs out before after =
    (l : ℕ) → IsLeast out l → HasHadTurn kind rows costs l before after
