-- What one left block offers the right blocks that it stands with, and which right block is the
-- nearest.
use Rattle.std.specs.Prelude.{◌≡◌, ℕ, ◌+◌, ◌<◌, ◌≤◌, Bool, true, false, ◌⊎◌, List, length, ℤ, ◌+ℤ◌}
use Rattle.std.specs.Prelude.{◌-ℤ◌, ◌≤ℤ◌, ◌<ℤ◌, Option, Some, None, [], IfSome, ◌≢◌}
use Rattle.std.specs.Prelude.{if◌then◌else◌}
use Rattle.cost.specs.declared.TheConstants.{COST_LIMIT, RAIL}
use Rattle.cost.specs.declared.Cost.{Ghosts}
use Rattle.cost.specs.Columns.{AreWithin}
use Rattle.cost.specs.Weights.{weight}
use Rattle.blockset.specs.Has.{has}
use Rattle.blockset.specs.declared.TheConstants.{MOST_BLOCKS}
use Rattle.assign.specs.declared.limits.TheConstants.{KEY_LIMIT, SHIFT_LIMIT, INNER_PRICE_LIMIT}
use Rattle.assign.specs.declared.search.Offer.{Offer}
use Rattle.assign.specs.declared.tree.Nearby.{Nearby}
use Rattle.assign.specs.declared.tree.TwoNearest.{TwoNearest}
use Rattle.matching.specs.Exchange.{without}
use Rattle.matching.specs.declared.chains.Holders.{Holders}
use Rattle.pairing.specs.Grid.{at}
use Rattle.tables.specs.Said.{columns_at}
use Rattle.assign.specs.Weighed.{weight_at, BoundedOn}

-- The left block `from` offers each right block of `to` the distance `shift` plus what their pair
-- weighs. One that is reached already takes it if it is less than the distance it has, and any
-- other takes it whatever it is.
pub record Offered (shift : ℤ) (cost : ℕ → ℤ) (from : ℕ) (to reached : ℕ → Bool) (d : ℕ → ℤ)
    (via : ℕ → ℕ) (d' : ℕ → ℤ) (via' : ℕ → ℕ) (c : ℕ) : Type 0 where
  pub others : to c ≡ false → (d' c ≡ d c) × (via' c ≡ via c)
  pub change : to c ≡ true → ((reached c ≡ true) × (d' c ≡ d c) × (via' c ≡ via c))
      ⊎ ((d' c ≡ shift +ℤ cost c) × (via' c ≡ from))
  pub most : to c ≡ true → d' c ≤ℤ (shift +ℤ cost c)
  pub less : to c ≡ true → reached c ≡ true → d' c ≤ℤ d c

-- An offer that a search can make: it is to at most 64 right blocks, and no cost of those that it
-- is made to is beyond COST_LIMIT, nor is what is added to it beyond SHIFT_LIMIT.
pub record IsModest {K : Type 0} (kind : Ghosts K) (offer : Offer K) : Type 0 where
  pub few : length offer.costs.now ≤ MOST_BLOCKS
  pub block : offer.from < MOST_BLOCKS
  pub costs : BoundedOn kind COST_LIMIT (has offer.to) offer.costs.now
  pub shift : AreWithin SHIFT_LIMIT (kind.meaning offer.shift)

-- what comes of an offer for right block c: so much of it is made, and these are reached. d and d'
-- are the distances before and afterward, by their columns.
abbrev pub IsOffered : {K : Type 0} (kind : Ghosts K) (offer : Offer K) (to reached : ℕ → Bool)
    (d d' : ℕ → List ℤ) (via via' : List ℕ) → ℕ → Type 0
IsOffered kind offer to reached d d' via via' = Offered (weight (kind.meaning offer.shift))
    (weight_at kind offer.costs.now) offer.from to reached (λ c. weight (d c)) (at via)
    (λ c. weight (d' c)) (at via')

-- a is of the set, and none of the set is less far beyond its price
pub record Nearest (set : ℕ → Bool) (v d : ℕ → ℤ) (a : ℕ) : Type 0 where
  pub member : set a ≡ true
  pub least : (c : ℕ) → set c ≡ true → (d a +ℤ v c) ≤ℤ (d c +ℤ v a)

-- how far a right block can be beyond its price: as far as its distance and its price together
abbrev pub KeyReach : {K : Type 0} (kind : Ghosts K) (right : List K) (d : ℕ → List ℤ) (c : ℕ)
    (key : K) → Type 0
KeyReach kind right d c key = (x y : ℕ) → AreWithin x (d c)
    → AreWithin y (columns_at kind right c) → x + y ≤ RAIL → AreWithin (x + y) (kind.meaning key)

-- the nearest of a set, with how far it is beyond its price
pub record NearestWithKey {K : Type 0} (kind : Ghosts K) (set : ℕ → Bool) (right : List K)
    (d : ℕ → List ℤ) (near : Nearby K) : Type 0 where
  pub inside : near.block < length right
  pub nearest : Nearest set (weight_at kind right) (λ c. weight (d c)) near.block
  pub key : weight (kind.meaning near.key) ≡ weight (d near.block)
      -ℤ weight_at kind right near.block
  pub bound : AreWithin KEY_LIMIT (kind.meaning near.key)
  pub reach : KeyReach kind right d near.block near.key

-- the nearest of a set and the nearest of the others, with their keys
pub record NearestTwo {K : Type 0} (kind : Ghosts K) (set : ℕ → Bool) (right : List K)
    (d : ℕ → List ℤ) (two : TwoNearest K) : Type 0 where
  pub near : NearestWithKey kind set right d two.near
  pub next : NearestWithKey kind (without set two.near.block) right d two.next

-- how far each right block is that is had: as far as the left block that has it
abbrev pub distances : {K : Type 0} → Ghosts K → Holders → List K → ℕ → List ℤ
distances kind holders dist c =
    if has holders.held c then columns_at kind dist (at holders.owner c) else []

-- each right block that is had has a left block of its own, one of n
pub record HaveOwners (n : ℕ) (holders : Holders) : Type 0 where
  pub below : (c : ℕ) → has holders.held c ≡ true → at holders.owner c < n
  pub apart : (b c : ℕ) → has holders.held b ≡ true → has holders.held c ≡ true
      → at holders.owner b ≡ at holders.owner c → b ≡ c

-- The nearest of the free right blocks that an offer goes to, which is nearer than the nearest one
-- before: it is reached from the left block that made the offer now.
pub record IsNearerOffer {K : Type 0} (kind : Ghosts K) (offer : Offer K) (held : ℕ → Bool)
    (right : List K) (before : Option (Nearby K)) (via via' : List ℕ) (near : Nearby K)
    : Type 0 where
  pub inside : near.block < length right
  pub member : has offer.to near.block ≡ true
  pub free : held near.block ≡ false
  pub key : weight (kind.meaning near.key) +ℤ weight_at kind right near.block
      ≡ weight (kind.meaning offer.shift) +ℤ weight_at kind offer.costs.now near.block
  pub reach : (b y : ℕ) → AreWithin b (kind.meaning offer.shift) → b ≤ SHIFT_LIMIT
      → AreWithin y (columns_at kind right near.block) → y ≤ INNER_PRICE_LIMIT
      → AreWithin (b + COST_LIMIT + y) (kind.meaning near.key)
  pub less : IfSome before (λ old. weight (kind.meaning near.key)
      <ℤ weight (kind.meaning old.key))
  pub from : at via' near.block ≡ offer.from
  pub others : (c : ℕ) → c ≢ near.block → at via' c ≡ at via c

-- What an offer makes of the nearest free right block: it stays unless one that the offer goes to
-- is nearer.
pub record IsFreeOffered {K : Type 0} (kind : Ghosts K) (offer : Offer K) (held : ℕ → Bool)
    (right : List K) (before : Option (Nearby K)) (via via' : List ℕ) (near : Nearby K)
    : Type 0 where
  pub least : (c : ℕ) → has offer.to c ≡ true → held c ≡ false
      → (weight (kind.meaning near.key) +ℤ weight_at kind right c)
      ≤ℤ (weight (kind.meaning offer.shift) +ℤ weight_at kind offer.costs.now c)
  pub choice : ((before ≡ Some near) × (via' ≡ via))
      ⊎ IsNearerOffer kind offer held right before via via' near

-- a is held by a left block only if each free one of the set is farther beyond its price than it is
abbrev pub FreeFirst : (set held : ℕ → Bool) (v d : ℕ → ℤ) → ℕ → Type 0
FreeFirst set held v d a = held a ≡ true → (c : ℕ) → set c ≡ true → held c ≡ false
    → (d a +ℤ v c) <ℤ (d c +ℤ v a)

-- the nearer one of two right blocks with their keys, the first one if both are as near
abbrev pub Nearer : {K : Type 0} (kind : Ghosts K) (first second result : Option (Nearby K))
    → Type 0
Nearer kind None second result = result ≡ second
Nearer kind (Some a) None result = result ≡ Some a
Nearer kind (Some a) (Some b) result =
    ((result ≡ Some a) × (weight (kind.meaning a.key) ≤ℤ weight (kind.meaning b.key)))
    ⊎ ((result ≡ Some b) × (weight (kind.meaning b.key) <ℤ weight (kind.meaning a.key)))
