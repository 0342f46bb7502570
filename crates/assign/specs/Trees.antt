-- What `grow` makes of a start, whatever pairing it is about. The search goes over all right
-- blocks; its tables tell the distances of those that are had, and of the free ones the nearest.
use Rattle.std.specs.Prelude.{◌≡◌, ℕ, ◌+◌, ◌<◌, ◌≤◌, Bool, true, false, not, ◌&&◌, List, length}
use Rattle.std.specs.Prelude.{◌+ℤ◌, ℤ, ◌≤ℤ◌, Option, Some, None, MatchOption, IfSome, if◌then◌else◌}
use Rattle.std.specs.Prelude.{replicate}
use Rattle.cost.specs.declared.Cost.{Ghosts}
use Rattle.cost.specs.Columns.{AreWithin}
use Rattle.cost.specs.Weights.{weight}
use Rattle.blockset.specs.declared.TheConstants.{SET_WIDTH}
use Rattle.blockset.specs.declared.BlockSet.{BlockSet}
use Rattle.blockset.specs.Has.{has, IsEmpty}
use Rattle.pairing.specs.Grid.{at}
use Rattle.tables.specs.Said.{columns_at}
use Rattle.matching.specs.declared.chains.Holders.{Holders}
use Rattle.matching.specs.declared.chains.Reach.{Reach}
use Rattle.assign.specs.declared.limits.TheConstants.{DISTANCE_LIMIT, INNER_PRICE_LIMIT}
use Rattle.assign.specs.declared.tree.Nearby.{Nearby}
use Rattle.assign.specs.declared.tree.Tree.{Tree}
use Rattle.assign.specs.Weighed.{weight_at, graph}
use Rattle.assign.specs.Offers.{distances, NearestWithKey}
use Rattle.assign.specs.Search.{Pairing, pairing, Start, Course, course, Kept, Grown}
use Rattle.assign.specs.Search.{Ends}

-- what a search has come to before its first turn: the right blocks, had or free; the left block
-- that each was reached from that is had, and the nearest free one; that one; and the nearest one
-- that is had
pub record Begun (K : Type 0) : Type 0 where
  pub seen : BlockSet
  pub via : List ℕ
  pub free : Option (Nearby K)
  pub next : Option (Nearby K)

-- so it is in this tree, from which nothing is taken yet
abbrev pub begun_in : {K : Type 0} → Tree K → Option (Nearby K) → Begun K
begun_in tree next = record {
  seen = tree.seen;
  via = tree.taken.from;
  free = tree.free;
  next = next;
}

-- nothing is taken yet
pub record IsUntaken (taken : Reach) : Type 0 where
  pub none : IsEmpty taken.reached
  pub ranks : taken.rank ≡ replicate SET_WIDTH 0
  pub no_goal : taken.goal ≡ None

-- a search that has come to nothing yet
pub record IsFresh {K : Type 0} (tree : Tree K) : Type 0 where
  pub unseen : IsEmpty tree.seen
  pub untaken : IsUntaken tree.taken
  pub from : tree.taken.from ≡ replicate SET_WIDTH 0
  pub no_free : tree.free ≡ None

-- how far a search has come with a right block, from what it has taken, at which turns, and seen
abbrev pub stage : (taken seen : ℕ → Bool) (turn : List ℕ) → ℕ → ℕ
stage taken seen turn c = if taken c then at turn c + 2 else (if seen c then 1 else 0)

-- how far a tree has come with a right block
abbrev pub stage_in : {K : Type 0} → Tree K → ℕ → ℕ
stage_in tree = stage (has tree.taken.reached) (has tree.seen) tree.taken.rank

-- before the first turn no right block is taken
abbrev pub stage_at_first : (ℕ → Bool) → ℕ → ℕ
stage_at_first seen = stage (λ _. false) seen (replicate SET_WIDTH 0)

-- the right block of a goal
abbrev pub block_of : {K : Type 0} → Option (Nearby K) → Option ℕ
block_of None = None
block_of (Some near) = Some near.block

-- the right blocks that are had, and that the search has come to and not taken
abbrev pub waiting : (held seen taken : ℕ → Bool) → ℕ → Bool
waiting held seen taken c = (seen c && held c) && not (taken c)

-- a free right block that the search has come to; how far it is beyond its price is a distance less
-- that price
pub record IsFreeSeen {K : Type 0} (kind : Ghosts K) (holders : Holders) (right : List K)
    (reached : ℕ → Bool) (near : Nearby K) : Type 0 where
  pub seen : reached near.block ≡ true
  pub free : has holders.held near.block ≡ false
  pub reach : (y : ℕ) → AreWithin y (columns_at kind right near.block) → y ≤ INNER_PRICE_LIMIT
      → AreWithin (DISTANCE_LIMIT + y) (kind.meaning near.key)

-- `free` is a free right block that the search has come to, if there is any
abbrev pub HasFree : {K : Type 0} (kind : Ghosts K) (holders : Holders) (right : List K)
    (seen : ℕ → Bool) → Option (Nearby K) → Type 0
HasFree kind holders right seen free = MatchOption free
    ((c : ℕ) → seen c ≡ true → has holders.held c ≡ true) (IsFreeSeen kind holders right seen)

-- `next` is the nearest of the right blocks that wait, if there is any
abbrev pub HasNext : {K : Type 0} (kind : Ghosts K) (holders : Holders) (right dist : List K)
    (seen taken : ℕ → Bool) → Option (Nearby K) → Type 0
HasNext kind holders right dist seen taken next = MatchOption next
    ((c : ℕ) → waiting (has holders.held) seen taken c ≡ false)
    (NearestWithKey kind (waiting (has holders.held) seen taken) right
    (distances kind holders dist))

-- no free right block is nearer than this one, whose distance and left block the search knows; d
-- and came: the distances of the search, and where each right block was reached from
pub record IsNearestFree {K : Type 0} (kind : Ghosts K) (holders : Holders) (right : List K)
    (seen : ℕ → Bool) (from : List ℕ) (d : ℕ → ℤ) (came : ℕ → ℕ) (near : Nearby K) : Type 0 where
  pub dist : d near.block ≡ weight (kind.meaning near.key) +ℤ weight_at kind right near.block
  pub via : came near.block ≡ at from near.block
  pub least : (c : ℕ) → seen c ≡ true → has holders.held c ≡ false
      → (weight (kind.meaning near.key) +ℤ weight_at kind right c) ≤ℤ d c

-- what the tables tell of the right blocks that a search has come to: how far those are that are
-- had, and from where each was reached; and of the free ones the nearest
pub record Tells {K : Type 0} (kind : Ghosts K) (holders : Holders) (right table : List K)
    (seen : ℕ → Bool) (from : List ℕ) (free : Option (Nearby K)) (d : ℕ → ℤ) (came : ℕ → ℕ)
    : Type 0 where
  pub dist : (c : ℕ) → seen c ≡ true → has holders.held c ≡ true
      → d c ≡ weight (distances kind holders table c)
  pub via : (c : ℕ) → seen c ≡ true → has holders.held c ≡ true → came c ≡ at from c
  pub nearest : IfSome free (IsNearestFree kind holders right seen from d came)

-- The tables tell of a search that has come this far, whatever pairing it is about that goes with
-- the prices.
abbrev pub Searches : {K : Type 0} (kind : Ghosts K) (rows : List BlockSet) (costs : List K)
    (holders : Holders) (right dist : List K) (seen : ℕ → Bool) (via : List ℕ)
    (free : Option (Nearby K)) (at_stage : ℕ → ℕ) (Far : Pairing → Course → Type 0) → Type 0
Searches kind rows costs holders right dist seen via free at_stage Far =
    (d : ℕ → ℤ) × (came : ℕ → ℕ) × Tells kind holders right dist seen via free d came
    × ((out : ℕ → Bool) (p : List ℕ)
    → Kept (graph kind rows costs) (pairing out p holders (weight_at kind right))
    → Far (pairing out p holders (weight_at kind right)) (course d came at_stage))

-- it has come to what its start offers
abbrev pub Begins : {K : Type 0} (kind : Ghosts K) (rows : List BlockSet) (costs : List K)
    (holders : Holders) (right : List K) (start : Start) (begun : Begun K) (dist : List K) → Type 0
Begins kind rows costs holders right start begun dist =
    Searches kind rows costs holders right dist (has begun.seen) begun.via begun.free
    (stage_at_first (has begun.seen))
    (λ q s. Grown (graph kind rows costs) q start s 0 (length rows))

-- it has come from its start to its end
abbrev pub HasCome : {K : Type 0} (kind : Ghosts K) (rows : List BlockSet) (costs : List K)
    (holders : Holders) (right : List K) (start : Start) (tree : Tree K) (dist : List K) → Type 0
HasCome kind rows costs holders right start tree dist =
    Searches kind rows costs holders right dist (has tree.seen) tree.taken.from tree.free
    (stage_in tree) (λ q s. Ends (graph kind rows costs) q start s tree.taken.goal)

-- what the tables hold beside, once a search has come to its end: whether there is a goal, that
-- what is taken was come to, and that nothing is outside the table or far
pub record HasEnded {K : Type 0} (kind : Ghosts K) (n : ℕ) (holders : Holders)
    (right dist : List K) (tree : Tree K) : Type 0 where
  pub goal : tree.taken.goal ≡ block_of tree.free
  pub free : HasFree kind holders right (has tree.seen) tree.free
  pub among : (c : ℕ) → has tree.taken.reached c ≡ true → has tree.seen c ≡ true
  pub inside : (c : ℕ) → has tree.taken.reached c ≡ true → c < n
  pub near : (c : ℕ) → has tree.taken.reached c ≡ true → has holders.held c ≡ true
      → AreWithin DISTANCE_LIMIT (distances kind holders dist c)
