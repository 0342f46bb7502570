-- The theorems on pairings, prices, chains and counting that the calls lean on, each the contract
-- of a function.
use Rattle.std.specs.Prelude.{◌≡◌, ℕ, ◌+◌, ◌-◌, ◌<◌, ◌≤◌, Bool, true, false, ◌&&◌, ◌↔◌, List}
use Rattle.std.specs.Prelude.{[], ℤ, IsTrue, ◌≢◌, Contains, AllPairs, length, nat_lt}
use Rattle.cost.specs.Columns.{minus}
use Rattle.pairing.specs.Places.{rights_of}
use Rattle.pairing.specs.Grid.{Grid, right_count, IsSane, at, IsPerfect, IsPerfectIn, total}
use Rattle.pairing.specs.Grid.{IsOptimum}
use Rattle.pairing.specs.Prices.{AreValid, AreTight, AreGreatest}
use Rattle.blockset.specs.Sets.{members}
use Rattle.pairing.specs.Largest.{IsPartial, pair_count, IsLargest, IsInCrowd, IsCrowdSet, around}
use Rattle.pairing.specs.Largest.{shortage, HasNoPerfect}
use Rattle.pairing.specs.Inside.{AreSameInside}
use Rattle.pairing.specs.Chains.{IsReached, IsStuck, HasChain, Sends, IsClosed, IsShut}
use Rattle.pairing.specs.Optima.{IsBefore, perfects, optima, IsInPerfect, IsInOptimum, has_pair}
use Rattle.pairing.specs.Optima.{is_in_optimum}

-- ---- Prices

-- prices valid for a perfect pairing make it optimum (weak duality)
abbrev pub ProvesOptimum : Type 0
ProvesOptimum =
    (g : Grid) (left right : ℕ → List ℤ) (p : List ℕ) → IsSane g → IsPerfectIn g p
    → AreValid g left right p → IsOptimum g p

-- under prices valid for some perfect pairing, a perfect pairing is optimum exactly if it is tight
-- (complementary slackness)
abbrev pub OptimumIfTight : Type 0
OptimumIfTight =
    (g : Grid) (left right : ℕ → List ℤ) (p q : List ℕ) → IsSane g → IsPerfectIn g p
    → AreValid g left right p → IsPerfectIn g q → AreTight g left right q ↔ IsOptimum g q

-- whichever valid prices were taken, for whichever pairing, the same perfect pairings are tight
abbrev pub TightAlike : Type 0
TightAlike =
    (g : Grid) (left right left' right' : ℕ → List ℤ) (p p' q : List ℕ) → IsSane g → IsPerfectIn g p
    → AreValid g left right p → IsPerfectIn g p' → AreValid g left' right' p' → IsPerfectIn g q
    → AreTight g left right q ↔ AreTight g left' right' q

-- prices valid for one perfect pairing are valid for just the optimum pairings
abbrev pub ValidAlike : Type 0
ValidAlike =
    (g : Grid) (left right : ℕ → List ℤ) (p q : List ℕ) → IsSane g → IsPerfectIn g p
    → AreValid g left right p → IsPerfectIn g q → IsOptimum g q ↔ AreValid g left right q

-- two systems of greatest prices, for two perfect pairings even, are the same; the left prices are
-- what the pairs cost beyond their right prices
abbrev pub GreatestAlike : Type 0
GreatestAlike =
    (g : Grid) (left right left' right' : ℕ → List ℤ) (p q : List ℕ) → IsSane g → IsPerfectIn g p
    → IsPerfectIn g q → AreGreatest g left right p → AreGreatest g left' right' q
    → ((r : ℕ) → r < right_count g → right r ≡ right' r)
    × ((l : ℕ) → l < g.size → (left l ≡ left' l)
    × (left l ≡ minus (g.cost l (at p l)) (right (at p l))))

-- ---- Counting

-- As many left blocks get a right block of C from one perfect pairing as from another. So if each
-- left block that gets one from p gets one from q too, no other left block gets one from q. That is
-- so if C is closed, and p and q are both of tight pairs.
pub record GivenAlike : Type 0 where
  pub alike : (n : ℕ) (stands stands' : ℕ → ℕ → Bool) (p q : List ℕ) → IsPerfect n stands p
      → IsPerfect n stands' q
      → (C : ℕ → Bool) → ((l : ℕ) → l < n → C (at p l) ≡ true → C (at q l) ≡ true) → (l : ℕ) → l < n
      → C (at p l) ≡ C (at q l)
  pub closed : (n : ℕ) (tight : ℕ → ℕ → Bool) (p q : List ℕ) → IsPerfect n tight p
      → IsPerfect n tight q
      → (C : ℕ → Bool) → IsClosed n tight p C → (l : ℕ) → l < n → C (at p l) ≡ C (at q l)

-- a set of `many` left blocks that stand with no right block outside a set of `few`: every pairing
-- leaves at least many - few of them out, and so has at most n - (many - few) pairs
pub record LeavesOut (many few least : ℕ) : Type 0 where
  pub is : least ≡ many - few
  pub bound : (n : ℕ) (stands : ℕ → ℕ → Bool) (X Y : ℕ → Bool) → IsShut n stands X Y
      → members n X ≡ many → members (rights_of n) Y ≡ few
      → (p : List ℕ) (out : ℕ → Bool) → IsPartial n stands p out
      → (least ≤ members n (λ l. X l && out l)) × (pair_count n out + least ≤ n)

-- Hall's condition, that such a set has no more left blocks than right blocks: where `possible` is
-- false of one set no pairing is perfect, and where every set meets it, |X| ≤ |N(X)|, some pairing
-- is
pub record Hall (many few : ℕ) (possible : Bool) : Type 0 where
  pub is : IsTrue possible ↔ (many ≤ few)
  pub needed : (n : ℕ) (stands : ℕ → ℕ → Bool) (X Y : ℕ → Bool) → IsShut n stands X Y
      → members n X ≡ many → members (rights_of n) Y ≡ few
      → possible ≡ false → (p : List ℕ) → IsPerfect n stands p → ⊥
  pub enough : (n : ℕ) (stands : ℕ → ℕ → Bool)
      → ((X : ℕ → Bool) → members n X ≤ members (rights_of n) (around n stands X)) → (p : List ℕ)
      × IsPerfect n stands p

-- ---- Largest pairings

-- there is always a largest pairing, and a pairing is largest exactly if no augmenting path is left
-- (Berge)
pub record LargestIfStuck : Type 0 where
  pub exists : (n : ℕ) (stands : ℕ → ℕ → Bool) → (p : List ℕ) × (out : ℕ → Bool)
      × IsLargest n stands p out
  pub are : (n : ℕ) (stands : ℕ → ℕ → Bool) (p : List ℕ) (out : ℕ → Bool) → IsPartial n stands p out
      → IsStuck n stands p out ↔ IsLargest n stands p out

-- the crowd set is the set reached from the left blocks that a largest pairing leaves out,
-- whichever largest pairing that is
abbrev pub CrowdIfReached : Type 0
CrowdIfReached =
    (n : ℕ) (stands : ℕ → ℕ → Bool) (p : List ℕ) (out : ℕ → Bool) → IsLargest n stands p out
    → (l : ℕ)
    → IsReached n stands p out l ↔ IsInCrowd n stands l

-- the crowd set is short of as many right blocks as a largest pairing leaves left blocks out (the
-- deficiency, by König), and that is none exactly if a pairing is perfect
abbrev pub ShortBy : Type 0
ShortBy =
    (n : ℕ) (stands : ℕ → ℕ → Bool) (p : List ℕ) (out X : ℕ → Bool) → IsLargest n stands p out
    → IsCrowdSet n stands X
    → (shortage n stands X ≡ members n out)
    × (members n X ≡ members (rights_of n) (around n stands X) + members n out)
    × ((members n out ≡ 0) ↔ ((q : List ℕ) × IsPerfect n stands q))

-- ---- Exchange along a chain

-- over a perfect pairing p of tight pairs, some perfect pairing of tight pairs that keeps what p
-- gives below k gives l the right block r exactly if l and r are tight and a chain leads from r to
-- the right block that p gives l
abbrev pub SendsIfChain : Type 0
SendsIfChain =
    (n k : ℕ) (tight : ℕ → ℕ → Bool) (p : List ℕ) → IsPerfect n tight p → (l r : ℕ) → k ≤ l → l < n
    → r < rights_of n
    → ((tight l r ≡ true) × HasChain n k tight p r (at p l)) ↔ Sends n k tight p l r

-- ---- The lists of all perfect and of all optimum pairings

-- the list holds just what has the property, in dictionary order and none twice, which makes it the
-- only such list
pub record IsListOf (P : List ℕ → Type 0) (ps : List (List ℕ)) : Type 0 where
  pub are : (p : List ℕ) → Contains ps p ↔ P p
  pub ascend : AllPairs IsBefore ps
  pub distinct : AllPairs ◌≢◌ ps
  pub only : (qs : List (List ℕ)) → AllPairs IsBefore qs → ((p : List ℕ) → Contains qs p ↔ P p)
      → qs ≡ ps

-- `perfects` is the list of the perfect pairings; it holds one exactly if some pairing is perfect
pub record PerfectsHold (n : ℕ) (stands : ℕ → ℕ → Bool) : Type 0 where
  pub list : IsListOf (IsPerfect n stands) (perfects n stands)
  pub none : (perfects n stands ≡ []) ↔ ((p : List ℕ) → IsPerfect n stands p → ⊥)
  pub some : IsTrue (nat_lt 0 (length (perfects n stands))) ↔ ((p : List ℕ) × IsPerfect n stands p)

abbrev pub PerfectsAre : Type 0
PerfectsAre = (n : ℕ) (stands : ℕ → ℕ → Bool) → PerfectsHold n stands

-- the test on the list tells whether some perfect pairing has a pair
abbrev pub PairsAre : Type 0
PairsAre = (n : ℕ) (stands : ℕ → ℕ → Bool) (l r : ℕ) → l < n
    → IsTrue (has_pair l r (perfects n stands)) ↔ IsInPerfect n stands l r

-- `optima` is the list of the optimum pairings; it holds one exactly if some pairing is perfect
pub record OptimaHold (g : Grid) : Type 0 where
  pub list : IsListOf (IsOptimum g) (optima g)
  pub none : IsSane g → (optima g ≡ []) ↔ ((p : List ℕ) → IsPerfectIn g p → ⊥)
  pub some : IsSane g → IsTrue (nat_lt 0 (length (optima g))) ↔ ((p : List ℕ) × IsPerfectIn g p)

abbrev pub OptimaAre : Type 0
OptimaAre = (g : Grid) → OptimaHold g

-- the test on the list tells whether some optimum pairing has a pair
abbrev pub MarksAre : Type 0
MarksAre = (g : Grid) (l r : ℕ) → IsTrue (is_in_optimum g l r) ↔ IsInOptimum g l r

-- ---- What a grid says of other pairs never matters

-- grids that are the same inside have the same pairings, optimum pairings, prices and crowd sets
pub record AreAlikeInside (g h : Grid) : Type 0 where
  pub sane : IsSane g ↔ IsSane h
  pub perfect : (p : List ℕ) → IsPerfectIn g p ↔ IsPerfectIn h p
  pub perfects : perfects g.size g.stands ≡ perfects h.size h.stands
  pub totals : (p : List ℕ) → IsPerfectIn g p → total g p ≡ total h p
  pub optimum : (p : List ℕ) → IsOptimum g p ↔ IsOptimum h p
  pub optima : optima g ≡ optima h
  pub valid : (left right : ℕ → List ℤ) (p : List ℕ) → IsPerfectIn g p
      → AreValid g left right p ↔ AreValid h left right p
  pub greatest : (left right : ℕ → List ℤ) (p : List ℕ) → IsPerfectIn g p
      → AreGreatest g left right p ↔ AreGreatest h left right p
  pub largest : (p : List ℕ) (out : ℕ → Bool)
      → IsLargest g.size g.stands p out ↔ IsLargest h.size h.stands p out
  pub unpaired : (crowd short : ℕ)
      → HasNoPerfect g.size g.stands crowd short ↔ HasNoPerfect h.size h.stands crowd short
  pub marked : (l r : ℕ) → IsInOptimum g l r ↔ IsInOptimum h l r
  pub is_marked : (l r : ℕ) → is_in_optimum g l r ≡ is_in_optimum h l r

abbrev pub InsideMatters : Type 0
InsideMatters = (g h : Grid) → AreSameInside g h → AreAlikeInside g h
