-- A pairing of some left blocks with prices of the right blocks, and the search for the cheapest
-- way to pair one left block more. All costs, prices and distances are weighed.
use Rattle.std.specs.Prelude.{◌≡◌, ℕ, ◌+◌, ◌<◌, ◌≤◌, Bool, true, false, ◌⊎◌, List, ℤ, ◌+ℤ◌, ◌≤ℤ◌}
use Rattle.std.specs.Prelude.{pos, Some, None, Option, ◌≢◌, IfSome}
use Rattle.blockset.specs.Has.{has}
use Rattle.pairing.specs.Grid.{at}
use Rattle.pairing.specs.Largest.{IsPartial}
use Rattle.matching.specs.Exchange.{AreHolders}
use Rattle.matching.specs.declared.chains.Holders.{Holders}

-- what a search goes over: so many blocks a plane, which pairs stand, and what each weighs
pub record Graph : Type 0 where
  pub size : ℕ
  pub stands : ℕ → ℕ → Bool
  pub cost : ℕ → ℕ → ℤ

-- a pairing of the left blocks that are not in `out`: the right block of each, whose each right
-- block is, and the prices of the right blocks
pub record Pairing : Type 0 where
  pub out : ℕ → Bool
  pub partners : List ℕ
  pub holders : Holders
  pub price : ℕ → ℤ

abbrev pub pairing : (ℕ → Bool) → List ℕ → Holders → (ℕ → ℤ) → Pairing
pairing out partners holders price =
    record { out = out; partners = partners; holders = holders; price = price }

-- the prices go with the pairing: no other right block would serve a paired left block better than
-- its own does
pub record Kept (g : Graph) (q : Pairing) : Type 0 where
  pub pairs : IsPartial g.size g.stands q.partners q.out
  pub holding : AreHolders 0 q.partners q.out q.holders
  pub fair : (l c : ℕ) → l < g.size → q.out l ≡ false → c < g.size → g.stands l c ≡ true
      → (q.price c +ℤ g.cost l (at q.partners l)) ≤ℤ (q.price (at q.partners l) +ℤ g.cost l c)

-- where a search starts: at a left block `root`, or at an imagined one; each right block of `offer`
-- is reached from there at its `base`
pub record Start : Type 0 where
  pub root : Option ℕ
  pub offer : ℕ → Bool
  pub base : ℕ → ℤ

-- a search from left block k, which offers each right block that it stands with their cost
abbrev pub from_row : Graph → ℕ → Start
from_row g k = record { root = Some k; offer = g.stands k; base = g.cost k }

-- a search from an imagined left block that offers every right block the distance 0
abbrev pub from_all : Start
from_all = record { root = None; offer = λ _. true; base = λ _. pos 0 }

-- How far a search has come with each right block: its distance, the left block that it was reached
-- from, and its stage, which is 0 where it is not reached, 1 where it is, and t + 2 where it was
-- taken at turn t.
pub record Course : Type 0 where
  pub dist : ℕ → ℤ
  pub via : ℕ → ℕ
  pub stage : ℕ → ℕ

abbrev pub course : (ℕ → ℤ) → (ℕ → ℕ) → (ℕ → ℕ) → Course
course dist via stage = record { dist = dist; via = via; stage = stage }

-- where a reached right block was reached from: the start, or the left block of a right block that
-- was taken, and taken sooner, at what that adds to its distance
abbrev pub From : Graph → Pairing → Start → Course → ℕ → Type 0
From g q start s c =
    (IfSome start.root (λ k. s.via c ≡ k) × (start.offer c ≡ true) × (s.dist c ≡ start.base c))
    ⊎ ((s.via c < g.size) × (q.out (s.via c) ≡ false) × (2 ≤ s.stage (at q.partners (s.via c)))
    × (g.stands (s.via c) c ≡ true)
    × (s.dist c +ℤ g.cost (s.via c) (at q.partners (s.via c))
    ≡ s.dist (at q.partners (s.via c)) +ℤ g.cost (s.via c) c)
    × (2 ≤ s.stage c → s.stage (at q.partners (s.via c)) < s.stage c))

-- The search so far, after t turns: the taken right blocks are those of least distance beyond their
-- price, in turn; all that their left blocks stand with is reached. The left block of x has yet to
-- be looked at; where x is the size there is none.
pub record Grown (g : Graph) (q : Pairing) (start : Start) (s : Course) (t x : ℕ) : Type 0 where
  pub offered : (c : ℕ) → c < g.size → start.offer c ≡ true
      → (1 ≤ s.stage c) × (s.dist c ≤ℤ start.base c)
  pub relaxed : (a c : ℕ) → a < g.size → c < g.size → 2 ≤ s.stage a → (a ≢ x)
      → g.stands (at q.holders.owner a) c ≡ true
      → (1 ≤ s.stage c) × ((s.dist c +ℤ g.cost (at q.holders.owner a) a)
      ≤ℤ (s.dist a +ℤ g.cost (at q.holders.owner a) c))
  pub ordered : (a c : ℕ) → a < g.size → c < g.size → 2 ≤ s.stage a → s.stage c ≡ 1
      → (s.dist a +ℤ q.price c) ≤ℤ (s.dist c +ℤ q.price a)
  pub last : (c : ℕ) → c < g.size → x < g.size → 2 ≤ s.stage c
      → (s.dist c +ℤ q.price x) ≤ℤ (s.dist x +ℤ q.price c)
  pub held : (c : ℕ) → c < g.size → 2 ≤ s.stage c → (c ≢ x) → has q.holders.held c ≡ true
  pub source : (c : ℕ) → c < g.size → 1 ≤ s.stage c → From g q start s c
  pub turns : (c : ℕ) → c < g.size → s.stage c < t + 2

-- how the search ends: at a free right block, or with all that is reached taken
abbrev pub Ends : Graph → Pairing → Start → Course → Option ℕ → Type 0
Ends g q start s None =
    ((c : ℕ) → c < g.size → s.stage c ≢ 1) × ((t : ℕ) × Grown g q start s t g.size)
Ends g q start s (Some f) = (f < g.size) × (2 ≤ s.stage f) × (has q.holders.held f ≡ false)
    × ((t : ℕ) × Grown g q start s t f)
