-- Pairings that leave blocks out (matchings), the largest of them, the crowd set and its shortage.
use Rattle.std.specs.Prelude.{◌≡◌, ℕ, ◌-◌, ◌<◌, ◌≤◌, Bool, true, false, not, ◌&&◌, List, length}
use Rattle.std.specs.Prelude.{IsTrue, ◌↔◌}
use Rattle.std.specs.List.{list_any}
use Rattle.blockset.specs.Sets.{members, bit}
use Rattle.pairing.specs.Places.{rights_of}
use Rattle.pairing.specs.Grid.{numbers, at, IsPerfect}

-- a set of standing pairs in which no block comes twice (a matching): p gives each left block that
-- is not in `out` its right block
pub record IsPartial (n : ℕ) (stands : ℕ → ℕ → Bool) (p : List ℕ) (out : ℕ → Bool) : Type 0 where
  pub len : length p ≡ n
  pub below : (l : ℕ) → l < n → out l ≡ false → at p l < rights_of n
  pub standing : (l : ℕ) → l < n → out l ≡ false → stands l (at p l) ≡ true
  pub once : (l m : ℕ) → l < n → m < n → out l ≡ false → out m ≡ false → at p l ≡ at p m → l ≡ m

-- how many pairs it has
abbrev pub pair_count : ℕ → (ℕ → Bool) → ℕ
pair_count n out = members n (λ l. not (out l))

-- such a set with at least as many pairs as every other (a maximum matching)
pub record IsLargest (n : ℕ) (stands : ℕ → ℕ → Bool) (p : List ℕ) (out : ℕ → Bool) : Type 0 where
  pub part : IsPartial n stands p out
  pub most : (q : List ℕ) (out' : ℕ → Bool) → IsPartial n stands q out'
      → pair_count n out' ≤ pair_count n out

-- left block l is in the crowd set: some largest pairing leaves it out
pub record IsInCrowd (n : ℕ) (stands : ℕ → ℕ → Bool) (l : ℕ) : Type 0 where
  pub pairing : List ℕ
  pub out : ℕ → Bool
  pub largest : IsLargest n stands pairing out
  pub inside : l < n
  pub left_out : out l ≡ true

-- the test tells the crowd set
abbrev pub IsCrowdSet : (n : ℕ) → (ℕ → ℕ → Bool) → (ℕ → Bool) → Type 0
IsCrowdSet n stands X = (l : ℕ) → (IsTrue (X l) ↔ IsInCrowd n stands l)

-- the right blocks that stand with any left block of a set X (its neighbourhood N(X))
abbrev pub around : ℕ → (ℕ → ℕ → Bool) → (ℕ → Bool) → ℕ → Bool
around n stands X r = list_any (λ l. X l && stands l r) (numbers n)

-- how many more left blocks a set X has than right blocks stand with any of them (its deficiency
-- |X| - |N(X)|, after Hall and König)
abbrev pub shortage : ℕ → (ℕ → ℕ → Bool) → (ℕ → Bool) → ℕ
shortage n stands X = members n X - members (rights_of n) (around n stands X)

-- no pairing is perfect; these are the crowd set, as one number, and its shortage
pub record HasNoPerfect (n : ℕ) (stands : ℕ → ℕ → Bool) (crowd short : ℕ) : Type 0 where
  pub none : (p : List ℕ) → IsPerfect n stands p → ⊥
  pub crowd_set : IsCrowdSet n stands (bit crowd)
  pub shortage_is : shortage n stands (bit crowd) ≡ short
