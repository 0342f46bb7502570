-- Chains (alternating paths): steps from a block to another by a standing pair, and on by a pair of
-- the pairing. Exchanging the two kinds of pairs along a chain makes another pairing.
use Rattle.std.specs.Prelude.{◌≡◌, ℕ, ◌<◌, ◌≤◌, Bool, true, false, List}
use Rattle.pairing.specs.Places.{rights_of}
use Rattle.pairing.specs.Grid.{at, IsPerfect}

-- ---- From the left blocks that a pairing leaves out

-- a left block is reached (by an alternating path from one that is left out) if it is left out, or
-- if a reached left block stands with the right block that p gives it
pub data IsReached (n : ℕ) (stands : ℕ → ℕ → Bool) (p : List ℕ) (out : ℕ → Bool) : ℕ → Type 0 where
  free : (l : ℕ) → l < n → out l ≡ true → IsReached n stands p out l
  onward : (l m : ℕ) → IsReached n stands p out l → m < n → out m ≡ false → stands l (at p m) ≡ true
      → IsReached n stands p out m

-- p gives right block r to some left block
abbrev pub IsHeld : (n : ℕ) (p : List ℕ) (out : ℕ → Bool) → ℕ → Type 0
IsHeld n p out r = (l : ℕ) × (l < n) × (out l ≡ false) × (at p l ≡ r)

-- no chain from a left block that is left out ends at a right block that is free (there is no
-- augmenting path)
abbrev pub IsStuck : (n : ℕ) (stands : ℕ → ℕ → Bool) (p : List ℕ) (out : ℕ → Bool) → Type 0
IsStuck n stands p out = (l r : ℕ) → IsReached n stands p out l → r < rights_of n
    → stands l r ≡ true
    → IsHeld n p out r

-- ---- Over a perfect pairing of tight pairs

-- q gives the left blocks below k what p gives them
abbrev pub AgreeBelow : ℕ → List ℕ → List ℕ → Type 0
AgreeBelow k p q = (l : ℕ) → l < k → at q l ≡ at p l

-- a chain (an alternating path of tight pairs) leads from right block r to another, over left
-- blocks from k on: the left block that has a right block of the chain is tight with the next one
pub data HasChain (n k : ℕ) (tight : ℕ → ℕ → Bool) (p : List ℕ) (r : ℕ) : ℕ → Type 0 where
  here : HasChain n k tight p r r
  step : (l c : ℕ) → k ≤ l → l < n → HasChain n k tight p r (at p l) → tight l c ≡ true
      → HasChain n k tight p r c

-- some perfect pairing of tight pairs that agrees with p below k gives left block l the right block
-- r
abbrev pub Sends : (n k : ℕ) (tight : ℕ → ℕ → Bool) (p : List ℕ) → ℕ → ℕ → Type 0
Sends n k tight p l r = (q : List ℕ) × IsPerfect n tight q × AgreeBelow k p q × (at q l ≡ r)

-- a set of right blocks that no step leaves
abbrev pub IsClosed : (n : ℕ) (tight : ℕ → ℕ → Bool) (p : List ℕ) → (ℕ → Bool) → Type 0
IsClosed n tight p C = (l r : ℕ) → l < n → r < rights_of n → C (at p l) ≡ true → tight l r ≡ true
    → C r ≡ true

-- a set Y that has each right block that stands with any left block of X: N(X) lies in Y
abbrev pub IsShut : (n : ℕ) (stands : ℕ → ℕ → Bool) → (X Y : ℕ → Bool) → Type 0
IsShut n stands X Y = (l r : ℕ) → l < n → r < rights_of n → X l ≡ true → stands l r ≡ true
    → Y r ≡ true
