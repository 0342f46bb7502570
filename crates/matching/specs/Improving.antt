-- One step towards the first or the next pairing: what a pairing is made into.
use Rattle.std.specs.Prelude.{◌≡◌, ℕ, ◌<◌, ◌≤◌, ◌⊎◌, Bool, true, List, length}
use Rattle.blockset.specs.declared.BlockSet.{BlockSet}
use Rattle.pairing.specs.Grid.{at}
use Rattle.pairing.specs.Chains.{AgreeBelow}
use Rattle.pairing.specs.Optima.{IsBefore}
use Rattle.pairing.specs.Rows.{holds, IsPerfectOver}

-- `after` is a pairing that agrees with `before` below l, and has the least right block from floor
-- on that such a pairing can have at l
pub record IsImproved (rows : List BlockSet) (l floor : ℕ) (before after : List ℕ) : Type 0 where
  pub pairs : IsPerfectOver rows after
  pub kept : AgreeBelow l before after
  pub above : floor ≤ at after l
  pub least : (q : List ℕ) → IsPerfectOver rows q → AgreeBelow l before q → floor ≤ at q l
      → at after l ≤ at q l

-- no pairing that agrees with `before` below l has a right block from floor on at l; nothing is
-- changed
pub record IsUnimproved (rows : List BlockSet) (l floor : ℕ) (before after : List ℕ) : Type 0 where
  pub same : after ≡ before
  pub none : (q : List ℕ) → IsPerfectOver rows q → AgreeBelow l before q → at q l < floor

-- `after` is the first of the pairings that agree with `before` below l
pub record IsFirstFrom (rows : List BlockSet) (l : ℕ) (before after : List ℕ) : Type 0 where
  pub pairs : IsPerfectOver rows after
  pub kept : AgreeBelow l before after
  pub first : (q : List ℕ) → IsPerfectOver rows q → AgreeBelow l before q
      → (q ≡ after) ⊎ IsBefore after q

-- the left blocks from k on may be paired with right blocks of `wanted` only
abbrev pub HasWantedFrom : ℕ → List BlockSet → (wanted : ℕ → Bool) → Type 0
HasWantedFrom k rows wanted = (m c : ℕ) → k ≤ m → m < length rows → holds rows m c ≡ true
    → wanted c ≡ true
