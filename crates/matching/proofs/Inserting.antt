-- A set with one block inserted.
-- Idea: each member is the new block or was a member before.
use Rattle.std.proofs.Common.{◌≡◌, ℕ, ◌<◌, Bool, true, ◌&&◌, ◌||◌, ◌==◌, nat_lt}
use Rattle.std.proofs.Common.{arith}
use Rattle.std.proofs.lemmas.Bool.Decides.{nat_tests}
use Rattle.blockset.specs.declared.TheConstants.{SET_WIDTH}

-- a block that is inserted, told without the bound on blocks
pub inserted : (C D : ℕ → Bool) (c : ℕ) → c < SET_WIDTH
    → ((j : ℕ) → D j ≡ ((nat_lt j SET_WIDTH && j == c) || C j))
    → (j : ℕ) → D j ≡ (j == c || C j)
inserted C D c h is j = let e = is j in grind (arith, nat_tests)

module _ (C D : ℕ → Bool) (c : ℕ) (is : (j : ℕ) → D j ≡ (j == c || C j)) where
  pub new_in : D c ≡ true
  new_in = let e = is c in grind (arith, nat_tests)

  pub old_in : (j : ℕ) → C j ≡ true → D j ≡ true
  old_in j t = let e = is j in grind (arith, nat_tests)

  pub old_from : (j : ℕ) → D j ≡ true → (j ≡ c → ⊥) → C j ≡ true
  old_from j t ne = let e = is j in grind (arith, nat_tests)
