-- A set of one block.
-- Idea: its test is that of one number, so all is told by that number.
use Rattle.std.proofs.Common.{◌≡◌, ℕ, ◌<◌, true, false, ◌&&◌, ◌==◌, nat_lt, ap, ◌∙◌, arith}
use Rattle.std.proofs.lemmas.Bool.Decides.{nat_tests}
use Rattle.std.proofs.lemmas.Bool.{both_ways}
use Rattle.blockset.specs.declared.TheConstants.{SET_WIDTH}
use Rattle.blockset.specs.declared.BlockSet.{BlockSet}
use Rattle.blockset.specs.Has.{has}
use Rattle.matching.specs.Exchange.{without}

pub record IsAlone (s : BlockSet) (l : ℕ) : Type 0 where
  pub small : l < SET_WIDTH
  pub is : (j : ℕ) → has s j ≡ (nat_lt j SET_WIDTH && j == l)

module _ {s : BlockSet} {l : ℕ} (a : IsAlone s l) where
  pub one_in : has s l ≡ true
  one_in = let e = a.is l in let low = a.small in grind (arith, nat_tests)

  pub one_is : (j : ℕ) → has s j ≡ true → j ≡ l
  one_is j t = let e = a.is j in grind (arith, nat_tests)

  pub one_not : (j : ℕ) → (j ≡ l → ⊥) → has s j ≡ false
  one_not j ne = let e = a.is j in grind (arith, nat_tests)

  pub one_other : (j : ℕ) → has s j ≡ false → j ≡ l → ⊥
  one_other j f e = both_ways (has s j) f (ap (has s) e ∙ one_in)

  -- without it none is left
  pub none_left : (k : ℕ) → has s k ≡ true → (m : ℕ) → without (has s) k m ≡ false
  none_left k t m = let d = one_is k t in let e = a.is m in grind (arith, nat_tests)
