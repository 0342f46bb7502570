-- Taking the blocks of a set one at a time.
use Rattle.std.specs.Prelude.{◌≡◌, ℕ, ◌<◌, true, false, not, ◌&&◌, MatchOption, Option, ◌==◌}
use Rattle.blockset.specs.declared.BlockSet.{BlockSet}
use Rattle.blockset.specs.declared.TheConstants.{SET_WIDTH}
use Rattle.blockset.specs.Has.{has, IsEmpty}

-- the least block was taken out of a set, which kept the others
pub record IsLeastTaken (before : BlockSet) (block : ℕ) (after : BlockSet) : Type 0 where
  pub is_block : block < SET_WIDTH
  pub member : has before block ≡ true
  pub least : (j : ℕ) → j < block → has before j ≡ false
  pub others : (j : ℕ) → has after j ≡ (has before j && not (j == block))

-- the same of a call that gives no block where the set has none
abbrev pub TakesLeast : BlockSet → Option ℕ → BlockSet → Type 0
TakesLeast before block after =
    MatchOption block (IsEmpty before) (λ b. IsLeastTaken before b after)
