-- What is said of the pairs that stand can be said by the rows that were made from a table.
-- Idea: row and table agree on the blocks there are, and nothing more is ever asked.
use Rattle.std.proofs.Common.{ℕ, Bool, ◌&&◌, List, ap, ◌∙◌}
use Rattle.std.proofs.lemmas.Bool.{lt-ltb}
use Rattle.blockset.specs.declared.BlockSet.{BlockSet}
use Rattle.pairing.specs.Largest.{HasNoPerfect}
use Rattle.pairing.specs.Inside.{AreAlike}
use Rattle.pairing.specs.Rows.{holds}
use Rattle.pairing.proofs.Alike.{unpaired_like}
use Rattle.tables.specs.PairRows.{AreStandingRows}

module _ (n : ℕ) (stands : ℕ → ℕ → Bool) (rows : List BlockSet)
    (made : AreStandingRows n stands rows) where
  pub rows_alike : AreAlike n (holds rows) stands
  rows_alike l r i j = made l r i ∙ ap (λ b. b && stands l r) (lt-ltb r n j)

  pub unpaired_rows : (crowd short : ℕ) → HasNoPerfect n (holds rows) crowd short
      → HasNoPerfect n stands crowd short
  unpaired_rows = unpaired_like n (holds rows) stands rows_alike
