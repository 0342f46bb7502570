-- When the tables that a call is handed fit together, and which cause it names where they do not.
use Rattle.std.specs.Prelude.{◌≡◌, ℕ, ◌<◌, ◌≤◌, List, length, codes}
use Rattle.blockset.specs.declared.TheConstants.{MOST_BLOCKS}
use Rattle.blockset.specs.declared.BlockSet.{BlockSet}
use Rattle.matching.specs.declared.fitting.Unfit.{Unfit}
use Rattle.matching.specs.declared.fitting.Unfit.TheVariants.{Size, Length, Pairing}
use Rattle.pairing.specs.Rows.{IsPerfectOver}

-- at most 64 rows, and a perfect pairing over them
pub record FitsRows (rows : List BlockSet) (p : List ℕ) : Type 0 where
  pub small : length rows ≤ MOST_BLOCKS
  pub sized : length p ≡ length rows
  pub paired : IsPerfectOver rows p

-- the cause is the first that applies: more than 64 rows, a wrong length, a list that is no perfect
-- pairing
abbrev pub IsFirstCause : (n : ℕ) (lengths paired : Type 0) → Unfit → Type 0
IsFirstCause n lengths paired Size = MOST_BLOCKS < n
IsFirstCause n lengths paired Length = (n ≤ MOST_BLOCKS) × (lengths → ⊥)
IsFirstCause n lengths paired Pairing = (n ≤ MOST_BLOCKS) × lengths × (paired → ⊥)

-- why a list does not fit
abbrev pub IsUnfitBy : List BlockSet → List ℕ → Unfit → Type 0
IsUnfitBy rows p = IsFirstCause (length rows) (length p ≡ length rows) (IsPerfectOver rows p)

-- what a cause displays itself as
abbrev pub unfit_text : Unfit → List ℕ
unfit_text Size = codes "more than 64 rows"
unfit_text Length = codes "a table of the wrong length"
unfit_text Pairing = codes "no perfect pairing over the rows"
