-- What a set of blocks holds.
use Rattle.std.specs.Prelude.{◌≡◌, ℕ, ◌<◌, Bool, true, false, ◌&&◌, nat_lt}
use Rattle.blockset.specs.Sets.{bit}
use Rattle.blockset.specs.declared.BlockSet.{BlockSet}
use Rattle.blockset.specs.declared.TheConstants.{SET_WIDTH}

-- the set without blocks
abbrev pub no_blocks : BlockSet
no_blocks = record { 0 = 0 }

-- block j is in the set: it is one of the blocks there are, and its bit is set
unfoldable pub has : BlockSet → ℕ → Bool
has s j = nat_lt j SET_WIDTH && bit s.0 j

-- no block is in the set
abbrev pub IsEmpty : BlockSet → Type 0
IsEmpty s = (j : ℕ) → has s j ≡ false

-- the block is the least one in the set
abbrev pub IsLeast : BlockSet → ℕ → Type 0
IsLeast s block = (block < SET_WIDTH) × (has s block ≡ true)
    × ((j : ℕ) → j < block → has s j ≡ false)
