-- Rows of block sets: row l holds the right blocks that left block l may be paired with.
use Rattle.std.specs.Prelude.{ℕ, Bool, List, length, slice_index_or}
use Rattle.blockset.specs.declared.BlockSet.{BlockSet}
use Rattle.blockset.specs.Has.{no_blocks, has}
use Rattle.pairing.specs.Places.{rights_of}
use Rattle.pairing.specs.Grid.{IsPerfect}
use Rattle.pairing.specs.Optima.{perfects}

-- how many right blocks there are for the rows
abbrev pub rights_in : List BlockSet → ℕ
rights_in rows = rights_of (length rows)

-- row l holds right block r
abbrev pub holds : List BlockSet → ℕ → ℕ → Bool
holds rows l r = has (slice_index_or rows l no_blocks) r

-- p is a perfect pairing over the rows: each left block has a right block of its row, and none
-- comes twice
abbrev pub IsPerfectOver : List BlockSet → List ℕ → Type 0
IsPerfectOver rows p = IsPerfect (length rows) (holds rows) p

-- all perfect pairings over the rows, in dictionary order
abbrev pub pairings : List BlockSet → List (List ℕ)
pairings rows = perfects (length rows) (holds rows)
