-- How many right blocks there are, and where a pair lies in a table that has a place for each pair
-- of a left and a right block.
use Rattle.std.specs.Prelude.{ℕ, ◌+◌, ◌*◌}

-- how many right blocks face n left blocks: as many
abbrev pub rights_of : ℕ → ℕ
rights_of n = n

-- the place of the pair of left block l and right block r
abbrev pub place_of : ℕ → ℕ → ℕ → ℕ
place_of n l r = l * rights_of n + r

-- how many places there are
abbrev pub places_of : ℕ → ℕ
places_of n = n * rights_of n
