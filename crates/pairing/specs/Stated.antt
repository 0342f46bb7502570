-- The grid that pair tables state at a cost kind: which pairs stand, and what those cost.
use Rattle.std.specs.Prelude.{ℕ, Bool, ◌==◌, List, [], map, ℤ, slice_index, slice_index_or}
use Rattle.cost.specs.declared.Cost.{Ghosts}
use Rattle.pairing.specs.Places.{place_of}
use Rattle.pairing.specs.Grid.{Grid}

-- a standing byte says that its pair stands: 1 stands, 0 is absent
abbrev pub says_stands : ℕ → Bool
says_stands byte = byte == 1

-- the standing byte of a pair
abbrev pub byte_of : ℕ → List ℕ → ℕ → ℕ → ℕ
byte_of n standing l r = slice_index standing (place_of n l r)

module _ {K : Type 0} (kind : Ghosts K) where
  -- the columns of the value at a place of a table; none past its end
  abbrev pub columns_at : List K → ℕ → List ℤ
  columns_at table k = slice_index_or (map kind.meaning table) k []

  -- the grid that the pair tables of n blocks a plane state
  abbrev pub grid_of : ℕ → List K → List ℕ → Grid
  grid_of n costs standing = record {
    size = n;
    columns = kind.columns;
    stands = λ l r. says_stands (byte_of n standing l r);
    cost = λ l r. columns_at costs (place_of n l r);
  }
