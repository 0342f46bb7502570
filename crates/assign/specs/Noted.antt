-- What is noted of the free right blocks that a left block stands with, so that most turns of a
-- search need not look at all of them.
use Rattle.std.specs.Prelude.{◌≡◌, ◌≢◌, ℕ, ◌<◌, Bool, true, not, ◌&&◌, List, length, ℤ, ◌+ℤ◌, ◌≤ℤ◌}
use Rattle.cost.specs.declared.Cost.{Ghosts}
use Rattle.blockset.specs.declared.BlockSet.{BlockSet}
use Rattle.pairing.specs.Grid.{at}
use Rattle.pairing.specs.Rows.{holds}
use Rattle.assign.specs.declared.tree.Noted.{Noted}
use Rattle.assign.specs.Weighed.{cost_weight}

-- Of the right blocks of a set, at these prices and costs, none is nearer than `near`, if that is
-- one of them; and none of the others is nearer than `next`, if that is one. It stays so where the
-- set gets smaller.
pub record IsNoted (set : ℕ → Bool) (v cost : ℕ → ℤ) (near next : ℕ) : Type 0 where
  pub first : set near ≡ true → (c : ℕ) → set c ≡ true
      → (cost near +ℤ v c) ≤ℤ (cost c +ℤ v near)
  pub second : set next ≡ true → (c : ℕ) → set c ≡ true → c ≢ near
      → (cost next +ℤ v c) ≤ℤ (cost c +ℤ v next)

-- the right blocks of a set that nobody has
abbrev pub free_in : (set held : ℕ → Bool) → ℕ → Bool
free_in set held c = set c && not (held c)

-- what is noted of each left block is so of the free right blocks that it stands with
abbrev pub AreNoted : {K : Type 0} (kind : Ghosts K) (rows : List BlockSet) (costs : List K)
    (held : ℕ → Bool) (v : ℕ → ℤ) → Noted → Type 0
AreNoted kind rows costs held v noted = (l : ℕ) → l < length rows
    → IsNoted (free_in (holds rows l) held) v (cost_weight kind (length rows) costs l)
    (at noted.near l) (at noted.next l)
