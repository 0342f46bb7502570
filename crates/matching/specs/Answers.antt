-- What the calls answer and what they leave in the tables, in terms of the pairings over the rows.
use Rattle.std.specs.Prelude.{◌≡◌, ℕ, ◌+◌, ◌<◌, true, List, [], length, slice_index_or}
use Rattle.std.specs.Prelude.{if◌then◌else◌}
use Rattle.blockset.specs.declared.BlockSet.{BlockSet}
use Rattle.blockset.specs.Has.{has}
use Rattle.pairing.specs.Grid.{at}
use Rattle.pairing.specs.Largest.{IsLargest, HasNoPerfect}
use Rattle.pairing.specs.Optima.{has_pair}
use Rattle.matching.specs.declared.stepping.Step.{Step}
use Rattle.matching.specs.declared.stepping.Step.TheVariants.{Next, End}
use Rattle.matching.specs.declared.augmenting.Found.{Found}
use Rattle.matching.specs.declared.augmenting.Found.TheVariants.{Perfect, Short}
use Rattle.matching.specs.declared.augmenting.Shortfall.{Shortfall}
use Rattle.pairing.specs.Places.{place_of, rights_of}
use Rattle.pairing.specs.Rows.{holds, IsPerfectOver}

-- p is what stands at place i of the list
abbrev pub IsNth : List (List ℕ) → ℕ → List ℕ → Type 0
IsNth ps i p = (i < length ps) × (slice_index_or ps i [] ≡ p)

-- `before` stands at some place of the list; `after` is what stands at the next place, or that was
-- the last place and the pairing stays
abbrev pub Follows : List (List ℕ) → (before after : List ℕ) → Step → Type 0
Follows pairings before after Next = (i : ℕ) × IsNth pairings i before
    × IsNth pairings (i + 1) after
Follows pairings before after End = (i : ℕ) × IsNth pairings i before × (i + 1 ≡ length pairings)
    × (after ≡ before)

-- the table says at the place of each pair of n left blocks and their right blocks, by 1 or 0,
-- whether any of the pairings has it
abbrev pub AreMarksOf : ℕ → List (List ℕ) → List ℕ → Type 0
AreMarksOf n pairings table = (l r : ℕ) → l < n → r < rights_of n → at table (place_of n l r)
    ≡ (if has_pair l r pairings then 1 else 0)

-- the list is a largest pairing that leaves just the left blocks of `out` out, whose places are as
-- they were, and no pairing is perfect; the crowd set and its shortage say why
pub record FallsShort (rows : List BlockSet) (before after : List ℕ) (out : BlockSet)
    (s : Shortfall) : Type 0 where
  pub largest : IsLargest (length rows) (holds rows) after (has out)
  pub inside : (l : ℕ) → has out l ≡ true → l < length rows
  pub kept : (l : ℕ) → l < length rows → has out l ≡ true → at after l ≡ at before l
  pub unpaired : HasNoPerfect (length rows) (holds rows) s.crowd s.short

-- the list is a perfect pairing, or else a largest one
abbrev pub PairsMost : List BlockSet → List ℕ → List ℕ → Found → Type 0
PairsMost rows before after Perfect = IsPerfectOver rows after
PairsMost rows before after (Short out s) = FallsShort rows before after out s
