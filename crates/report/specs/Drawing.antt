-- The map of what a file states, and what drawing a file answers.
use Rattle.std.specs.Prelude.{◌≡◌, ℕ, List, [], ◌∷◌, ◌++◌, ℤ, Option, ◌==◌}
use Rattle.pairing.specs.Grid.{Grid, at, total}
use Rattle.pairing.specs.Largest.{HasNoPerfect}
use Rattle.pairing.specs.Optima.{optima, is_in_optimum}
use Rattle.matching.specs.declared.augmenting.Shortfall.{Shortfall}
use Rattle.sheet.specs.declared.fault.Cause.TheVariants.{NoPerfectPairing}
use Rattle.orderfile.specs.Faults.{FirstFault}
use Rattle.orderfile.specs.Format.{States}
use Rattle.orderfile.specs.Loading.{stated_cost, stated_grid}
use Rattle.refusal_words.specs.Refusing.{unmatched_lines}
use Rattle.refusal_words.specs.Words.{explanation}
use Rattle.report.specs.Describing.{IsReport}
use Rattle.report.specs.Listing.{total_line}
use Rattle.report.specs.Mapping.{SheetView, map_text}

-- what a map shows of a grid whose pairs stand at these costs, where p is the first optimum pairing
abbrev pub grid_view : (cost : ℕ → ℕ → Option ℤ) → Grid → List ℕ → SheetView
grid_view cost g p = record {
  size = g.size;
  cost = cost;
  first = λ l r. at p l == r;
  occurs = is_in_optimum g;
}

-- what stands in place of the map of a grid with no perfect pairing, by its crowd set and shortage
abbrev pub no_map : Shortfall → List ℕ
no_map = unmatched_lines NoPerfectPairing

-- the text is the map of a grid, over the list of its optimum pairings: what the first of them
-- costs, and then the costs with the marks; or in words that there is none, with the crowd set of
-- the grid and its shortage
abbrev pub IsMapOver : (cost : ℕ → ℕ → Option ℤ) → Grid → List (List ℕ) → List ℕ → Type 0
IsMapOver cost g [] text =
    (s : Shortfall) × HasNoPerfect g.size g.stands s.crowd s.short × (text ≡ no_map s)
IsMapOver cost g (p ∷ ps) text = text ≡ total_line (total g p) ++ map_text (grid_view cost g p)

abbrev pub IsMap : (cost : ℕ → ℕ → Option ℤ) → Grid → List ℕ → Type 0
IsMap cost g text = IsMapOver cost g (optima g) text

-- the text is the map of what the file states, or tells its first fault in words
abbrev pub Draws : (file text : List ℕ) → Type 0
Draws file = IsReport (States file) (FirstFault file)
    (λ order. IsMap (stated_cost order.pairs) (stated_grid order)) explanation
