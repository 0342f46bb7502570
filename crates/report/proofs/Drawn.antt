-- The map of settled tables, and of the order that they were loaded from.
-- Idea: a map is made of its cells, and a cell of what is told of its pair. The marks of a table
-- tell the pairs that some optimum pairing has, and the loaded costs are the stated ones. Grids
-- that are the same inside have the same crowd set, so what is told of none is the same too.
use Rattle.std.proofs.Common.{◌≡◌, ℕ, zero, suc, ◌<◌, max, Bool, true, false, ◌&&◌, List, [], ◌∷◌}
use Rattle.std.proofs.Common.{◌++◌, length, ℤ, Option, codes, decimal, sym, refl, ap, ap₂}
use Rattle.std.proofs.Common.{◌∙◌, subst, arith}
use Rattle.std.specs.Prelude.{◌==◌, if◌then◌else◌}
use Rattle.std.proofs.lemmas.Bool.{lt-ltb}
use Rattle.cost.specs.declared.plain_kind.Plain.{Plain}
use Rattle.pairing.specs.Grid.{Grid, at, total}
use Rattle.pairing.specs.Places.{place_of}
use Rattle.pairing.specs.Largest.{HasNoPerfect}
use Rattle.pairing.specs.Optima.{optima, has_pair, is_in_optimum}
use Rattle.matching.specs.Answers.{IsNth}
use Rattle.matching.proofs.Nth.{nth_optimum}
use Rattle.tables.specs.Lent.{Lent, grid}
use Rattle.sheet.specs.Walking.{AreMarks}
use Rattle.sheet.specs.Size.{size_of}
use Rattle.orderfile.specs.Format.{StatedOrder}
use Rattle.orderfile.specs.Loading.{plain_kind, plain_grid, stated_cost, stated_grid}
use Rattle.orderfile.proofs.LoadedGrid.{loaded_alike}
use Rattle.report.specs.Afresh.{IsLoaded}
use Rattle.report.specs.Text.{pair_cost}
use Rattle.report.specs.Listing.{total_line}
use Rattle.report.specs.Mapping.{SheetView, cell_text, cell_of, right_in, most, row_width}
use Rattle.report.specs.Mapping.{column_width, head_line, table_row, table_rows, legend}
use Rattle.report.specs.Mapping.{map_lines, map_text}
use Rattle.report.specs.Drawing.{grid_view, IsMapOver, IsMap}
use Rattle.report.specs.declared.fresh_tables.LoadedSheet.{LoadedSheet}
use Rattle.report.proofs.Described.{cost_shown}
use Rattle.report.proofs.Lines.{up_same}

-- ---- A map is made of its cells

most_same : (k : ℕ) (f g : ℕ → ℕ) → ((i : ℕ) → i < k → f i ≡ g i) → most k f ≡ most k g
most_same zero f g e = refl
most_same (suc k) f g e =
    ap₂ max (most_same k f g (λ i h. e i (omega arith))) (e k (omega arith))

lines_same : (n : ℕ) (cell cell' : ℕ → ℕ → List ℕ)
    → ((l r : ℕ) → l < n → r < n → cell l r ≡ cell' l r) → map_lines n cell ≡ map_lines n cell'
lines_same n cell cell' same =
    let width = column_width n cell' in
    ap (λ k. head_line n k ++ (table_rows n cell k n ++ legend))
    (ap (λ k. max k 2) (most_same n (λ l. row_width cell l n) (λ l. row_width cell' l n)
    (λ l i. most_same n (λ r. length (cell l r)) (λ r. length (cell' l r))
    (λ r j. ap length (same l r i j)))))
    ∙ ap (λ t. head_line n width ++ (t ++ legend))
    (up_same n (table_row n cell width) (table_row n cell' width)
    (λ l i. ap (λ t. right_in 2 (decimal l) ++ (t ++ codes "\n"))
    (up_same n (λ r. codes " " ++ right_in width (cell l r))
    (λ r. codes " " ++ right_in width (cell' l r))
    (λ r j. ap (λ t. codes " " ++ right_in width t) (same l r i j)))))

-- ---- Views of a grid

map_first : (cost : ℕ → ℕ → Option ℤ) (g : Grid) (ps : List (List ℕ)) (p text : List ℕ)
    → IsNth ps 0 p → text ≡ total_line (total g p) ++ map_text (grid_view cost g p)
    → IsMapOver cost g ps text
map_first cost g [] p text first e = absurd (omega (arith, first.0))
map_first cost g (q ∷ qs) p text first e =
    e ∙ ap (λ x. total_line (total g x) ++ map_text (grid_view cost g x)) (sym first.1)

over_same : (cost cost' : ℕ → ℕ → Option ℤ) (g h : Grid) (ps : List (List ℕ)) (text : List ℕ)
    → ((p : List ℕ) → IsNth ps 0 p → total g p ≡ total h p)
    → ((p : List ℕ) → map_text (grid_view cost g p) ≡ map_text (grid_view cost' h p))
    → ((crowd short : ℕ)
    → HasNoPerfect g.size g.stands crowd short → HasNoPerfect h.size h.stands crowd short)
    → IsMapOver cost g ps text → IsMapOver cost' h ps text
over_same cost cost' g h [] text totals maps crowds is =
    (is.0, crowds is.0.crowd is.0.short is.1, is.2)
over_same cost cost' g h (p ∷ ps) text totals maps crowds is =
    is ∙ ap₂ (λ t m. total_line t ++ m) (totals p (omega arith, refl)) (maps p)

-- ---- Settled tables

is_one : (b : Bool) → (if b then 1 else 0) == 1 ≡ b
is_one true = refl
is_one false = refl

module _ (t : Lent Plain) (marks : List ℕ) where
  -- what a drawing of the tables with these marks shows
  abbrev pub tables_view : SheetView
  tables_view = record {
    size = t.size;
    cost = pair_cost t.size t.costs t.standing;
    first = λ l r. at t.partners l == r;
    occurs = λ l r. at marks (place_of t.size l r) == 1;
  }

  occurs_marked : AreMarks plain_kind t marks → (l r : ℕ) → l < t.size → r < t.size
      → tables_view.occurs l r ≡ is_in_optimum (grid plain_kind t) l r
  occurs_marked m l r i j =
      let has = has_pair l r (optima (grid plain_kind t)) in
      ap (λ k. k == 1) (m.marks l r i j) ∙ is_one has
      ∙ ap (λ b. b && has) (sym (lt-ltb l t.size i))

  -- it is the map of the grid in them, if the partners are the first optimum pairing
  pub drawn : AreMarks plain_kind t marks → (text : List ℕ)
      → IsNth (optima (grid plain_kind t)) 0 t.partners
      → text ≡ total_line (total (grid plain_kind t) t.partners) ++ map_text tables_view
      → IsMap (pair_cost t.size t.costs t.standing) (grid plain_kind t) text
  drawn m text first e =
      let g = grid plain_kind t in
      let cost = pair_cost t.size t.costs t.standing in
      map_first cost g (optima g) t.partners text first
      (e ∙ ap (λ x. total_line (total g t.partners) ++ x)
      (lines_same t.size (cell_of tables_view) (cell_of (grid_view cost g t.partners))
      (λ l r i j. ap (λ o. cell_text (at t.partners l == r) o (cost l r))
      (occurs_marked m l r i j))))

-- ---- The order that was loaded

-- the map of a loaded sheet is that of the order
pub map_loaded : {S : StatedOrder → Type 0} {sheet : LoadedSheet} (loaded : IsLoaded S sheet)
    (text : List ℕ)
    → IsMap (pair_cost (size_of sheet.sheet) sheet.costs.items sheet.standing.items)
    (plain_grid (size_of sheet.sheet) sheet.costs.items sheet.standing.items) text
    → IsMap (stated_cost loaded.order.pairs) (stated_grid loaded.order) text
map_loaded {sheet = sheet} loaded text map =
    let costs = sheet.costs.items in
    let standing = sheet.standing.items in
    let order = loaded.order in
    let n = order.size in
    let cost = pair_cost n costs standing in
    let stated = stated_cost order.pairs in
    let g = plain_grid n costs standing in
    let h = stated_grid order in
    let alike = loaded_alike order _ costs standing loaded.accepted in
    subst (λ (ps : List (List ℕ)). IsMapOver stated h ps text) alike.optima
    (over_same cost stated g h (optima g) text
    (λ p i. alike.totals p (nth_optimum g 0 p i).perfect)
    (λ p. lines_same n (cell_of (grid_view cost g p)) (cell_of (grid_view stated h p))
    (λ l m i j. ap₂ (cell_text (at p l == m)) (alike.is_marked l m)
    (cost_shown order costs standing loaded.accepted.shows l m i j)))
    (λ crowd short u. (alike.unpaired crowd short).0 u)
    (subst (λ (k : ℕ). IsMap (pair_cost k costs standing) (plain_grid k costs standing) text)
    loaded.size map))
