-- A sheet as a table for people: a row of cells for each left block, with marks at the pairs of
-- optimum pairings.
use Rattle.std.specs.Prelude.{ℕ, zero, suc, ◌-◌, max, Bool, true, false, List, [], ◌++◌, replicate}
use Rattle.std.specs.Prelude.{length, ℤ, codes, decimal, Some, None, Option, ◌==◌}
use Rattle.std.specs.Fmt.{signed_decimal}
use Rattle.pairing.specs.Grid.{at}
use Rattle.pairing.specs.Places.{place_of}
use Rattle.refusal_words.specs.Lines.{up_to}
use Rattle.report.specs.Text.{pair_cost}
use Rattle.report.specs.declared.sheet_map.Drawing.{Drawing}

-- what a map shows: the cost at which a pair stands, whether it is of the first optimum pairing,
-- and whether it is of any
pub record SheetView : Type 0 where
  pub size : ℕ
  pub cost : ℕ → ℕ → Option ℤ
  pub first : ℕ → ℕ → Bool
  pub occurs : ℕ → ℕ → Bool

-- what the tables of a drawing say
abbrev pub view_of : Drawing → SheetView
view_of d = record {
  size = d.size;
  cost = pair_cost d.size d.costs.now d.standing.now;
  first = λ l r. at d.partners.now l == r;
  occurs = λ l r. at d.marks.now (place_of d.size l r) == 1;
}

-- ---- Cells

-- a pair of the first optimum pairing, a pair of another one, and any other
abbrev pub mark_text : (first occurs : Bool) → List ℕ
mark_text true occurs = codes "*"
mark_text false true = codes "+"
mark_text false false = []

-- the cell of a pair: its cost behind its mark, or `.` where it is absent
abbrev pub cell_text : (first occurs : Bool) → Option ℤ → List ℕ
cell_text first occurs None = codes "."
cell_text first occurs (Some cost) = mark_text first occurs ++ signed_decimal cost

abbrev pub cell_of : SheetView → ℕ → ℕ → List ℕ
cell_of v l r = cell_text (v.first l r) (v.occurs l r) (v.cost l r)

-- a text behind as many blanks, of code 32, as it falls short of a width
abbrev pub right_in : ℕ → List ℕ → List ℕ
right_in width text = replicate (width - length text) 32 ++ text

-- ---- Tables of n rows of n cells

-- the greatest of f 0, f 1 and so on below k
abbrev pub most : ℕ → (ℕ → ℕ) → ℕ
most zero f = 0
most (suc k) f = max (most k f) (f k)

-- the length of the longest cell of row l up to column k, and of the first k rows
abbrev pub row_width : (cell : ℕ → ℕ → List ℕ) (l k : ℕ) → ℕ
row_width cell l k = most k (λ r. length (cell l r))

abbrev pub rows_width : (n : ℕ) (cell : ℕ → ℕ → List ℕ) (k : ℕ) → ℕ
rows_width n cell k = most k (λ l. row_width cell l n)

-- a column is as wide as the longest cell, and has room for a block number
abbrev pub column_width : (n : ℕ) (cell : ℕ → ℕ → List ℕ) → ℕ
column_width n cell = max (rows_width n cell n) 2

-- the line above the rows: the numbers of the right blocks
abbrev pub head_line : (n width : ℕ) → List ℕ
head_line n width = codes "  " ++ (up_to n (λ r. codes " " ++ right_in width (decimal r))
    ++ codes "\n")

-- a row: the number of its left block, and the cell of each right block
abbrev pub table_row : (n : ℕ) (cell : ℕ → ℕ → List ℕ) (width l : ℕ) → List ℕ
table_row n cell width l = right_in 2 (decimal l)
    ++ (up_to n (λ r. codes " " ++ right_in width (cell l r)) ++ codes "\n")

abbrev pub table_rows : (n : ℕ) (cell : ℕ → ℕ → List ℕ) (width k : ℕ) → List ℕ
table_rows n cell width k = up_to k (table_row n cell width)

-- ---- The map

abbrev pub legend : List ℕ
legend = codes "* first optimum pairing, + another optimum pairing, . absent\n"

-- a table of n rows of n cells, between the line of the numbers and what the marks mean
abbrev pub map_lines : (n : ℕ) (cell : ℕ → ℕ → List ℕ) → List ℕ
map_lines n cell = head_line n (column_width n cell)
    ++ (table_rows n cell (column_width n cell) n ++ legend)

abbrev pub map_text : SheetView → List ℕ
map_text v = map_lines v.size (cell_of v)
