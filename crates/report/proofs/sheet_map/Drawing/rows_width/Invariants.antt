-- The width is that of the longest cell of the rows up to here.
use Rattle.std.proofs.Common.{◌≡◌}
use Rattle.report.specs.Mapping.{view_of, cell_of, rows_width}
use Rattle.report.proofs.sheet_map.Drawing.rows_width.Given as goal

abbrev pub invariant-loop-left : goal.invariant-loop-left
invariant-loop-left l = l.width ≡ rows_width l.self.size (cell_of (view_of l.self)) l.left
