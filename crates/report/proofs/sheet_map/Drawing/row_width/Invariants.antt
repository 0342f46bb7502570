-- The width is that of the longest cell up to here.
use Rattle.std.proofs.Common.{◌≡◌}
use Rattle.report.specs.Mapping.{view_of, cell_of, row_width}
use Rattle.report.proofs.sheet_map.Drawing.row_width.Given as goal

abbrev pub invariant-loop-right : goal.invariant-loop-right
invariant-loop-right l = l.width ≡ row_width (cell_of (view_of l.self)) l.left l.right
