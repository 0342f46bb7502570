-- The text has the rows up to here.
use Rattle.std.proofs.Common.{◌≡◌, ◌++◌, string_bytes}
use Rattle.report.specs.Mapping.{view_of, cell_of, table_rows}
use Rattle.report.proofs.sheet_map.Drawing.push_rows.Given as goal

abbrev pub invariant-loop-left : goal.invariant-loop-left
invariant-loop-left l = string_bytes l.text ≡ string_bytes l.initial.text
    ++ table_rows l.self.size (cell_of (view_of l.self)) l.width l.left
