-- The blank is appended, and then the cell.
use Rattle.std.proofs.Common.{◌≡◌, string_bytes, codes, ◌∙◌}
use Rattle.report.specs.Mapping.{view_of, cell_of, right_in}
use Rattle.report.proofs.Lines.{appended}
use Rattle.report.proofs.sheet_map.Drawing.push_cell.Goals as goal

pub returns : goal.returns
returns c =
    let word = cell_of (view_of c.args.self.now) c.args.left c.args.right in
    let same : c.as_str.result.now ≡ word = c.as_str.ensures.value ∙ c.in_ok-cell.ensures in
    appended c.push_right.result (string_bytes c.args.text.now) (codes " ")
    (right_in c.args.width word) (string_bytes c.push_str.new.self)
    (string_bytes c.push_right.new.text) c.in_ok-push_str.ensures.bytes
    (rw same at c.push_right.ensures)
