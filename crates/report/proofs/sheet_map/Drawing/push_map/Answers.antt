-- The line of the numbers, the rows and the legend are appended one after another, all in the width
-- of the longest cell.
use Rattle.std.proofs.Common.{◌≡◌, max, ◌++◌, string_bytes, ap, ◌∙◌, append_assoc}
use Rattle.report.specs.Mapping.{view_of, cell_of, column_width, head_line, table_rows, legend}
use Rattle.report.specs.Mapping.{map_text}
use Rattle.report.proofs.Lines.{written}
use Rattle.report.proofs.sheet_map.Drawing.push_map.Goals as goal

pub returns : goal.returns
returns c =
    let v = view_of c.args.self.now in
    let old = string_bytes c.args.text.now in
    let width = c.max-width.result in
    let heads = head_line v.size width in
    let rows = table_rows v.size (cell_of v) width v.size in
    let same : width ≡ column_width v.size (cell_of v) =
    c.max-width.ensures ∙ ap (λ k. max k 2) c.in_ok-rows_width.ensures in
    written c.push_str.result (string_bytes c.push_rows.new.text) (string_bytes c.push_str.new.self)
    legend (old ++ map_text v) c.push_str.ensures.bytes
    (λ e. e
    ∙ ap (λ t. t ++ legend)
    (c.in_ok-push_rows.ensures ∙ ap (λ t. t ++ rows) c.in_ok-push_heads.ensures)
    ∙ append_assoc (old ++ heads) rows legend ∙ append_assoc old heads (rows ++ legend)
    ∙ ap (λ k. old ++ (head_line v.size k ++ (table_rows v.size (cell_of v) k v.size ++ legend)))
    same)
