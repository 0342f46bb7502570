-- Each step appends a cell, and the row ends behind the last one.
use Rattle.std.proofs.Common.{◌≡◌, ℕ, ◌++◌, string_bytes, codes, decimal, ap, ◌∙◌, arith}
use Rattle.refusal_words.specs.Lines.{up_to}
use Rattle.report.specs.Mapping.{view_of, cell_of, right_in, table_row}
use Rattle.report.proofs.Lines.{written, up_to_more, enclosed}
use Rattle.report.proofs.sheet_map.Drawing.push_row.Goals as goal

pub loop-right-preserved : goal.loop-right-preserved
loop-right-preserved c = up_to_more (string_bytes c.push_number.new.text)
    (string_bytes c.loop-right.text) (string_bytes c.push_cell.new.text) c.loop-right.right
    (λ r. codes " " ++ right_in c.args.width (cell_of (view_of c.args.self.now) c.args.left r))
    c.loop-right.invariant c.in_ok-push_cell.ensures

pub returns : goal.returns
returns c =
    let v = view_of c.args.self.now in
    let old = string_bytes c.args.text.now in
    let text = string_bytes c.loop-right.text in
    let text' = string_bytes c.push_str.new.self in
    let head = right_in 2 (decimal c.args.left) in
    let cells = λ (k : ℕ). up_to k
    (λ r. codes " " ++ right_in c.args.width (cell_of v c.args.left r)) in
    let all : c.loop-right.right ≡ v.size = omega arith in
    written c.push_str.result text text' (codes "\n")
    (old ++ table_row v.size (cell_of v) c.args.width c.args.left) c.push_str.ensures.bytes
    (enclosed old text text' head (cells v.size) (codes "\n")
    (c.loop-right.invariant
    ∙ ap (λ t. t ++ cells c.loop-right.right) c.in_ok-push_number.ensures
    ∙ ap (λ k. (old ++ head) ++ cells k) all))
