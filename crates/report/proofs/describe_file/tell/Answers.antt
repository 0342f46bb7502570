-- The lines of the pairs stand between the first line and the last one.
use Rattle.std.proofs.Common.{[], ◌++◌, string_bytes, codes, decimal, ap, ◌∙◌}
use Rattle.report.specs.Text.{all_lines}
use Rattle.report.proofs.Lines.{enclosed}
use Rattle.report.proofs.describe_file.tell.Goals as goal

pub returns : goal.returns
returns c =
    let n = c.args.loaded.now.sheet.size in
    let text = string_bytes c.push_rows.new.text in
    let head = codes "size " ++ (decimal n ++ codes "\n") in
    let lines = all_lines n c.args.loaded.now.costs.items c.args.loaded.now.standing.items n in
    enclosed [] text (string_bytes c.push_str.new.self) head lines (codes "end\n")
    ((rw (c.as_slice-costs.ensures.value, c.as_slice-standing.ensures.value)
    at c.in_ok-push_rows.ensures)
    ∙ ap (λ t. t ++ lines) (c.in_ok-text.ensures.ok
    ∙ ap (λ k. codes "size " ++ (decimal k ++ codes "\n")) c.size-n.ensures.value))
    c.in_ok-push_str.ensures.bytes
