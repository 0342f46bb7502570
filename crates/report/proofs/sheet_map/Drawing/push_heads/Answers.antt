-- Each step appends a blank and a number, and the line ends behind the last one.
use Rattle.std.proofs.Common.{◌≡◌, ℕ, ◌++◌, string_bytes, codes, decimal, ap, ◌∙◌}
use Rattle.std.proofs.Common.{append_assoc, arith}
use Rattle.refusal_words.specs.Lines.{up_to}
use Rattle.report.specs.Mapping.{right_in, head_line}
use Rattle.report.proofs.Lines.{written, up_to_more, enclosed}
use Rattle.report.proofs.sheet_map.Drawing.push_heads.Goals as goal

pub loop-right-preserved : goal.loop-right-preserved
loop-right-preserved c =
    let text = string_bytes c.loop-right.text in
    let number = right_in c.args.width (decimal c.loop-right.right) in
    up_to_more (string_bytes c.push_str.new.self) text (string_bytes c.push_number.new.text)
    c.loop-right.right (λ r. codes " " ++ right_in c.args.width (decimal r))
    c.loop-right.invariant
    (c.in_ok-push_number.ensures ∙ ap (λ t. t ++ number) c.in_ok-push_str-2.ensures.bytes
    ∙ append_assoc text (codes " ") number)

pub returns : goal.returns
returns c =
    let n = c.args.self.now.size in
    let old = string_bytes c.args.text.now in
    let text = string_bytes c.loop-right.text in
    let text' = string_bytes c.push_str-2.new.self in
    let numbers = λ (k : ℕ). up_to k (λ r. codes " " ++ right_in c.args.width (decimal r)) in
    let all : c.loop-right.right ≡ n = omega arith in
    written c.push_str-2.result text text' (codes "\n") (old ++ head_line n c.args.width)
    c.push_str-2.ensures.bytes
    (enclosed old text text' (codes "  ") (numbers n) (codes "\n")
    (c.loop-right.invariant
    ∙ ap (λ t. t ++ numbers c.loop-right.right) c.in_ok-push_str.ensures.bytes
    ∙ ap (λ k. (old ++ codes "  ") ++ numbers k) all))
