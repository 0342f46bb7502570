-- Reading answers exactly where the pair stands, and then its line is appended.
use Rattle.std.proofs.Common.{◌≡◌, ◌++◌, Some, None, string_bytes, sym, ap}
use Rattle.std.proofs.Common.{◌∙◌, append-nil, w64, SFits, rules}
use Rattle.std.proofs.lemmas.Int.{to_z-of_z}
use Rattle.std.specs.Option.{option_map}
use Rattle.orderfile.specs.Loading.{plain_cell}
use Rattle.report.specs.Text.{pair_line}
use Rattle.report.proofs.describe_file.push_pair.Goals as goal

pub returns-in_ok-write : goal.returns-in_ok-write
returns-in_ok-write c =
    let n = c.args.sheet.now.size in
    let l = c.args.left in
    let r = c.args.right in
    let z = c.in-Ok.cost.0 in
    let fits : SFits w64 z = search rules in
    c.in_ok-write.ensures.bytes
    ∙ ap (λ x. string_bytes c.args.text.now ++ pair_line l r (Some x)) (to_z-of_z w64 z fits)
    ∙ ap (λ o. string_bytes c.args.text.now ++ pair_line l r (option_map (λ p. p.0) o))
    (sym c.in-Ok.ensures.cell)

pub returns-in_default : goal.returns-in_default
returns-in_default c =
    let n = c.args.sheet.now.size in
    let l = c.args.left in
    let r = c.args.right in
    let none : plain_cell n c.args.costs.now c.args.standing.now l r ≡ None =
    c.in_default.ensures.no_cell c.requires.places c.requires.inside.0 c.requires.inside.1 in
    sym (append-nil (string_bytes c.args.text.now))
    ∙ ap (λ o. string_bytes c.args.text.now ++ pair_line l r (option_map (λ p. p.0) o)) (sym none)
