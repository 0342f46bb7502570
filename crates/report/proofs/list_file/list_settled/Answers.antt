-- A settled sheet totals its first pairing, and the walk begins with it.
use Rattle.std.proofs.Common.{◌≡◌, [], ◌∷◌, ◌++◌, string_bytes, ap, ◌∙◌, subst}
use Rattle.cost.specs.Columns.{rail_of}
use Rattle.pairing.specs.Grid.{total}
use Rattle.pairing.specs.Optima.{optima}
use Rattle.matching.specs.Answers.{IsNth}
use Rattle.tables.specs.Lent.{grid}
use Rattle.orderfile.specs.Loading.{plain_kind}
use Rattle.report.specs.Listing.{total_line, listed}
use Rattle.report.proofs.Accepting.{same_tables, partners_total}
use Rattle.report.proofs.Listed.{over_first}
use Rattle.report.proofs.list_file.list_settled.Goals as goal

pub push_pairings-requires-clause-first : goal.push_pairings-requires-clause-first
push_pairings-requires-clause-first c =
    let same = same_tables c.args.tables.now _ _ _ _ _ _ _ c.requires.size c.tables.view_is in
    subst (λ t. IsNth (optima (grid plain_kind t)) 0 c.start.new.list) same
    c.in-Ok-start.ensures.first

pub returns : goal.returns
returns c =
    let t = c.args.tables.now in
    let g = grid plain_kind t in
    let z = c.in-Ok.total.0 in
    let same = same_tables t _ _ _ _ _ _ _ c.requires.size c.tables.view_is in
    let costs = partners_total t c.requires.together z
    (subst (λ u. rail_of z ∷ [] ≡ total (grid plain_kind u) u.partners) same
    c.in-Ok.ensures.1) in
    over_first g (optima g) t.partners (string_bytes c.push_pairings.new.text)
    c.requires.settled.first (c.in_ok-push_pairings.ensures ∙ ap (λ s. s ++ listed (optima g))
    (c.in_ok-push_total_line.ensures
    ∙ ap (λ s. s ++ total_line (z ∷ [])) c.new-text.ensures.bytes ∙ ap total_line costs))
