-- The drawing shows the settled tables with the marks that were made.
use Rattle.std.proofs.Common.{◌≡◌, [], ◌∷◌, ◌++◌, string_bytes, ap, ◌∙◌, subst}
use Rattle.cost.specs.Columns.{rail_of}
use Rattle.pairing.specs.Grid.{total}
use Rattle.tables.specs.Lent.{grid}
use Rattle.sheet.specs.Walking.{AreMarks}
use Rattle.orderfile.specs.Loading.{plain_kind}
use Rattle.report.specs.Listing.{total_line}
use Rattle.report.specs.Mapping.{map_text}
use Rattle.report.proofs.Accepting.{same_tables, partners_total}
use Rattle.report.proofs.Drawn.{tables_view, drawn}
use Rattle.report.proofs.draw_file.draw_settled.Goals as goal

pub returns : goal.returns
returns c =
    let t = c.args.tables.now in
    let g = grid plain_kind t in
    let z = c.in-Ok.total.0 in
    let marks = c.marks.new.table in
    let same = same_tables t _ _ _ _ _ _ _ c.requires.size c.tables.view_is in
    let costs = partners_total t c.requires.together z
    (subst (λ u. rail_of z ∷ [] ≡ total (grid plain_kind u) u.partners) same
    c.in-Ok.ensures.1) in
    let marked : AreMarks plain_kind t marks =
    subst (λ u. AreMarks plain_kind u marks) same c.in-Ok-marks.ensures.1 in
    drawn t marks marked (string_bytes c.push_map.new.text) c.requires.settled.first
    (c.in_ok-push_map.ensures
    ∙ ap (λ u. string_bytes c.push_total_line.new.text ++ map_text (tables_view u marks))
    c.tables.view_is
    ∙ ap (λ s. s ++ map_text (tables_view t marks)) (c.in_ok-push_total_line.ensures
    ∙ ap (λ s. s ++ total_line (z ∷ [])) c.new-text.ensures.bytes ∙ ap total_line costs))
