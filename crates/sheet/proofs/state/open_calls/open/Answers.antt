-- Both tables are filled, and so no pair stands.
use Rattle.std.proofs.Common.{replicate, sym, ap, ◌∙◌}
use Rattle.tables.proofs.Cells.{opened}
use Rattle.tables.proofs.Lengths.{places_told}
use Rattle.sheet.proofs.state.open_calls.open.Goals as goal

pub returns-clause-cells : goal.returns-clause-cells
returns-clause-cells g c =
    let long = places_told c.args.n _ _ (sym c.if-not-have_places.ensures) in
    opened g.K.Cost.zero c.args.n _ _ (c.fill-2.ensures ∙ ap (λ k. replicate k 0) long.standing)
