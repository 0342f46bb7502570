-- The returned number lies on the rail, so that it means itself.
use Rattle.std.proofs.Common.{◌≡◌, ◌+ℤ◌, w64, to_z, of_z, rules}
use Rattle.cost.specs.Columns.{rail_of}
use Rattle.cost.proofs.Exact.{bounded_means}
use Rattle.cost.proofs.plain_kind.PlainCost.add.Goals as goal

pub returns-else-is_near : goal.returns-else-is_near
returns-else-is_near c =
    let e : to_z w64 (of_z w64 c.on_rail-else-is_near-2.result) ≡ rail_of
    (rail_of c.args.self.0 +ℤ rail_of c.args.other.0) = search rules in
    record { means = bounded_means _ _ e; bounded = e }
