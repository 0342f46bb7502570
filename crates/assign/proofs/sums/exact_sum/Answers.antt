-- The rail is not reached, so the sum is that of the columns, and weighs the sum of the weights.
use Rattle.std.proofs.Common.{◌+◌, List, ℤ, sym, ap, ◌∙◌, subst, arith}
use Rattle.cost.specs.declared.TheConstants.{HALF_RAIL}
use Rattle.cost.specs.Columns.{AreWithin}
use Rattle.cost.proofs.Exact.{exact, plus-within}
use Rattle.cost.specs.Weights.{weight}
use Rattle.cost.proofs.Weights.{weight_plus}
use Rattle.assign.proofs.sums.exact_sum.Goals as goal

pub returns : goal.returns
returns g c =
    let m = g.K.Cost.meaning in
    let a = m c.args.a in
    let b = m c.args.b in
    let e = c.add_near.ensures in
    record {
      sum = ap weight e
          ∙ ap weight (exact HALF_RAIL HALF_RAIL a b (omega arith) c.requires.first
          c.requires.second).0
          ∙ weight_plus a b (g.met.K.Cost.laws.column_count c.args.a
          ∙ sym (g.met.K.Cost.laws.column_count c.args.b));
      bound = λ x y h k l. subst (λ (z : List ℤ). AreWithin (x + y) z)
          (sym (e ∙ (exact x y a b l h k).0)) (plus-within x y a b h k);
    }
