-- All columns are within a limit where those of both steps are.
use Rattle.std.proofs.Common.{leb, nat_abs, rules}
use Rattle.std.proofs.lemmas.List.Folds.{list_all-append}
use Rattle.cost.proofs.two_step_kind.TwoStepCost.within.Goals as goal

pub returns : goal.returns
returns g c = let h = list_all-append (λ x. leb (nat_abs x) c.args.limit)
    (g.A.Cost.meaning c.args.self.0) (g.B.Cost.meaning c.args.self.1) in search (rules, h)
