-- Where the first step decides, the rest of the columns does not matter; where it does not, the
-- second step decides.
use Rattle.std.proofs.Common.{sym, ◌∙◌, rules}
use Rattle.cost.proofs.Append.{lex-append, then_keeps, same_length}
use Rattle.cost.proofs.two_step_kind.TwoStepCost.compare.Goals as goal

pub returns-in-Equal : goal.returns-in-Equal
returns-in-Equal g c =
    let h = lex-append _ _ (g.B.Cost.meaning c.args.self.1) (g.B.Cost.meaning c.args.other.1)
    (same_length g.met.A.Cost.laws c.args.self.0 c.args.other.0) in
    let k = c.in-Equal.ensures in
    search (rules, h, k)

pub returns-in_default : goal.returns-in_default
returns-in_default g c =
    c.compare.ensures ∙ sym (then_keeps _ _ (λ z. c.in_default.not-Equal (c.compare.ensures ∙ z)))
    ∙ sym (lex-append _ _ (g.B.Cost.meaning c.args.self.1) (g.B.Cost.meaning c.args.other.1)
    (same_length g.met.A.Cost.laws c.args.self.0 c.args.other.0))
