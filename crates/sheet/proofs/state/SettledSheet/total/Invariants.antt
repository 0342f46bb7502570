-- The sum so far is the total of the pairs so far.
use Rattle.tables.specs.Lent.{lent}
use Rattle.sheet.proofs.Totals.{IsSumOf}
use Rattle.sheet.proofs.state.SettledSheet.total.Given as goal

abbrev pub invariant-loop-l : goal.invariant-loop-l
invariant-loop-l g l = IsSumOf g.K.Cost (lent l.n l.costs l.standing l.partners l.left l.right)
    l.l l.sum
