-- The law itself, proved in proofs/Order.antt.
use Rattle.cost.proofs.Order.{lex_shift}
use Rattle.cost.proofs.laws.order_shifts.Goals as goal

pub returns : goal.returns
returns c = lex_shift
