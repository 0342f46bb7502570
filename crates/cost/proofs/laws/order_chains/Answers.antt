-- The law itself, proved in proofs/Order.antt.
use Rattle.cost.proofs.Order.{lex_chain}
use Rattle.cost.proofs.laws.order_chains.Goals as goal

pub returns : goal.returns
returns c = lex_chain
