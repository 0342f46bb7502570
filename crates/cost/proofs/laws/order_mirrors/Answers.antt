-- The laws themselves, proved in proofs/Order.antt.
use Rattle.cost.proofs.Order.{lex_mirror, lex_same}
use Rattle.cost.proofs.laws.order_mirrors.Goals as goal

pub returns : goal.returns
returns c = record { mirrors = lex_mirror; equal = lex_same }
