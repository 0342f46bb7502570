-- The law itself, proved in proofs/Exact.antt.
use Rattle.cost.proofs.Exact.{exact, most}
use Rattle.cost.proofs.laws.exact_reach.Goals as goal

pub returns : goal.returns
returns c = record { exact = exact; most = most }
