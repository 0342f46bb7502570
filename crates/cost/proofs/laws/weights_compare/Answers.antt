-- The laws themselves, proved in proofs/Weights.antt.
use Rattle.cost.proofs.Weights.{weights_compare, weight_plus, weight_minus}
use Rattle.cost.proofs.laws.weights_compare.Goals as goal

pub returns : goal.returns
returns c = record { order = weights_compare; sum = weight_plus; difference = weight_minus }
