-- The theorem itself, proved in proofs/Duality.antt.
use Rattle.pairing.proofs.Duality.{optimum_if_tight}
use Rattle.pairing.proofs.optimum_if_tight.Goals as goal

pub returns : goal.returns
returns c = optimum_if_tight
