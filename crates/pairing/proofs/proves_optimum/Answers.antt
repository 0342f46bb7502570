-- The theorem itself, proved in proofs/Duality.antt.
use Rattle.pairing.proofs.Duality.{proves_optimum}
use Rattle.pairing.proofs.proves_optimum.Goals as goal

pub returns : goal.returns
returns c = proves_optimum
