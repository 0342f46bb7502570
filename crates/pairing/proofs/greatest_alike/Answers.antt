-- The theorem itself, proved in proofs/Duality.antt.
use Rattle.pairing.proofs.Duality.{greatest_alike}
use Rattle.pairing.proofs.greatest_alike.Goals as goal

pub returns : goal.returns
returns c = greatest_alike
