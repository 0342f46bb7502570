-- The theorem itself, proved in proofs/Duality.antt.
use Rattle.pairing.proofs.Duality.{valid_alike}
use Rattle.pairing.proofs.valid_alike.Goals as goal

pub returns : goal.returns
returns c = valid_alike
