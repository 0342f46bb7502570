-- The theorem itself, proved in proofs/Duality.antt.
use Rattle.pairing.proofs.Duality.{tight_alike}
use Rattle.pairing.proofs.tight_alike.Goals as goal

pub returns : goal.returns
returns c = tight_alike
