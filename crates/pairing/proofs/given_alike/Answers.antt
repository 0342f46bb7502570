-- The theorem itself, proved in proofs/Counting.antt.
use Rattle.pairing.proofs.Counting.{given_alike}
use Rattle.pairing.proofs.given_alike.Goals as goal

pub returns : goal.returns
returns c = given_alike
