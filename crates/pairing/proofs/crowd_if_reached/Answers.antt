-- The theorem itself, proved in proofs/Crowds.antt.
use Rattle.pairing.proofs.Crowds.{reached_crowd}
use Rattle.pairing.proofs.crowd_if_reached.Goals as goal

pub returns : goal.returns
returns c = reached_crowd
