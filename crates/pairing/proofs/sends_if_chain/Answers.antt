-- The theorem itself, proved in proofs/Sending.antt.
use Rattle.pairing.proofs.Sending.{sends_if_chain}
use Rattle.pairing.proofs.sends_if_chain.Goals as goal

pub returns : goal.returns
returns c = sends_if_chain
