-- The theorem itself, proved in proofs/Crowds.antt.
use Rattle.pairing.proofs.Crowds.{largest_if_stuck}
use Rattle.pairing.proofs.largest_if_stuck.Goals as goal

pub returns : goal.returns
returns c = largest_if_stuck
