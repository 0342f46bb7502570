-- The theorem itself, proved in proofs/Inside.antt.
use Rattle.pairing.proofs.Inside.{inside_matters}
use Rattle.pairing.proofs.inside_matters.Goals as goal

pub returns : goal.returns
returns c = inside_matters
