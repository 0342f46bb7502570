-- The theorem itself, proved in proofs/Crowds.antt.
use Rattle.pairing.proofs.Crowds.{short_by}
use Rattle.pairing.proofs.short_by.Goals as goal

pub returns : goal.returns
returns c = short_by
