-- The theorem itself, proved in proofs/Crowds.antt.
use Rattle.pairing.proofs.Crowds.{hall}
use Rattle.pairing.proofs.may_be_perfect.Goals as goal

pub returns : goal.returns
returns c = hall c.args.many c.args.few
