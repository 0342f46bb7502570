-- The theorem itself, proved in proofs/Listing.antt.
use Rattle.pairing.proofs.Listing.{optima_are}
use Rattle.pairing.proofs.optima_are.Goals as goal

pub returns : goal.returns
returns c = optima_are
