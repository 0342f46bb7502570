-- This is the lemma itself.
use Rattle.orderfile.proofs.Greatest.{states_greatest}
use Rattle.orderfile.proofs.law.pairs_state_greatest.Goals as goal

pub returns : goal.returns
returns c = states_greatest
