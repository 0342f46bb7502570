-- Of the left blocks from the end of a pairing on there is none.
use Rattle.std.proofs.Common.{arith}
use Rattle.matching.proofs.Held.{held_start}
use Rattle.matching.proofs.chains.Holders.of.Goals as goal

pub loop-l-init : goal.loop-l-init
loop-l-init c = held_start (omega arith) c.new-holders.ensures
