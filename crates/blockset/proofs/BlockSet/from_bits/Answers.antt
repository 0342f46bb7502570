-- A number of 64 bits has no bit past them.
use Rattle.std.proofs.Common.{arith}
use Rattle.blockset.proofs.Holding.{has-bit}
use Rattle.blockset.proofs.BlockSet.from_bits.Goals as goal

pub returns : goal.returns
returns c j = has-bit (record { 0 = c.args.number }) j (omega arith)
