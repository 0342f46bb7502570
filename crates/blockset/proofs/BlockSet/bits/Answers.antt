-- A number of 64 bits has no bit past them.
use Rattle.std.proofs.Common.{sym, arith}
use Rattle.blockset.proofs.Holding.{has-bit}
use Rattle.blockset.proofs.BlockSet.bits.Goals as goal

pub returns : goal.returns
returns c j = sym (has-bit c.args.self j (omega arith))
