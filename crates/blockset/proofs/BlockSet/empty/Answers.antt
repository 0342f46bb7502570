-- The number 0 has no bit.
use Rattle.blockset.proofs.Bits.{bit-zero}
use Rattle.blockset.proofs.Holding.{has-bit}
use Rattle.std.proofs.Common.{◌∙◌, arith}
use Rattle.blockset.proofs.BlockSet.empty.Goals as goal

pub returns : goal.returns
returns c j = has-bit (record { 0 = 0 }) j (omega arith) ∙ bit-zero j
