-- The operation on numbers works bit by bit.
use Rattle.std.proofs.Common.{not, ◌&&◌, refl, arith}
use Rattle.blockset.specs.Has.{has}
use Rattle.blockset.proofs.Bits.{bit-minus}
use Rattle.blockset.proofs.Holding.{by_bits}
use Rattle.blockset.proofs.BlockSet.difference.Goals as goal

pub returns : goal.returns
unfolding has
returns c = let a = c.args.self.0 in let b = c.args.other.0 in
    by_bits (λ x y. x && not y) a b _ refl (λ i h. bit-minus 64 a b i (omega arith) h)
