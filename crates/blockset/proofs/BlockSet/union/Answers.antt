-- The operation on numbers works bit by bit.
use Rattle.std.proofs.Common.{◌||◌, refl}
use Rattle.blockset.specs.Has.{has}
use Rattle.blockset.proofs.Bits.{bit-or}
use Rattle.blockset.proofs.Holding.{by_bits}
use Rattle.blockset.proofs.BlockSet.union.Goals as goal

pub returns : goal.returns
unfolding has
returns c = let a = c.args.self.0 in let b = c.args.other.0 in
    by_bits ◌||◌ a b _ refl (λ i _. bit-or a b i)
