-- A power of two has one bit; where there is no such block, the empty set has none.
use Rattle.std.proofs.Common.{◌&&◌, ltb, ap, ◌∙◌}
use Rattle.std.proofs.lemmas.Nat.{one_shl}
use Rattle.blockset.specs.declared.TheConstants.{SET_WIDTH}
use Rattle.blockset.specs.Sets.{bit}
use Rattle.blockset.specs.Has.{has}
use Rattle.blockset.proofs.Bits.{bit-pow}
use Rattle.blockset.proofs.BlockSet.of.Goals as goal

pub returns-then-block-lt-SET_WIDTH : goal.returns-then-block-lt-SET_WIDTH
unfolding has
returns-then-block-lt-SET_WIDTH c j = ap (λ m. ltb j SET_WIDTH && bit m j)
    (one_shl c.args.block SET_WIDTH c.if-block-lt-SET_WIDTH.true) ∙ ap (λ b. ltb j SET_WIDTH && b)
    (bit-pow c.args.block j)
