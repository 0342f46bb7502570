-- The number's bits and the block's own bit; where there is no such bit, no block below 64 is the
-- number.
use Rattle.std.proofs.Common.{◌^◌, ◌&&◌, ◌||◌, ltb, refl, ap, ◌∙◌}
use Rattle.std.proofs.Math.Bool.{or_comm}
use lib.Bits.{bit_or}
use Rattle.std.proofs.lemmas.Nat.{one_shl}
use Rattle.blockset.specs.declared.TheConstants.{SET_WIDTH}
use Rattle.blockset.specs.Sets.{bit}
use Rattle.blockset.specs.Has.{has}
use Rattle.blockset.proofs.Bits.{bit-or, bit-pow}
use Rattle.blockset.proofs.Holding.{by_bits}
use Rattle.blockset.proofs.BlockSet.insert.Goals as goal

pub returns-then-block-lt-SET_WIDTH : goal.returns-then-block-lt-SET_WIDTH
unfolding has
returns-then-block-lt-SET_WIDTH c j =
    let a = c.args.self.now.0 in
    let i = c.args.block in
    ap (λ m. ltb j SET_WIDTH && bit (bit_or a m) j)
    (one_shl i SET_WIDTH c.if-block-lt-SET_WIDTH.true)
    ∙ by_bits (λ x y. y || x) a (2 ^ i) _ refl
    (λ k _. bit-or a (2 ^ i) k ∙ or_comm (bit a k) (bit (2 ^ i) k)) j
    ∙ ap (λ x. (ltb j SET_WIDTH && x) || (ltb j SET_WIDTH && bit a j)) (bit-pow i j)
