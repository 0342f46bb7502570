-- A shift by the block's number brings its bit to the lowest place.
use Rattle.std.proofs.Common.{◌/◌, ◌^◌, ◌&&◌, eqb, sym, ap, ◌∙◌, arith}
use lib.Bits.{and_mask}
use Rattle.std.proofs.lemmas.Bool.{le-ltb}
use Rattle.blockset.specs.declared.TheConstants.{SET_WIDTH}
use Rattle.blockset.specs.Sets.{bit}
use Rattle.blockset.specs.Has.{has}
use Rattle.blockset.proofs.Bits.{bit_is}
use Rattle.blockset.proofs.Holding.{has-bit}
use Rattle.blockset.proofs.BlockSet.contains.Goals as goal

pub returns-then-block-lt-SET_WIDTH : goal.returns-then-block-lt-SET_WIDTH
returns-then-block-lt-SET_WIDTH c =
    let s = c.args.self in
    let j = c.args.block in
    ap (λ x. eqb x 1) (and_mask (s.0 / 2 ^ j) 1) ∙ sym (has-bit s j (omega arith) ∙ bit_is s.0 j)

pub returns-else-block-lt-SET_WIDTH : goal.returns-else-block-lt-SET_WIDTH
unfolding has
returns-else-block-lt-SET_WIDTH c =
    let e = le-ltb c.args.block SET_WIDTH c.if-block-lt-SET_WIDTH.false in
    e ∙ sym (ap (λ b. b && bit c.args.self.0 c.args.block) e)
