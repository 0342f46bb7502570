-- The lowest bit that is set is the least member.
use Rattle.std.proofs.Common.{◌≡◌, ◌<◌, ap, ◌∙◌, arith}
use lib.Count.{count_trailing_zeros}
use Rattle.std.proofs.lemmas.Bool.{both_ways}
use Rattle.blockset.specs.declared.TheConstants.{SET_WIDTH}
use Rattle.blockset.specs.Sets.{bit}
use Rattle.blockset.proofs.Bits.{lowest, below_lowest, lowest_lt, bit-zero}
use Rattle.blockset.proofs.Holding.{has-bit}
use Rattle.blockset.proofs.BlockSet.least.Goals as goal

pub returns-else-is_empty : goal.returns-else-is_empty
returns-else-is_empty c =
    let s = c.args.self in
    let m = s.0 in
    let some : m ≡ 0 → ⊥ = λ e. both_ways c.is_empty.result c.if-is_empty.false
    (c.is_empty.ensures.1 (λ j. has-bit s j (omega arith) ∙ ap (λ x. bit x j) e ∙ bit-zero j))
    in
    let low : count_trailing_zeros SET_WIDTH m < SET_WIDTH =
    lowest_lt SET_WIDTH m (omega arith) some in (
      low,
      has-bit s (count_trailing_zeros SET_WIDTH m) (omega arith) ∙ lowest SET_WIDTH m low,
      λ j h. has-bit s j
          (omega arith) ∙ below_lowest SET_WIDTH m j h,
    )
