-- The bits of 2^n - 1 are those below n.
use Rattle.std.proofs.Common.{◌-◌, ◌&&◌, ltb, ap, ◌∙◌, arith}
use Rattle.std.proofs.lemmas.Nat.{one_shl}
use Rattle.std.proofs.lemmas.Bool.Decides.{nat_tests}
use Rattle.blockset.specs.declared.TheConstants.{SET_WIDTH}
use Rattle.blockset.specs.Sets.{bit}
use Rattle.blockset.specs.Has.{has}
use Rattle.blockset.proofs.Bits.{bit_ones}
use Rattle.blockset.proofs.BlockSet.all.Goals as goal

pub returns-then-n-lt-SET_WIDTH : goal.returns-then-n-lt-SET_WIDTH
unfolding has
returns-then-n-lt-SET_WIDTH c j =
    ap (λ m. ltb j SET_WIDTH && bit (m - 1) j) (one_shl c.args.n SET_WIDTH (omega arith))
    ∙ ap (λ b. ltb j SET_WIDTH && b) (bit_ones c.args.n j)

pub returns-else-n-lt-SET_WIDTH : goal.returns-else-n-lt-SET_WIDTH
unfolding has
returns-else-n-lt-SET_WIDTH c j =
    ap (λ b. ltb j SET_WIDTH && b) (bit_ones SET_WIDTH j) ∙ grind (arith, nat_tests)
