-- The bits that are set are the members.
use Rattle.std.proofs.Common.{sym, ◌∙◌, arith}
use Rattle.blockset.specs.declared.TheConstants.{SET_WIDTH}
use Rattle.blockset.specs.Sets.{bit}
use Rattle.blockset.specs.Has.{has}
use Rattle.blockset.proofs.Bits.{ones_members}
use Rattle.blockset.proofs.Members.{members_like}
use Rattle.blockset.proofs.Holding.{has-bit}
use Rattle.blockset.proofs.BlockSet.len.Goals as goal

pub returns : goal.returns
returns c =
    let s = c.args.self in
    ones_members SET_WIDTH s.0 (omega arith)
    ∙ sym (members_like SET_WIDTH (bit s.0) (has s) (λ j _. has-bit s j (omega arith)))
