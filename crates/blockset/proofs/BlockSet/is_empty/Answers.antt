-- A number without bits is 0.
use Rattle.std.proofs.Common.{sym, ap, ◌∙◌, arith}
use Rattle.std.proofs.lemmas.Bool.{eqb-true, eq-eqb}
use Rattle.blockset.specs.declared.TheConstants.{SET_WIDTH}
use Rattle.blockset.specs.Sets.{bit}
use Rattle.blockset.proofs.Bits.{none_set, bit-zero}
use Rattle.blockset.proofs.Holding.{has-bit}
use Rattle.blockset.proofs.BlockSet.is_empty.Goals as goal

pub returns : goal.returns
returns c =
    let s = c.args.self in (
      λ e j. has-bit s j (omega arith) ∙ ap (λ m. bit m j) (eqb-true s.0 0 e) ∙ bit-zero j,
      λ f. eq-eqb s.0 0
          (none_set SET_WIDTH s.0 (omega arith) (λ j. sym (has-bit s j (omega arith)) ∙ f j)),
    )
