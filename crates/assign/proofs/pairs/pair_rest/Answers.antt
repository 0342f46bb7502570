-- One left block fewer is left out each turn; when none is, all are paired.
use Rattle.std.proofs.Common.{false, sym, subst}
use mathlib.Core.Path.{fun_ext}
use Rattle.blockset.specs.Has.{has}
use Rattle.assign.specs.Weighed.{weight_at}
use Rattle.assign.specs.Pairs.{so_far, IsPriced}
use Rattle.assign.proofs.Noting.{notes_none}
use Rattle.blockset.proofs.Removing.{still_in, fewer}
use Rattle.assign.proofs.pairs.pair_rest.Goals as goal

pub loop-k-init : goal.loop-k-init
loop-k-init g c = record {
  paired = c.requires.paired;
  inside = c.requires.inside;
  noted = rw c.nothing-noted.ensures
      (notes_none g.K.Cost c.args.rows.now c.args.costs.now (has c.args.first.holders.held)
      (weight_at g.K.Cost c.args.right.now) c.requires.lent);
}

pub loop-k-smaller : goal.loop-k-smaller
loop-k-smaller g c = fewer (has c.loop-k.out) (has c.remove.new.self) c.in-Some.k c.remove.ensures
    c.in-Some.ensures.0 c.in-Some.ensures.1

pub loop-k-preserved : goal.loop-k-preserved
loop-k-preserved g c =
    let new = c.pair_row.new in
    record {
      paired = subst (λ out. IsPriced g.K.Cost c.args.rows.now c.args.costs.now
          (so_far out new.partners new.holders new.right)) (sym (fun_ext c.remove.ensures))
          c.pair_row.ensures.paired;
      inside = λ j t. c.loop-k.invariant.inside j
          (still_in (has c.loop-k.out) (has c.remove.new.self) c.in-Some.k c.remove.ensures j t).0;
      noted = c.pair_row.ensures.noted;
    }

pub returns : goal.returns
returns g c =
    let now = c.loop-k in
    subst (λ out. IsPriced g.K.Cost c.args.rows.now c.args.costs.now
    (so_far out now.partners now.holders now.right))
    (fun_ext {f = has now.out} {g = λ _. false} c.in_default.ensures) now.invariant.paired
