-- What the left block bids for is told of its part of the cost table, and so of the table; then it
-- is one step of proofs/Reducing.antt.
use Rattle.std.proofs.Common.{◌+◌, ◌*◌, length, refl, subst, arith}
use Rattle.cost.specs.declared.TheConstants.{COST_LIMIT}
use Rattle.cost.proofs.Exact.{within_more}
use Rattle.cost.specs.Weights.{weight}
use Rattle.blockset.specs.Has.{has}
use Rattle.tables.specs.Said.{columns_at}
use Rattle.tables.proofs.Filling.{row_length}
use Rattle.assign.specs.Pairs.{so_far}
use Rattle.assign.specs.Bids.{IsPricedNear}
use Rattle.assign.proofs.Entries.{part_modest}
use Rattle.assign.proofs.Reducing.{by_table, by_part, step_of}
use Rattle.assign.proofs.Going.{same_goes_on}
use Rattle.assign.proofs.reduction.reduce_row.Goals as goal

pub find_bid-requires-clause-modest : goal.find_bid-requires-clause-modest
find_bid-requires-clause-modest g c =
    part_modest c.requires.lent c.args.l (c.requires.inside c.args.l c.requires.left_out)

pub returns-in_default : goal.returns-in_default
returns-in_default g c =
    let kind = g.K.Cost in
    let l = c.args.l in
    let now = so_far (has c.args.out.now) c.args.partners.now c.args.holders.now c.args.right.now in
    record {
      reduced = (
        λ j w bid. c.in_default.ensures.bid j w (by_part c.requires.lent l
            (c.requires.inside l c.requires.left_out) now j w bid),
        (refl, refl, refl, refl),
      );
      goes_on = same_goes_on kind now;
      inside = c.requires.inside;
      paired = c.requires.paired;
      bound = λ b near _ k h. within_more b (b + 2 * COST_LIMIT)
          (columns_at kind c.args.right.now k) (omega arith) (near k h);
    }

pub returns : goal.returns
returns g c =
    let kind = g.K.Cost in
    let l = c.args.l in
    let room = c.requires.inside l c.requires.left_out in
    let now = so_far (has c.args.out.now) c.args.partners.now c.args.holders.now c.args.right.now in
    let bid = c.in-Some.bid in
    let near = subst (λ n. IsPricedNear kind n c.args.right.now bid)
    (row_length c.args.costs.now (length c.args.rows.now) l room c.requires.lent.square)
    c.in-Some.ensures.bound in
    let seat = rw c.requires.partnered at c.seat.ensures in
    let step = step_of c.requires.lent c.requires.paired c.requires.rights l room bid
    (by_table c.requires.lent l room now bid.block (weight (kind.meaning bid.price))
    c.in-Some.ensures.bid)
    near c.requires.near seat.seated c.seat.new.holders seat.told seat.held in
    record {
      reduced = step.reduced;
      goes_on = step.goes_on;
      inside = seat.seated.inside;
      paired = step.paired;
      bound = step.bound;
    }
