-- Each step is one of proofs/Lowering.antt; the values are so small that their differences are
-- exact.
use Rattle.std.proofs.Common.{◌+◌, ◌<◌, length, set, refl, sym, subst, arith}
use Rattle.cost.specs.declared.TheConstants.{HALF_RAIL}
use Rattle.cost.specs.Columns.{AreWithin}
use Rattle.cost.proofs.Exact.{within_more}
use Rattle.cost.specs.Weights.{weight}
use Rattle.blockset.specs.Has.{has}
use Rattle.tables.specs.Said.{columns_at}
use Rattle.assign.specs.declared.limits.TheConstants.{DISTANCE_LIMIT, LEFT_PRICE_LIMIT}
use Rattle.assign.specs.declared.limits.TheConstants.{INNER_PRICE_LIMIT}
use Rattle.assign.specs.Offers.{distances}
use Rattle.assign.proofs.Entries.{put_other}
use Rattle.assign.proofs.Differences.{put_weighs, put_within}
use Rattle.assign.proofs.Lowering.{lowering_none, lowering_take}
use Rattle.assign.proofs.Owners.{known_at}
use Rattle.assign.proofs.prices.lower.Goals as goal

pub loop-c-init : goal.loop-c-init
loop-c-init g c =
    let kind = g.K.Cost in
    record {
      can_next = tt;
      is_finite = tt;
      lowering = rw c.into_iter-c-iterator.ensures.into_iter_gives
          (lowering_none (length c.args.right.now) (has c.args.taken)
          (weight (kind.meaning c.args.far))
          (λ j. weight (distances kind c.args.holders.now c.args.dist.now j))
          (columns_at kind c.args.right.now) c.requires.priced);
    }

pub exact_difference-requires : goal.exact_difference-requires
exact_difference-requires g c =
    let kind = g.K.Cost in
    let r = c.in-Some.c in
    let taken = c.loop-c.invariant.lowering.part r c.in-Some.ensures.steps.member in
    let known = known_at kind c.requires.owners c.args.dist.now refl r (c.requires.had r taken)
    c.index-dist-l.result c.index-dist-l.is in
    record {
      first = within_more DISTANCE_LIMIT HALF_RAIL (kind.meaning c.index-dist-l.result)
          (omega arith) (subst (AreWithin DISTANCE_LIMIT) (sym known) (c.requires.near r taken));
      second = within_more LEFT_PRICE_LIMIT HALF_RAIL (kind.meaning c.args.far) (omega arith)
          c.requires.goal;
    }

pub loop-c-preserved : goal.loop-c-preserved
loop-c-preserved g c =
    let kind = g.K.Cost in
    let d = distances kind c.args.holders.now c.args.dist.now in
    let right = c.loop-c.right in
    let far = kind.meaning c.args.far in
    let r = c.in-Some.c in
    let x = c.exact_difference.result in
    let member = c.in-Some.ensures.steps.member in
    let taken = c.loop-c.invariant.lowering.part r member in
    let in_right : c.in-Some.c < length c.loop-c.right = omega (arith, c.requires.inside r taken) in
    let known = known_at kind c.requires.owners c.args.dist.now refl r (c.requires.had r taken)
    c.index-dist-l.result c.index-dist-l.is in
    record {
      can_next = tt;
      is_finite = tt;
      lowering = lowering_take (length c.args.right.now) (has c.args.taken) (weight far)
          (λ j. weight (d j)) (columns_at kind c.args.right.now) (has c.loop-c.c-iterator)
          (columns_at kind right) c.loop-c.invariant.lowering r (has c.next.new.self)
          (columns_at kind (set right r x)) member c.in-Some.ensures.steps.others
          (put_weighs kind right r x in_right (kind.meaning c.index-dist-l.result) (d r) far far
          c.exact_difference.ensures.sum known refl)
          (put_within kind right r x in_right INNER_PRICE_LIMIT
          (within_more (DISTANCE_LIMIT + LEFT_PRICE_LIMIT) INNER_PRICE_LIMIT (kind.meaning x)
          (omega arith)
          (c.exact_difference.ensures.bound DISTANCE_LIMIT LEFT_PRICE_LIMIT
          (subst (AreWithin DISTANCE_LIMIT) (sym known) (c.requires.near r taken))
          c.requires.goal (omega arith))))
          (λ j ne. put_other kind right r j x ne);
    }

pub returns : goal.returns
returns g c =
    let lowered = c.loop-c.invariant.lowering in
    record {
      fallen = λ j t. lowered.fallen j t (c.in-None.ensures.steps j);
      same = lowered.same;
      bound = lowered.bound;
    }
