-- The nearest free right block that the offer goes to is the nearest of all free ones if it is
-- nearer than the nearest one before. Its key is the shift and how far its cost is beyond its
-- price.
use Rattle.std.proofs.Common.{◌+◌, not, sym, refl, ◌∙◌}
use Rattle.std.proofs.Common.{inl, inr, arith}
use Rattle.std.proofs.lemmas.List.{get_or-set_same, get_or-set_other}
use Rattle.std.proofs.lemmas.Int.{ints}
use Rattle.std.proofs.lemmas.Bool.Decides.{nat_tests}
use Rattle.std.proofs.lemmas.Bool.{and_parts, not-true}
use Rattle.cost.specs.declared.TheConstants.{COST_LIMIT, HALF_RAIL}
use Rattle.cost.proofs.Exact.{within_more}
use Rattle.blockset.specs.Has.{has}
use Rattle.assign.specs.declared.limits.TheConstants.{KEY_LIMIT, SHIFT_LIMIT}
use Rattle.assign.proofs.Noting.{noted_fewer}
use Rattle.assign.proofs.search.offer_free.Goals as goal
use Rattle.assign.proofs.search.offer_free.Goals.{
  in-Some-free+else-not-is_less,
  in_default-free,
}

pub is_less-requires-clause-first : goal.is_less-requires-clause-first
is_less-requires-clause-first g c = within_more (SHIFT_LIMIT + KEY_LIMIT) HALF_RAIL
    (g.K.Cost.meaning c.exact_sum-key.result) (omega arith)
    (c.exact_sum-key.ensures.bound SHIFT_LIMIT KEY_LIMIT c.requires.modest.shift
    c.in-Some.ensures.found.bound (omega arith))

pub returns-then-not-is_less : goal.returns-then-not-is_less
returns-then-not-is_less g c =
    let near = c.in-Some.ensures.found in
    let kept = c.is_less.ensures.not_less c.if-not-is_less.true in
    record {
      offered = record {
        least = λ j t f. omega (
          arith,
          ints,
          c.exact_sum-key.ensures.sum,
          near.key,
          near.nearest.least j (grind (arith, nat_tests, c.difference.ensures j)),
        );
        choice = inl (c.in-Some-free.is, refl);
      };
      noted = noted_fewer (λ j t. (c.difference.ensures j ∙ t, refl, refl)) c.in-Some.ensures.noted;
      others = c.in-Some.ensures.others;
    }

pub returns : goal.returns
returns g c =
    let kind = g.K.Cost in
    let offer = c.args.offer.now in
    let near = c.in-Some.ensures.found in
    let key = c.exact_sum-key.result in
    let i = c.in-Some.near.block in
    let part = and_parts (has offer.to i) (not (has c.args.held i))
    (sym (c.difference.ensures i) ∙ near.nearest.member) in
    record {
      offered = record {
        least = λ j t f. omega (
          arith,
          ints,
          c.exact_sum-key.ensures.sum,
          near.key,
          near.nearest.least j (grind (arith, nat_tests, c.difference.ensures j)),
        );
        choice = inr (record {
          inside = near.inside;
          member = part.0;
          free = not-true (has c.args.held i) part.1;
          key = omega (arith, ints, c.exact_sum-key.ensures.sum, near.key);
          reach = λ b y s le priced small. within_more (b + (COST_LIMIT + y)) (b + COST_LIMIT + y)
              (kind.meaning key) (omega arith)
              (c.exact_sum-key.ensures.bound b (COST_LIMIT + y) s
              (near.reach COST_LIMIT y (c.requires.modest.costs i part.0) priced (omega arith))
              (omega arith));
          less = elim c.match-free.branch [
            | in-Some-free+else-not-is_less w ↦
                rw w.in-Some-free.is (w.is_less.ensures.less w.if-not-is_less.false)
            | in_default-free w ↦ rw w.in_default-free.is tt
          ];
          from = get_or-set_same c.args.via.now i offer.from 0
              (omega (arith, near.inside, c.requires.rights, c.requires.modest.few));
          others = λ j ne. get_or-set_other c.args.via.now i j offer.from 0 ne;
        });
      };
      noted = noted_fewer (λ j t. (c.difference.ensures j ∙ t, refl, refl)) c.in-Some.ensures.noted;
      others = c.in-Some.ensures.others;
    }
