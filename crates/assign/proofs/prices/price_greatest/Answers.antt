-- The distances of a search that has taken all right blocks become the prices.
-- Idea: the search of proofs/Sweeping.antt leaves them all in the table, and none is far. Where it
-- is left out, the table is cleared, and by proofs/Resting.antt its zeros are the distances.
use Rattle.std.proofs.Common.{refl, ap, ◌∙◌, subst, sym, replicate, arith}
use Rattle.cost.specs.declared.TheConstants.{PRICE_LIMIT}
use Rattle.cost.proofs.Exact.{within_more}
use Rattle.tables.specs.Said.{columns_at}
use Rattle.assign.specs.declared.limits.TheConstants.{DISTANCE_LIMIT, LEFT_PRICE_LIMIT}
use Rattle.assign.specs.Weighed.{weight_at}
use Rattle.assign.proofs.Sweeping.{all_held, AreDistances, swept, right_near, topmost_of}
use Rattle.assign.proofs.Resting.{rested}
use Rattle.assign.proofs.prices.price_greatest.Given as given
use Rattle.assign.proofs.prices.price_greatest.Goals as goal
use Rattle.assign.proofs.prices.price_greatest.Goals.{Joined-not-are_zero}

-- after the search, and without it
far : (g : given.Over) (c : Joined-not-are_zero g) → AreDistances g.K.Cost c.args.rows.now
    c.args.costs.now c.args.partners.now c.args.holders.now
    (weight_at g.K.Cost c.args.right.now) c.if-not-are_zero.left
far g c =
    let kind = g.K.Cost in
    let o = c.args in
    let Far = AreDistances kind o.rows.now o.costs.now o.partners.now o.holders.now
    (weight_at kind o.right.now) in
    elim c.if-not-are_zero.branch [
      | goal.then-not-are_zero w ↦ subst Far (sym w.left-is)
          (swept c.requires.paired w.grow_all.ensures.grown w.grow_all.ensures.ended)
      | goal.else-not-are_zero w ↦ subst Far (sym w.left-is)
          (rested g.met.K.Cost.laws.zero_columns c.requires.rights c.requires.paired
          (c.are_zero.ensures.0 w.if-not-are_zero.false) c.clear.new.table
          (c.clear.ensures ∙ ap (λ k. replicate k kind.zero) c.requires.lefts))
    ]

pub grow_all-requires-clause-all : goal.grow_all-requires-clause-all
grow_all-requires-clause-all g c = all_held c.requires.paired.kept (λ _. refl)

pub price_pairs-requires-clause-far : goal.price_pairs-requires-clause-far
price_pairs-requires-clause-far g c =
    (far g (goal.at.price_pairs-requires-clause-far g c).Joined-not-are_zero).near

pub returns-clause-topmost : goal.returns-clause-topmost
returns-clause-topmost g c =
    topmost_of c.requires.paired (far g (goal.at.returns-clause-topmost g c).Joined-not-are_zero)
    c.price_pairs.new.right c.price_pairs.ensures.moved c.price_pairs.ensures.tight

pub returns-clause-lefts : goal.returns-clause-lefts
returns-clause-lefts g c = λ l h. within_more LEFT_PRICE_LIMIT PRICE_LIMIT
    (columns_at g.K.Cost c.price_pairs.new.left l) (omega arith) (c.price_pairs.ensures.bound l h)

pub returns-clause-rights : goal.returns-clause-rights
returns-clause-rights g c = λ r h. within_more DISTANCE_LIMIT PRICE_LIMIT
    (columns_at g.K.Cost c.price_pairs.new.right r) (omega arith)
    (right_near c.requires.paired (far g (goal.at.returns-clause-rights g c).Joined-not-are_zero)
    c.price_pairs.new.right c.price_pairs.ensures.moved r h)
