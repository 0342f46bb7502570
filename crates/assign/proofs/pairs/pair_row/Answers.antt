-- The search comes to a free right block, since some pairing is perfect; then prices are lowered
-- and pairs exchanged, as proofs/Augmenting.antt tells.
use Rattle.std.proofs.Common.{◌&&◌, sym, ap, ◌∙◌, arith}
use Rattle.std.proofs.Math.Bool.{and-false}
use Rattle.std.proofs.lemmas.Bool.{or_parts}
use Rattle.cost.specs.Weights.{weight}
use Rattle.blockset.specs.Has.{has}
use Rattle.assign.specs.Weighed.{weight_at}
use Rattle.assign.proofs.Noting.{notes_fewer}
use Rattle.assign.proofs.Augmenting.{no_end, goal_near, ways, augmented}
use Rattle.assign.proofs.pairs.pair_row.Goals as goal

pub lower-requires-clause-goal : goal.lower-requires-clause-goal
lower-requires-clause-goal g c =
    let tree = c.grow_from.ensures in
    goal_near c.requires.paired c.requires.room c.requires.unpaired tree.grown tree.ended
    c.in-Some.is

pub exchange-requires-clause-ways : goal.exchange-requires-clause-ways
exchange-requires-clause-ways g c =
    let tree = c.grow_from.ensures in
    ways c.requires.paired c.requires.room c.requires.unpaired tree.grown tree.ended
    c.in-Some.is

pub returns-in-Some : goal.returns-in-Some
returns-in-Some g c =
    let tree = c.grow_from.ensures in
    let held = has c.args.holders.now.held in
    let reached = has c.grow_from.new.tree.taken.reached in
    let paired = augmented c.requires.paired c.requires.room c.requires.unpaired tree.grown
    tree.ended c.in-Some.is (record {
      had = c.intersection-fallen.ensures;
      lowered = c.lower.ensures.fallen;
      same = c.lower.ensures.same;
      near = rw c.requires.rights at c.lower.ensures.bound;
    }) c.exchange.ensures.exchanged (c.exchange.ensures.told 0 (λ j t. omega arith))
    c.exchange.ensures.held in
    record {
      paired = paired;
      noted = notes_fewer g.K.Cost c.args.rows.now c.args.costs.now held
          (weight_at g.K.Cost c.args.right.now) (has c.exchange.new.holders.held)
          (weight_at g.K.Cost c.lower.new.right) c.grow_from.new.noted
          (λ j f. let free = (or_parts _ (held j) (sym (c.exchange.ensures.held j) ∙ f)).1 in (
            free,
            ap weight (c.lower.ensures.same j (c.intersection-fallen.ensures j
                ∙ ap (λ z. reached j && z) free ∙ and-false (reached j))),
          )) tree.noted;
    }

pub returns-in_default : goal.returns-in_default
returns-in_default g c =
    let tree = c.grow_from.ensures in
    absurd (no_end c.requires.paired c.requires.room c.requires.unpaired tree.grown tree.ended
    c.in_default.is c.requires.possible.0 c.requires.possible.1)
