-- Each turn takes the nearest right block, and ends the search if it is free; else its left block
-- offers the ways through it, and the nearest one is known that is taken next.
use Rattle.std.proofs.Common.{◌≡◌, ℕ, ◌+◌, ◌<◌, ◌≤◌, true, length, List}
use Rattle.std.proofs.Common.{Option, Some, None, IfSome, Bool}
use Rattle.std.proofs.Common.{get_or, ◌+ℤ◌, ◌-ℤ◌, not, ◌&&◌, sym, refl, ap, ◌∙◌, subst}
use Rattle.std.proofs.Common.{arith, rules}
use Rattle.std.proofs.lemmas.Int.{ints}
use Rattle.std.proofs.lemmas.Bool.{and_parts}
use Rattle.std.proofs.lemmas.Bool.Decides.{nat_tests}
use Rattle.cost.specs.declared.TheConstants.{RAIL, HALF_RAIL, COST_LIMIT}
use Rattle.cost.specs.declared.Cost.{Ghosts}
use Rattle.cost.specs.Columns.{AreWithin}
use Rattle.cost.proofs.Exact.{within_more}
use Rattle.cost.specs.Weights.{weight}
use Rattle.blockset.specs.declared.BlockSet.{BlockSet}
use Rattle.blockset.specs.Has.{has}
use Rattle.pairing.specs.Grid.{at}
use Rattle.pairing.specs.Rows.{holds}
use Rattle.pairing.specs.Places.{place_of}
use Rattle.tables.specs.Said.{columns_at}
use Rattle.tables.proofs.Filling.{value_at, row_length}
use Rattle.matching.proofs.Inserting.{inserted}
use Rattle.matching.specs.declared.chains.Holders.{Holders}
use Rattle.assign.specs.declared.tree.Nearby.{Nearby}
use Rattle.assign.specs.declared.limits.TheConstants.{DISTANCE_LIMIT, SHIFT_LIMIT, KEY_LIMIT}
use Rattle.assign.specs.declared.limits.TheConstants.{INNER_PRICE_LIMIT}
use Rattle.assign.specs.Weighed.{cost_weight, weight_at, SearchTables}
use Rattle.assign.specs.Noted.{free_in}
use Rattle.assign.specs.Offers.{distances, HaveOwners}
use Rattle.assign.specs.Trees.{waiting, HasFree, HasNext}
use Rattle.assign.proofs.Entries.{part_of, part_is, row_modest}
use Rattle.assign.proofs.Noting.{offer_notes, notes_again, free_untaken}
use Rattle.assign.proofs.Owners.{known_at}
use Rattle.assign.proofs.Parts.{found_in}
use Rattle.assign.proofs.Turns.{IsChosen, far_at, turning_none, chosen, stuck, over, came}
use Rattle.assign.proofs.Turns.{far_enough, HasStopped}
use Rattle.assign.proofs.Turns.{turned}
use Rattle.assign.proofs.growing.grow.Given as given
use Rattle.assign.proofs.growing.grow.Goals as goal
use Rattle.assign.proofs.growing.grow.Goals.{After-insert, After-difference-to, After-index-row-a}

pub loop-t-init : goal.loop-t-init
loop-t-init g c = record {
  turning = turning_none c.args.tree.now c.args.next c.requires.fresh c.requires.inside
      c.requires.near c.requires.free c.requires.next;
  noted = c.requires.noted;
}

-- the keys of the nearest right blocks are near
free_near : {K : Type 0} (kind : Ghosts K) (holders : Holders) (right : List K)
    (seen : ℕ → Bool) (n : ℕ)
    → ((c : ℕ) → c < n → AreWithin INNER_PRICE_LIMIT (columns_at kind right c))
    → ((c : ℕ) → seen c ≡ true → c < n) → (free : Option (Nearby K))
    → HasFree kind holders right seen free
    → IfSome free (λ near. AreWithin HALF_RAIL (kind.meaning near.key))
free_near kind holders right seen n priced inside None none = tt
free_near kind holders right seen n priced inside (Some near) known =
    within_more (DISTANCE_LIMIT + INNER_PRICE_LIMIT) HALF_RAIL (kind.meaning near.key)
    (omega arith)
    (known.reach INNER_PRICE_LIMIT (priced near.block (inside near.block known.seen)) (omega arith))

held_near : {K : Type 0} (kind : Ghosts K) (holders : Holders) (right dist : List K)
    (seen taken : ℕ → Bool) (next : Option (Nearby K))
    → HasNext kind holders right dist seen taken next
    → IfSome next (λ near. AreWithin HALF_RAIL (kind.meaning near.key))
held_near kind holders right dist seen taken None none = tt
held_near kind holders right dist seen taken (Some near) nearest =
    within_more KEY_LIMIT HALF_RAIL (kind.meaning near.key) (omega arith) nearest.bound

pub nearer-requires : goal.nearer-requires
nearer-requires g c =
    let now = c.loop-t.invariant.turning in
    record {
      first = free_near g.K.Cost c.args.holders.now c.args.right.now (has c.loop-t.seen)
          (length c.args.rows.now) c.requires.priced now.inside c.loop-t.free
          now.nearest_free;
      second = held_near g.K.Cost c.args.holders.now c.args.right.now c.loop-t.dist
          (has c.loop-t.seen) (has c.loop-t.tree.taken.reached) c.loop-t.next now.nearest_held;
    }

-- the right block that is taken in this turn
taken_now : (g : given.Over) (c : After-insert g)
    → IsChosen c.loop-t.invariant.turning c.in-Some.near
taken_now g c =
    rw c.in-Some.is at (chosen c.loop-t.invariant.turning c.nearer.result c.nearer.ensures)

pub returns-in_default : goal.returns-in_default
returns-in_default g c =
    let w = rw c.in_default.is at (chosen c.loop-t.invariant.turning
    c.nearer.result c.nearer.ensures) in
    let e = subst (HasStopped c.loop-t.invariant.turning) (sym c.keep.ensures)
    (stuck c.loop-t.invariant.turning c.requires.lent.few (omega arith) w.0 w.1) in
    record { grown = e.0; ended = e.1; noted = c.loop-t.invariant.noted }

pub bounds-tree-a : goal.bounds-tree-a
bounds-tree-a g c =
    let w = taken_now g (goal.at.bounds-tree-a g c).After-insert in
    omega (
      arith,
      c.loop-t.invariant.turning.inside c.in-Some.near.block w.come_to,
      c.requires.lent.few,
    )

pub returns-then-not-contains : goal.returns-then-not-contains
returns-then-not-contains g c =
    let a = c.in-Some.near.block in
    let few = c.requires.lent.few in
    let w = taken_now g (goal.at.returns-then-not-contains g c).After-insert in
    let below : c.in-Some.near.block < length c.args.rows.now =
    c.loop-t.invariant.turning.inside a w.come_to in
    let more = inserted (has c.loop-t.tree.taken.reached) (has c.insert.new.self) a
    (omega (arith, few)) c.insert.ensures in
    let e = subst (HasStopped c.loop-t.invariant.turning) (sym c.keep-then-not-contains.ensures)
    (came c.loop-t.invariant.turning w c.insert.new.self more few
    (sym c.contains.ensures ∙ c.if-not-contains.true) c.loop-t-test.true) in
    record { grown = e.0; ended = e.1; noted = c.loop-t.invariant.noted }

pub bounds-holders-a : goal.bounds-holders-a
bounds-holders-a g c =
    let w = taken_now g (goal.at.bounds-holders-a g c).After-insert in
    omega (
      arith,
      c.loop-t.invariant.turning.inside c.in-Some.near.block w.come_to,
      c.requires.lent.few,
    )

pub slice_bounds-row-end : goal.slice_bounds-row-end
slice_bounds-row-end g c =
    let held = sym c.contains.ensures ∙ c.if-not-contains.false in
    let hl = c.requires.owners.below c.in-Some.near.block held in
    search rules

-- what turn t has at hand: right block a, which is had, how far it is (x), and what it costs with
-- the left block that has it (y)
record IsAtHand {K : Type 0} (kind : Ghosts K) (rows : List BlockSet) (costs : List K)
    (holders : Holders) (dist : List K) (a t : ℕ) (x y : K) : Type 0 where
  pub lent : SearchTables kind rows costs
  pub owners : HaveOwners (length rows) holders
  pub long : length dist ≡ length rows
  pub time : t < length rows
  pub had : has holders.held a ≡ true
  pub own : holds rows (at holders.owner a) a ≡ true
  pub far : AreWithin (far_at t) (distances kind holders dist a)
  pub dist_read : x ≡ get_or dist (at holders.owner a) x
  pub cost_read : y ≡ get_or (part_of (length rows) (at holders.owner a) costs) a y

module _ {K : Type 0} {kind : Ghosts K} {rows : List BlockSet} {costs : List K}
    {holders : Holders} {dist : List K} {a t : ℕ} {x y : K}
    (hand : IsAtHand kind rows costs holders dist a t x y) where
  abbrev l : ℕ
  l = at holders.owner a

  hl : l < length rows
  hl = hand.owners.below a hand.had

  cost_known : kind.meaning y ≡ columns_at kind costs (place_of (length rows) l a)
  cost_known = value_at kind (part_of (length rows) l costs) a y
      (omega (
        arith,
        row_length costs (length rows) l hl hand.lent.square,
        hand.lent.inside l a hl hand.own,
      ))
      hand.cost_read ∙ part_is hand.lent l hl a hand.own

  dist_known : kind.meaning x ≡ distances kind holders dist a
  dist_known = known_at kind hand.owners dist hand.long a hand.had x hand.dist_read

  dist_within : (b : ℕ) → far_at t ≤ b → AreWithin b (kind.meaning x)
  dist_within b le = within_more (far_at t) b (kind.meaning x) le
      (subst (AreWithin (far_at t)) (sym dist_known) hand.far)

  cost_within : (b : ℕ) → COST_LIMIT ≤ b → AreWithin b (kind.meaning y)
  cost_within b le = within_more COST_LIMIT b (kind.meaning y) le
      (subst (AreWithin COST_LIMIT) (sym cost_known) (hand.lent.modest l a hl hand.own))

  -- z is how far the way through the right block goes
  module _ (z : K) where
    shift_weighs : weight (kind.meaning z) ≡ weight (kind.meaning x) -ℤ weight (kind.meaning y)
        → weight (kind.meaning z) +ℤ cost_weight kind (length rows) costs l a
        ≡ weight (distances kind holders dist a)
    shift_weighs sum =
        let p = ap weight dist_known in
        let q = ap weight cost_known in
        omega (arith, ints, sum)

    module _ (bound : (b b' : ℕ) → AreWithin b (kind.meaning x) → AreWithin b' (kind.meaning y)
        → b + b' ≤ RAIL → AreWithin (b + b') (kind.meaning z)) where
      shift_within : AreWithin (far_at t + COST_LIMIT) (kind.meaning z)
      shift_within = bound (far_at t) COST_LIMIT (dist_within (far_at t) (omega arith))
          (cost_within COST_LIMIT (omega arith)) (omega (arith, hand.lent.few, hand.time))

      shift_limited : AreWithin SHIFT_LIMIT (kind.meaning z)
      shift_limited = within_more (far_at t + COST_LIMIT) SHIFT_LIMIT (kind.meaning z)
          (omega (arith, hand.lent.few, hand.time)) shift_within

-- the right block that is taken is had, so the turn goes on
at_hand : (g : given.Over) (c : After-index-row-a g) → IsAtHand g.K.Cost c.args.rows.now
    c.args.costs.now c.args.holders.now c.loop-t.dist c.in-Some.near.block c.loop-t.t
    c.index-dist-l.result c.index-row-a.result
at_hand g c =
    let a = c.in-Some.near.block in
    let held = sym c.contains.ensures ∙ c.if-not-contains.false in
    let w = rw c.in-Some.is at (chosen c.loop-t.invariant.turning c.nearer.result
    c.nearer.ensures) in
    record {
      lent = c.requires.lent;
      owners = c.requires.owners;
      long = c.loop-t.auto.dist ∙ c.requires.dists;
      time = c.loop-t-test.true;
      had = held;
      own = c.requires.own a held;
      far = c.loop-t.invariant.turning.near a w.come_to held;
      dist_read = c.index-dist-l.is;
      cost_read = c.index-row-a.is;
    }

pub exact_difference-requires : goal.exact_difference-requires
exact_difference-requires g c =
    let hand = at_hand g (goal.at.exact_difference-requires g c).After-index-row-a in
    record {
      first = dist_within hand HALF_RAIL (omega (arith, c.requires.lent.few));
      second = cost_within hand HALF_RAIL (omega arith);
    }

pub offer_free-free-requires-clause-modest : goal.offer_free-free-requires-clause-modest
offer_free-free-requires-clause-modest g c =
    let l = at c.args.holders.now.owner c.in-Some.near.block in
    let hand = at_hand g (goal.at.offer_free-free-requires-clause-modest g c).After-index-row-a in
    row_modest c.requires.lent l (hl hand) refl refl
    (shift_limited hand c.exact_difference.result c.exact_difference.ensures.bound)
    (λ j r. (and_parts (holds c.args.rows.now l j) (not (has c.insert.new.self j))
    (sym (c.difference-to.ensures j) ∙ r)).0)

pub offer_free-free-requires-clause-inside : goal.offer_free-free-requires-clause-inside
offer_free-free-requires-clause-inside g c =
    let l = at c.args.holders.now.owner c.in-Some.near.block in
    let hl = c.requires.owners.below c.in-Some.near.block
    (sym c.contains.ensures ∙ c.if-not-contains.false) in
    let long = row_length c.args.costs.now (length c.args.rows.now) l hl c.requires.lent.square in
    λ j r. omega (
      arith,
      long,
      c.requires.lent.inside l j hl (and_parts (holds c.args.rows.now l j)
          (not (has c.insert.new.self j)) (sym (c.difference-to.ensures j) ∙ r)).0,
    )

pub offer_free-free-requires-clause-known : goal.offer_free-free-requires-clause-known
offer_free-free-requires-clause-known g c = free_near g.K.Cost c.args.holders.now c.args.right.now
    (has c.loop-t.seen) (length c.args.rows.now) c.requires.priced
    c.loop-t.invariant.turning.inside c.loop-t.free c.loop-t.invariant.turning.nearest_free

-- the offer goes to all free right blocks that the left block stands with
offers_free : (g : given.Over) (c : After-difference-to g) → (j : ℕ)
    → free_in (has c.difference-to.result) (has c.args.holders.now.held) j
    ≡ free_in (holds c.args.rows.now (at c.args.holders.now.owner c.in-Some.near.block))
    (has c.args.holders.now.held) j
offers_free g c =
    let a = c.in-Some.near.block in
    let w = rw c.in-Some.is at (chosen c.loop-t.invariant.turning c.nearer.result
    c.nearer.ensures) in
    let below : c.in-Some.near.block < length c.args.rows.now =
    c.loop-t.invariant.turning.inside a w.come_to in
    free_untaken (holds c.args.rows.now (at c.args.holders.now.owner a))
    (has c.difference-to.result) (has c.loop-t.tree.taken.reached) (has c.insert.new.self)
    (has c.args.holders.now.held) a c.difference-to.ensures
    (inserted (has c.loop-t.tree.taken.reached) (has c.insert.new.self) a
    (omega (arith, c.requires.lent.few)) c.insert.ensures)
    c.loop-t.invariant.turning.held (sym c.contains.ensures ∙ c.if-not-contains.false)

pub offer_free-free-requires-clause-noted : goal.offer_free-free-requires-clause-noted
offer_free-free-requires-clause-noted g c =
    let a = c.in-Some.near.block in
    offer_notes c.requires.lent (has c.args.holders.now.held) (has c.difference-to.result)
    (weight_at g.K.Cost c.args.right.now)
    (c.requires.owners.below a (sym c.contains.ensures ∙ c.if-not-contains.false)) refl
    (offers_free g (goal.at.offer_free-free-requires-clause-noted g c).After-difference-to)
    c.loop-t.noted c.loop-t.invariant.noted

pub offer_held-next-requires-clause-modest : goal.offer_held-next-requires-clause-modest
offer_held-next-requires-clause-modest g c =
    let l = at c.args.holders.now.owner c.in-Some.near.block in
    let hand = at_hand g (goal.at.offer_held-next-requires-clause-modest g c).After-index-row-a in
    row_modest c.requires.lent l (hl hand) refl refl
    (shift_limited hand c.exact_difference.result c.exact_difference.ensures.bound)
    (λ j r. (and_parts (holds c.args.rows.now l j) (not (has c.insert.new.self j))
    (sym (c.difference-to.ensures j) ∙ r)).0)

pub offer_held-next-requires-clause-inside : goal.offer_held-next-requires-clause-inside
offer_held-next-requires-clause-inside g c =
    let l = at c.args.holders.now.owner c.in-Some.near.block in
    let hl = c.requires.owners.below c.in-Some.near.block
    (sym c.contains.ensures ∙ c.if-not-contains.false) in
    let long = row_length c.args.costs.now (length c.args.rows.now) l hl c.requires.lent.square in
    λ j r. grind (
      arith,
      nat_tests,
      long,
      c.difference-rest.ensures j,
      c.intersection.ensures j,
      c.union-seen.ensures j,
      c.difference-to.ensures j,
      c.loop-t.invariant.turning.inside j,
      c.requires.lent.inside l j hl,
    )

pub offer_held-next-requires-clause-waiting : goal.offer_held-next-requires-clause-waiting
offer_held-next-requires-clause-waiting g c = λ j t h. grind (
  arith,
  nat_tests,
  c.difference-rest.ensures j,
  c.intersection.ensures j,
  c.union-seen.ensures j,
  c.difference-to.ensures j,
)

pub offer_held-next-requires-clause-known : goal.offer_held-next-requires-clause-known
offer_held-next-requires-clause-known g c = λ j r s. far_enough c.loop-t.invariant.turning
    c.requires.lent.few (omega (arith, c.loop-t-test.true)) j s
    (grind (arith, nat_tests, c.difference-rest.ensures j, c.intersection.ensures j))

pub loop-t-preserved : goal.loop-t-preserved
loop-t-preserved g c =
    let a = c.in-Some.near.block in
    let few = c.requires.lent.few in
    let w = taken_now g (goal.at.loop-t-preserved g c).After-insert in
    let held = sym c.contains.ensures ∙ c.if-not-contains.false in
    let below : c.in-Some.near.block < length c.args.rows.now =
    c.loop-t.invariant.turning.inside a w.come_to in
    let more = inserted (has c.loop-t.tree.taken.reached) (has c.insert.new.self) a
    (omega (arith, few)) c.insert.ensures in
    let hand = at_hand g (goal.at.loop-t-preserved g c).After-index-row-a in
    let turning = turned c.loop-t.invariant.turning w c.insert.new.self more few (record {
      lent = c.requires.lent;
      time = c.loop-t-test.true;
      owned = held;
      owner = c.requires.owners.below a held;
      from = refl;
      to = c.difference-to.ensures;
      row = refl;
      shift = shift_weighs hand c.exact_difference.result c.exact_difference.ensures.sum;
      shift_near = shift_within hand c.exact_difference.result c.exact_difference.ensures.bound;
      joined = c.union-seen.ensures;
      offered_free = c.offer_free-free.ensures.offered;
      made = c.offer_held-next.ensures.offered;
      bound = c.offer_held-next.ensures.bound;
      next_held = found_in g.K.Cost (has c.difference-rest.result)
          (waiting (has c.args.holders.now.held) (has c.union-seen.result) (has c.insert.new.self))
          c.args.right.now (distances g.K.Cost c.args.holders.now c.offer_held-next.new.dist)
          (distances g.K.Cost c.args.holders.now c.offer_held-next.new.dist)
          c.offer_held-next.result (λ j. sym (c.difference-rest.ensures j
          ∙ ap (λ z. z && not (has c.insert.new.self j)) (c.intersection.ensures j))) (λ j _. refl)
          c.offer_held-next.ensures.found;
    }) c.loop-t.invariant.turning.no_goal in
    record {
      turning = turning;
      noted = notes_again c.requires.lent (has c.args.holders.now.held)
          (has c.difference-to.result) (weight_at g.K.Cost c.args.right.now)
          (c.requires.owners.below a held) refl
          (offers_free g (goal.at.loop-t-preserved g c).After-difference-to)
          c.loop-t.noted c.loop-t.invariant.noted c.offer_free-free.new.noted
          c.offer_free-free.ensures.noted c.offer_free-free.ensures.others;
    }

pub returns : goal.returns
returns g c =
    let e = subst (HasStopped c.loop-t.invariant.turning) (sym c.keep-2.ensures)
    (over c.loop-t.invariant.turning c.requires.lent.few (omega arith)) in
    record { grown = e.0; ended = e.1; noted = c.loop-t.invariant.noted }
