-- The reader hands out the line that leads on, so an arc is one that a sheet takes, and once it was
-- entered, the tables are those after one pair more.
use Rattle.std.proofs.Common.{ℕ, List, None, [], ◌∷◌, ◌≡◌, ◌≤◌, sym, ap, ◌∙◌, subst, rules}
use Rattle.std.proofs.Common.{unsigned_abs}
use Rattle.cost.specs.declared.TheConstants.{COST_LIMIT}
use Rattle.orderfile.specs.Loading.{costs_after}
use Rattle.orderfile.specs.Format.{StatedOrder}
use Rattle.dimacs.specs.Texts.{States, pair_of}
use Rattle.dimacs.proofs.Entering.{arc_handed, other_passes, all_entered, never_stuck}
use Rattle.dimacs.proofs.Verdicts.{one_order}
use Rattle.dimacs.proofs.importing.enter_all.Goals as goal

-- the text states one order, whose size is known
size_of_it : {n : ℕ} {text : List ℕ}
    → (order : StatedOrder) × States text order × (order.size ≡ n)
    → (order : StatedOrder) → States text order → order.size ≡ n
size_of_it {text = text} (order, s, size) other t =
    ap (λ o. o.size) (one_order text other order t s) ∙ size

pub enter_arc-requires : goal.enter_arc-requires
enter_arc-requires c =
    let was = c.loop-line.invariant in
    let arc = c.in-Arc in
    let (order, s, size) = c.requires.stated in
    let read = rw (c.in-Ok-Some.field-0-is, arc.is, was.text) at c.in-Ok-Some.ensures.reads in
    let handed = arc_handed s size c.args.costs.now c.args.standing.now (was.ahead order s size)
    read in
    record {
      places = search rules;
      nodes = handed.nodes;
      within = subst (λ z. unsigned_abs z ≤ COST_LIMIT) (sym handed.same) handed.within;
    }

pub loop-line-preserved-in-Arc : goal.loop-line-preserved-in-Arc
loop-line-preserved-in-Arc c =
    let was = c.loop-line.invariant in
    let arc = c.in-Arc in
    let read = rw (c.in-Ok-Some.field-0-is, arc.is, was.text) at c.in-Ok-Some.ensures.reads in
    record {
      text = c.in-Ok-Some.ensures.same ∙ was.text;
      ahead = λ order s size.
          let handed = arc_handed s size c.args.costs.now c.args.standing.now
          (was.ahead order s size) read in
          let costs = c.enter_arc.ensures.costs
          ∙ ap (λ z. costs_after c.args.n (pair_of c.args.n arc.left.value arc.right.value z ∷ [])
          c.loop-line.costs c.loop-line.standing) handed.same in
          rw (costs, c.enter_arc.ensures.standing) handed.enters;
    }

pub loop-line-preserved : goal.loop-line-preserved
loop-line-preserved c =
    let was = c.loop-line.invariant in
    let read = rw (c.in-Ok-Some.field-0-is, was.text) at c.in-Ok-Some.ensures.reads in
    record {
      text = c.in-Ok-Some.ensures.same ∙ was.text;
      ahead = λ order s size. other_passes s size c.args.costs.now c.args.standing.now
          (was.ahead order s size) read c.in_default-line.not-Arc;
    }

pub returns-in_default : goal.returns-in_default
returns-in_default c order s =
    let was = c.loop-line.invariant in
    let none : c.in_default.field-0 ≡ None = search rules in
    let reads = rw (c.in_default.is, none, was.text) at c.next.ensures.reads in
    let size = size_of_it c.requires.stated order s in
    all_entered s size c.args.costs.now c.args.standing.now (was.ahead order s size) reads.0

pub returns-in_default-2 : goal.returns-in_default-2
returns-in_default-2 c order s =
    let was = c.loop-line.invariant in
    let reads = rw (c.in_default.is, was.text) at c.next.ensures.reads in
    let size = size_of_it c.requires.stated order s in
    absurd (never_stuck s size c.args.costs.now c.args.standing.now (was.ahead order s size)
    reads.0 reads.1)
