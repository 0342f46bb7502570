-- The search starts at the costs of left block k.
use Rattle.std.proofs.Common.{◌≡◌, ℕ, pos, false, ◌&&◌, sym, refl, ap, ◌∙◌, subst, arith, Option}
use Rattle.std.proofs.Common.{get_or}
use Rattle.std.proofs.Math.Bool.{and-true}
use Rattle.std.proofs.lemmas.Bool.{both_ways}
use Rattle.cost.specs.Columns.{AreWithin}
use Rattle.cost.proofs.Exact.{zeros_within}
use Rattle.cost.specs.Weights.{weight}
use Rattle.cost.proofs.Weights.{weight_zeros}
use Rattle.blockset.specs.Has.{no_blocks, has}
use Rattle.pairing.specs.Rows.{holds}
use Rattle.assign.specs.declared.limits.TheConstants.{SHIFT_LIMIT}
use Rattle.assign.specs.Weighed.{graph, weight_at}
use Rattle.assign.specs.Offers.{distances}
use Rattle.assign.specs.Search.{from_row}
use Rattle.assign.specs.Trees.{waiting, HasFree, Begins}
use Rattle.assign.specs.declared.tree.Nearby.{Nearby}
use Rattle.assign.proofs.Entries.{row_modest}
use Rattle.assign.proofs.Noting.{offer_notes, notes_again}
use Rattle.assign.proofs.Parts.{found_in}
use Rattle.assign.proofs.Starting.{started_row}
use Rattle.assign.proofs.growing.grow_from.Given as given
use Rattle.assign.proofs.growing.grow_from.Goals as goal
use Rattle.assign.proofs.growing.grow_from.Goals.{After-offer_held-next}

zero_weighs : (g : given.Over) (x : g.row.K.Denot) → x ≡ g.K.Cost.zero
    → weight (g.K.Cost.meaning x) ≡ pos 0
zero_weighs g x e = ap (λ z. weight (g.K.Cost.meaning z)) e
    ∙ ap weight g.met.K.Cost.laws.zero_columns ∙ weight_zeros g.K.Cost.columns

zero-within : (g : given.Over) (b : ℕ) (x : g.row.K.Denot) → x ≡ g.K.Cost.zero
    → AreWithin b (g.K.Cost.meaning x)
zero-within g b x e =
    subst (AreWithin b) (sym (ap g.K.Cost.meaning e ∙ g.met.K.Cost.laws.zero_columns))
    (zeros_within b g.K.Cost.columns)

pub offer_free-tree-requires-clause-modest : goal.offer_free-tree-requires-clause-modest
offer_free-tree-requires-clause-modest g c = row_modest c.requires.lent c.args.k
    c.requires.room refl refl (zero-within g SHIFT_LIMIT c.zero.result c.zero.ensures) (λ j t. t)

pub offer_free-tree-requires-clause-noted : goal.offer_free-tree-requires-clause-noted
offer_free-tree-requires-clause-noted g c = offer_notes c.requires.lent
    (has c.args.holders.now.held) (holds c.args.rows.now c.args.k)
    (weight_at g.K.Cost c.args.right.now) c.requires.room refl (λ j. refl) c.args.noted.now
    c.requires.noted

pub grow-requires-clause-noted : goal.grow-requires-clause-noted
grow-requires-clause-noted g c = notes_again c.requires.lent
    (has c.args.holders.now.held) (holds c.args.rows.now c.args.k)
    (weight_at g.K.Cost c.args.right.now) c.requires.room refl (λ j. refl) c.args.noted.now
    c.requires.noted c.offer_free-tree.new.noted c.offer_free-tree.ensures.noted
    c.offer_free-tree.ensures.others

pub offer_held-next-requires-clause-modest : goal.offer_held-next-requires-clause-modest
offer_held-next-requires-clause-modest g c = row_modest c.requires.lent c.args.k
    c.requires.room refl refl (zero-within g SHIFT_LIMIT c.zero.result c.zero.ensures) (λ j t. t)

-- left block k has made its offer, and the search begins with what came of it
started : (g : given.Over) (c : After-offer_held-next g)
    → HasFree g.K.Cost c.args.holders.now c.args.right.now (holds c.args.rows.now c.args.k)
    c.offer_free-tree.result
    × ((next : Option (Nearby g.row.K.Denot)) → Begins g.K.Cost c.args.rows.now c.args.costs.now
    c.args.holders.now c.args.right.now
    (from_row (graph g.K.Cost c.args.rows.now c.args.costs.now) c.args.k)
    (record {
      seen = get_or c.args.rows.now c.args.k no_blocks;
      via = c.offer_held-next.new.via;
      free = c.offer_free-tree.result;
      next = next;
    })
    c.offer_held-next.new.dist)
started g c = started_row (record {
  lent = c.requires.lent;
  room = c.requires.room;
  from = refl;
  row = refl;
  to = λ j. refl;
  seen = λ j. refl;
  zero = zero_weighs g c.zero.result c.zero.ensures;
  nothing = zero-within g 0 c.zero.result c.zero.ensures;
  empty = c.empty-none.ensures;
  none_before = refl;
  found = c.offer_free-tree.ensures.offered;
  made = c.offer_held-next.ensures.offered;
})

pub grow-requires-clause-near : goal.grow-requires-clause-near
grow-requires-clause-near g c = λ j r h. c.offer_held-next.ensures.bound 0 j
    (zero-within g 0 c.zero.result c.zero.ensures) (omega arith)
    (λ f. absurd (both_ways (holds c.args.rows.now c.args.k j) f r))
    (λ x. absurd (both_ways (has c.empty-none.result j) (c.empty-none.ensures j) x)) h

pub grow-requires-clause-free : goal.grow-requires-clause-free
grow-requires-clause-free g c =
    (started g (goal.at.grow-requires-clause-free g c).After-offer_held-next).0

pub grow-requires-clause-next : goal.grow-requires-clause-next
grow-requires-clause-next g c = found_in g.K.Cost (has c.intersection-rest.result)
    (waiting (has c.args.holders.now.held) (holds c.args.rows.now c.args.k) (λ _. false))
    c.args.right.now (distances g.K.Cost c.args.holders.now c.offer_held-next.new.dist)
    (distances g.K.Cost c.args.holders.now c.offer_held-next.new.dist) c.offer_held-next.result
    (λ j. and-true (holds c.args.rows.now c.args.k j && has c.args.holders.now.held j)
    ∙ sym (c.intersection-rest.ensures j)) (λ j _. refl) c.offer_held-next.ensures.found

pub returns-clause-grown : goal.returns-clause-grown
returns-clause-grown g c = c.grow.ensures.grown
    (from_row (graph g.K.Cost c.args.rows.now c.args.costs.now) c.args.k)
    ((started g (goal.at.returns-clause-grown g c).After-offer_held-next).1
    c.offer_held-next.result)
