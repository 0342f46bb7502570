-- The search starts at the distance 0 of every right block.
use Rattle.std.proofs.Common.{◌≡◌, ℕ, ◌<◌, Bool, true, false, ◌&&◌, ltb, length, replicate}
use Rattle.std.proofs.Common.{sym, ap, ◌∙◌, subst, ⊎_elim, arith}
use Rattle.std.proofs.lemmas.List.{get_or-replicate, get_or_past}
use Rattle.std.proofs.lemmas.Bool.{cases_Bool, cases_lt, and_parts, and_from, ltb-true, lt-ltb}
use Rattle.std.proofs.lemmas.Bool.Decides.{nat_tests}
use Rattle.cost.specs.declared.TheConstants.{COST_LIMIT}
use Rattle.cost.specs.Columns.{AreWithin}
use Rattle.cost.specs.Weights.{weight}
use Rattle.blockset.specs.Has.{has}
use Rattle.pairing.specs.Grid.{at}
use Rattle.tables.specs.Said.{columns_at}
use Rattle.assign.specs.declared.limits.TheConstants.{DISTANCE_LIMIT}
use Rattle.assign.specs.Weighed.{weight_at}
use Rattle.assign.specs.Offers.{distances}
use Rattle.assign.specs.Search.{from_all}
use Rattle.assign.specs.Trees.{waiting}
use Rattle.assign.proofs.Owners.{distance_is}
use Rattle.assign.proofs.Noting.{notes_none}
use Rattle.assign.proofs.Parts.{found_in}
use Rattle.assign.proofs.Pricing.{zero_at, cleared_within, cleared_weighs}
use Rattle.assign.proofs.Starting.{begins_all}
use Rattle.assign.proofs.growing.grow_all.Goals as goal

-- all right blocks of n are in the set of all
below : (all : ℕ → Bool) (n : ℕ) → ((c : ℕ) → all c ≡ (ltb c 64 && ltb c n)) → (c : ℕ)
    → all c ≡ true → c < n
below all n is c t = ltb-true c n (and_parts (ltb c 64) (ltb c n) (sym (is c) ∙ t)).1

pub nearest-next-requires-clause-far : goal.nearest-next-requires-clause-far
nearest-next-requires-clause-far g c = λ j t. cleared_within g.K.Cost g.K.Cost.zero
    g.K.Cost.columns g.met.K.Cost.laws.zero_columns (length c.args.rows.now) c.args.dist.now
    c.requires.cleared DISTANCE_LIMIT j
    (below (has c.all-seen.result) (length c.args.rows.now) c.all-seen.ensures j t)

pub grow-requires-clause-near : goal.grow-requires-clause-near
grow-requires-clause-near g c = λ j t h. subst (AreWithin COST_LIMIT)
    (sym (distance_is g.K.Cost c.args.holders.now c.args.dist.now j h))
    (cleared_within g.K.Cost g.K.Cost.zero g.K.Cost.columns g.met.K.Cost.laws.zero_columns
    (length c.args.rows.now) c.args.dist.now c.requires.cleared COST_LIMIT
    (at c.args.holders.now.owner j) (c.requires.owners.below j h))

pub grow-requires-clause-noted : goal.grow-requires-clause-noted
grow-requires-clause-noted g c = rw c.nothing-noted.ensures
    (notes_none g.K.Cost c.args.rows.now c.args.costs.now (has c.args.holders.now.held)
    (weight_at g.K.Cost c.args.right.now) c.requires.lent)

pub grow-requires-clause-next : goal.grow-requires-clause-next
grow-requires-clause-next g c =
    let kind = g.K.Cost in
    let n = length c.args.rows.now in
    let o = c.args.holders.now in
    let dist = c.args.dist.now in
    let all = has c.all-seen.result in
    let zero = zero_at kind kind.zero kind.columns g.met.K.Cost.laws.zero_columns n dist
    c.requires.cleared in
    let had : (j : ℕ) → has c.all-seen.result j ≡ true → has c.args.holders.now.held j ≡ true =
    λ j t. c.requires.all j (below all n c.all-seen.ensures j t) in
    found_in kind all (waiting (has o.held) all (λ _. false)) c.args.right.now
    (columns_at kind dist) (distances kind o dist) c.nearest-next.result
    (λ j. grind (arith, nat_tests, had j, cases_Bool (has c.all-seen.result j)))
    (λ j t. distance_is kind o dist j (had j t)
    ∙ zero (at o.owner j) (c.requires.owners.below j (had j t))
    ∙ sym (zero j (below all n c.all-seen.ensures j t)))
    c.nearest-next.ensures

pub returns-clause-grown : goal.returns-clause-grown
returns-clause-grown g c =
    let kind = g.K.Cost in
    let n = length c.args.rows.now in
    let o = c.args.holders.now in
    c.grow.ensures.grown from_all (begins_all kind c.args.rows.now c.args.costs.now o
    c.args.right.now c.args.dist.now c.all-seen.result c.args.tree.now.taken.from
    c.args.tree.now.free c.nearest-next.result
    (λ j h. c.all-seen.ensures j ∙ and_from (ltb j 64) (ltb j n)
    (lt-ltb j 64 (omega (arith, c.requires.lent.few))) (lt-ltb j n h))
    (λ j h. ap weight (distance_is kind o c.args.dist.now j h)
    ∙ cleared_weighs kind kind.zero kind.columns g.met.K.Cost.laws.zero_columns n
    c.args.dist.now c.requires.cleared (at o.owner j) (c.requires.owners.below j h))
    (λ j. ap (λ z. at z j) c.requires.fresh.from ∙ ⊎_elim (λ low. get_or-replicate 64 j 0 0 low)
    (λ high. get_or_past (replicate 64 0) j 0 high) (cases_lt j 64))
    c.requires.fresh.no_free)
