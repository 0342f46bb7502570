-- The distances that a search over all right blocks ends with are the greatest prices, and prove
-- the pairing optimum.
-- Idea: the search starts at an imagined left block that offers every right block the distance 0,
-- so no distance is above zero. All right blocks are taken in the end, and no left block offers
-- less than what was taken: the distances go with the pairing, as prices have to. And each is 0, or
-- is tied by a tight pair to one that was taken before.
use Rattle.std.proofs.Common.{◌≡◌, ℕ, ◌<◌, ◌≤◌, Bool, true, false, List, ℤ, ◌+ℤ◌, ◌≤ℤ◌, sym, refl}
use Rattle.std.proofs.Common.{◌∙◌, inl, inr, ⊎_elim, arith}
use Rattle.std.proofs.lemmas.Int.{ints}
use Rattle.cost.specs.declared.TheConstants.{RAIL}
use Rattle.cost.specs.Columns.{zeros}
use Rattle.cost.proofs.Exact.{zeros_within}
use Rattle.cost.specs.Weights.{weight}
use Rattle.cost.proofs.Weights.{weight_zeros}
use Rattle.pairing.specs.Grid.{Grid, IsSane, at, IsPerfect, IsOptimum}
use Rattle.pairing.specs.Prices.{IsCostValue, AreValid, AreGreatest}
use Rattle.pairing.proofs.Crowds.{partial_perfect}
use Rattle.pairing.proofs.Weighing.{zeros_sized, value_from, value_same, price_from, price_same}
use Rattle.pairing.proofs.Attained.{Attained, attained_greatest}
use Rattle.pairing.proofs.Duality.{proves_optimum}
use Rattle.pairing.specs.Inside.{AreAlike}
use Rattle.pairing.proofs.Alike.{perfect_like}
use Rattle.assign.specs.Search.{Graph, Pairing, from_all, Course, Kept, Grown}
use Rattle.assign.proofs.Own.{own_row}

-- a pairing that leaves no left block out is perfect
pub perfect_of : {g : Graph} {q : Pairing} → Kept g q → ((l : ℕ) → l < g.size → q.out l ≡ false)
    → IsPerfect g.size g.stands q.partners
perfect_of {g = g} {q = q} kept all =
    partial_perfect g.size g.stands q.partners q.out kept.pairs all

-- what a search goes over that is told which pairs of a grid stand
abbrev pub graph_of : Grid → (ℕ → ℕ → Bool) → Graph
graph_of g stands =
    record { size = g.size; stands = stands; cost = λ l r. weight (g.cost l r) }

-- A search over a grid from an imagined left block has taken all right blocks, and its distances
-- have become prices. All left blocks are paired.
pub record HasPriced (g : Grid) (stands : ℕ → ℕ → Bool) (q : Pairing) (s : Course)
    (left right : ℕ → List ℤ) : Type 0 where
  pub alike : AreAlike g.size stands g.stands
  pub kept : Kept (graph_of g stands) q
  pub all : (l : ℕ) → l < g.size → q.out l ≡ false
  pub turns : ℕ
  pub grown : Grown (graph_of g stands) q from_all s turns g.size
  pub done : (c : ℕ) → c < g.size → s.stage c ≡ 1 → ⊥
  pub lefts : (l : ℕ) → l < g.size → IsCostValue g.columns (left l)
  pub rights : (r : ℕ) → r < g.size → IsCostValue g.columns (right r)
  pub priced : (r : ℕ) → r < g.size → weight (right r) ≡ s.dist r
  pub tight : (l : ℕ) → l < g.size
      → weight (left l) +ℤ weight (right (at q.partners l)) ≡ weight (g.cost l (at q.partners l))

module _ {g : Grid} (sane : IsSane g) {stands : ℕ → ℕ → Bool} {q : Pairing} {s : Course}
    {left right : ℕ → List ℤ} (prices : HasPriced g stands q s left right) where
  perfect : IsPerfect g.size g.stands q.partners
  perfect = perfect_like g.size stands g.stands prices.alike q.partners
      (perfect_of prices.kept prices.all)

  every : (c : ℕ) → c < g.size → 2 ≤ s.stage c
  every c h = grind (arith, prices.grown.offered c h refl, prices.done c h)

  fair : (l c : ℕ) → l < g.size → c < g.size → stands l c ≡ true
      → (s.dist c +ℤ weight (g.cost l (at q.partners l)))
      ≤ℤ (s.dist (at q.partners l) +ℤ weight (g.cost l c))
  fair l c hl hc st = (rw (own_row prices.kept l hl (prices.all l hl)) at (prices.grown.relaxed
      (at q.partners l) c (perfect.below l hl) hc (every (at q.partners l) (perfect.below l hl))
      (λ z. omega (arith, perfect.below l hl))) st).1

  valid : AreValid g left right q.partners
  valid = record {
    lefts = prices.lefts;
    rights = prices.rights;
    under = λ l r hl hr st.
        price_from g sane left right l r hl hr st (prices.lefts l hl) (prices.rights r hr)
        (omega (
          arith,
          ints,
          fair l r hl hr (prices.alike l r hl hr ∙ st),
          prices.tight l hl,
          prices.priced r hr,
          prices.priced (at q.partners l) (perfect.below l hl),
        ));
    equal = λ l hl. let hr = perfect.below l hl in
        price_same g sane left right l (at q.partners l) hl hr (perfect.standing l hl)
        (prices.lefts l hl) (prices.rights (at q.partners l) hr) (prices.tight l hl);
  }

  pub optimum : IsOptimum g q.partners
  optimum = proves_optimum g left right q.partners sane perfect valid

  zero_value : IsCostValue g.columns (zeros g.columns)
  zero_value = record { sized = zeros_sized g.columns; on_rail = zeros_within RAIL g.columns }

  attained : (r : ℕ) → r < g.size → Attained g left right q.partners s.stage r
  attained r h = ⊎_elim
      (λ e. inl (value_same g.columns (right r) (zeros g.columns) (prices.rights r h) zero_value
      (omega (arith, ints, prices.priced r h, e.2, weight_zeros g.columns))))
      (λ e.
      let l = s.via r in
      let st : g.stands l r ≡ true = sym (prices.alike l r e.0 h) ∙ e.3 in
      inr (
        l,
        e.0,
        st,
        price_same g sane left right l r e.0 h st (prices.lefts l e.0) (prices.rights r h)
            (omega (
              arith,
              ints,
              prices.tight l e.0,
              e.4,
              prices.priced r h,
              prices.priced (at q.partners l) (perfect.below l e.0),
            )),
        e.5 (every r h),
      ))
      (prices.grown.source r h (omega (arith, every r h)))

  pub greatest : AreGreatest g left right q.partners
  greatest = attained_greatest g sane left right q.partners perfect valid s.stage attained
      (λ r h. value_from g.columns (right r) (zeros g.columns) (prices.rights r h) zero_value
      (omega (
        arith,
        ints,
        prices.priced r h,
        (prices.grown.offered r h refl).1,
        weight_zeros g.columns,
      )))
