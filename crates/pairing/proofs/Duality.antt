-- What valid prices prove: their pairing is optimum, just the tight perfect pairings are, and the
-- greatest prices are unique.
-- Idea: every perfect pairing uses each left and each right block once, so the prices of its pairs
-- always come to the same sum. A standing pair never costs less than its prices, so no perfect
-- pairing costs less than that sum; the valid prices' own pairing costs just it. Another perfect
-- pairing costs the same exactly if none of its pairs exceeds its prices, that is, if it is tight.
-- Greatest prices: each of two such systems is at least the other, so their right prices weigh the
-- same, and are the same.
use Rattle.std.proofs.Common.{◌≡◌, ℕ, ◌+◌, ◌*◌, ◌<◌, true, List, length, ℤ, ◌+ℤ◌, ◌-ℤ◌, ◌≤ℤ◌}
use Rattle.std.proofs.Common.{sym, ap, ◌∙◌, arith}
use Rattle.std.proofs.lemmas.Int.{ints}
use Rattle.cost.specs.declared.TheConstants.{RAIL}
use Rattle.cost.specs.Columns.{minus}
use Rattle.cost.proofs.Exact.{minus-within, within_more, length-columnwise}
use Rattle.cost.specs.Weights.{weight}
use Rattle.cost.proofs.Weights.{same_from, weight_minus}
use Rattle.pairing.specs.Grid.{Grid, IsSane, at, IsPerfectIn, total, IsOptimum}
use Rattle.pairing.specs.Prices.{AreValid, AreTight, AreGreatest}
use Rattle.pairing.specs.Theorems.{ProvesOptimum, OptimumIfTight, TightAlike, ValidAlike}
use Rattle.pairing.specs.Theorems.{GreatestAlike}
use Rattle.pairing.proofs.Sums.{sum_z, sum-le, sum_same, sum_add, sum_tight}
use Rattle.pairing.proofs.Counting.{sum_shuffle}
use Rattle.pairing.proofs.Weighing.{value_light, value_upto, value_same, cost_value, total_value}
use Rattle.pairing.proofs.Weighing.{total_is, total_from, price_upto, price_same, price_is}

module _ (g : Grid) (s : IsSane g) (left right : ℕ → List ℤ) where
  -- what two prices weigh
  both : ℕ → ℕ → ℤ
  both l r = weight (left l) +ℤ weight (right r)

  -- the prices of the pairs of any perfect pairing come to the same
  all_prices : (q : List ℕ) → IsPerfectIn g q → sum_z g.size (λ l. both l (at q l)) ≡ sum_z g.size
      (λ l. weight (left l)) +ℤ sum_z g.size (λ r. weight (right r))
  unfolding both
  all_prices q k =
      omega (
        arith,
        ints,
        sum_add g.size (λ l. weight (left l)) (λ l. weight (right (at q l))),
        sum_shuffle g.size g.stands q k (λ r. weight (right r)),
      )

  module _ (p : List ℕ) (h : IsPerfectIn g p) (v : AreValid g left right p) where
    pub pair_under : (l r : ℕ) → l < g.size → r < g.size → g.stands l r ≡ true
        → (weight (left l) +ℤ weight (right r)) ≤ℤ weight (g.cost l r)
    pair_under l r i j t = price_upto g s left right l r i j t (v.lefts l i) (v.rights r j)
        (v.under l r i j t)

    -- tight pairs by their weights, at any perfect pairing
    pub tight_is : (q : List ℕ) → IsPerfectIn g q → AreTight g left right q → (l : ℕ) → l < g.size
        → weight (left l) +ℤ weight (right (at q l)) ≡ weight (g.cost l (at q l))
    tight_is q k t l i = price_is g s left right l (at q l) i (k.below l i) (k.standing l i)
        (v.lefts l i) (v.rights (at q l) (k.below l i)) (t l i)

    total_price : weight (total g p) ≡ sum_z g.size (λ l. both l (at p l))
    unfolding both
    total_price = total_is g s p h
        ∙ sym (sum_same g.size (λ l. both l (at p l)) (λ l. weight (g.cost l (at p l)))
        (tight_is p h v.equal))

    under_total : (q : List ℕ) → IsPerfectIn g q
        → sum_z g.size (λ l. both l (at q l)) ≤ℤ sum_z g.size
        (λ l. weight (g.cost l (at q l)))
    unfolding both
    under_total q k = sum-le g.size (λ l. both l (at q l)) (λ l. weight (g.cost l (at q l)))
        (λ l i. pair_under l (at q l) i (k.below l i) (k.standing l i))

    pub optimum : IsOptimum g p
    optimum = record {
      perfect = h;
      least = λ q k. total_from g s p q h k
          (omega (
            arith,
            ints,
            total_price,
            all_prices p h,
            all_prices q k,
            under_total q k,
            total_is g s q k,
          ));
    }

    pub tight : (q : List ℕ) → IsOptimum g q → AreTight g left right q
    unfolding both
    tight q o l i =
        let k = o.perfect in
        let at_most = value_upto g.columns (total g q) (total g p) (total_value g s q k)
        (total_value g s p h) (o.least p h) in
        let same = sum_tight g.size (λ l. both l (at q l)) (λ l. weight (g.cost l (at q l)))
        (λ l i. pair_under l (at q l) i (k.below l i) (k.standing l i))
        (omega (arith, ints, total_price, all_prices p h, all_prices q k, total_is g s q k)) in
        price_same g s left right l (at q l) i (k.below l i) (k.standing l i) (v.lefts l i)
        (v.rights (at q l) (k.below l i)) (same l i)

    pub valid_for : (q : List ℕ) → AreTight g left right q → AreValid g left right q
    valid_for q t = record { lefts = v.lefts; rights = v.rights; under = v.under; equal = t }

pub proves_optimum : ProvesOptimum
proves_optimum g left right p s h v = optimum g s left right p h v

pub optimum_if_tight : OptimumIfTight
optimum_if_tight g left right p q s h v k = (
  λ t. optimum g s left right q k (valid_for g s left right p h v q t),
  tight g s left right p h v q,
)

pub tight_alike : TightAlike
tight_alike g left right left' right' p p' q s h v h' v' k =
    let a = optimum_if_tight g left right p q s h v k in
    let c = optimum_if_tight g left' right' p' q s h' v' k in
    (λ t. c.1 (a.0 t), λ t. a.1 (c.0 t))

pub valid_alike : ValidAlike
valid_alike g left right p q s h v k = (
  λ o. valid_for g s left right p h v q (tight g s left right p h v q o),
  optimum g s left right q k,
)

-- ---- the greatest prices

module _ (g : Grid) (s : IsSane g) (left right : ℕ → List ℤ) (p : List ℕ) (h : IsPerfectIn g p)
    (v : AreValid g left right p) where
  pub left_is : (l : ℕ) → l < g.size → left l ≡ minus (g.cost l (at p l)) (right (at p l))
  left_is l i =
      let r = at p l in
      let c = cost_value g s l r i (h.below l i) (h.standing l i) in
      let w = v.rights r (h.below l i) in
      let a = v.lefts l i in
      let e = weight_minus (g.cost l r) (right r) (c.sized ∙ sym w.sized) in
      let t = tight_is g s left right p h v p h v.equal l i in
      let sized : length (minus (g.cost l r) (right r)) ≡ g.columns =
      length-columnwise ◌-ℤ◌ (g.cost l r) (right r) (c.sized ∙ sym w.sized) ∙ c.sized in
      same_from (left l) (minus (g.cost l r) (right r)) (a.sized ∙ sym sized)
      (value_light g.columns (left l) a)
      (within_more (RAIL + RAIL) (4000 * RAIL) (minus (g.cost l r) (right r)) (omega arith)
      (minus-within RAIL RAIL (g.cost l r) (right r) c.on_rail w.on_rail))
      (omega (arith, ints))

module _ (g : Grid) (s : IsSane g) (left right left' right' : ℕ → List ℤ) (p q : List ℕ)
    (h : IsPerfectIn g p) (k : IsPerfectIn g q) (a : AreGreatest g left right p)
    (b : AreGreatest g left' right' q) where
  -- prices valid for p are valid for q too, since q is optimum
  moved : AreValid g left right q
  moved = (valid_alike g left right p q s h a.valid k).0 (optimum g s left' right' q k b.valid)

  back : AreValid g left' right' p
  back = (valid_alike g left' right' q p s k b.valid h).0 (optimum g s left right p h a.valid)

  rights_same : (r : ℕ) → r < g.size → right r ≡ right' r
  rights_same r j =
      let v = a.valid.rights r j in
      let w = b.valid.rights r j in
      let up = value_upto g.columns (right r) (right' r) v w (b.most left right moved a.low r j) in
      let down = value_upto g.columns (right' r) (right r) w v (a.most left' right' back b.low r j)
      in
      value_same g.columns (right r) (right' r) v w (omega (arith, ints))

  lefts_same : (l : ℕ) → l < g.size → left l ≡ left' l
  lefts_same l i =
      left_is g s left right p h a.valid l i ∙ ap (minus (g.cost l (at p l)))
      (rights_same (at p l) (h.below l i)) ∙ sym (left_is g s left' right' p h back l i)

pub greatest_alike : GreatestAlike
greatest_alike g left right left' right' p q s h k a b = (
  rights_same g s left right left' right' p q h k a b,
  λ l i. (
    lefts_same g s left right left' right' p q h k a b l i,
    left_is g s left right p h a.valid l i,
  ),
)
