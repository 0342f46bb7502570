-- The costs, totals and prices of a grid as single integers, so that chains of comparisons become
-- linear arithmetic.
-- Idea: a column list weighs an integer; sums of columns weigh the sums, and columns far from 2^62
-- keep their order. A total is at most 64 costs of 10^9 and a pair of prices at most 2 · 10^15, so
-- both stay far below.
use Rattle.std.proofs.Common.{◌≡◌, ℕ, zero, suc, ◌+◌, ◌*◌, ◌<◌, ◌≤◌, true, List, length, ℤ, pos}
use Rattle.std.proofs.Common.{◌+ℤ◌, ◌≤ℤ◌, sym, ap, ◌∙◌, arith}
use Rattle.std.proofs.lemmas.Int.{ints}
use Rattle.std.proofs.lemmas.List.{length-replicate}
use Rattle.cost.specs.declared.TheConstants.{RAIL, COST_LIMIT}
use Rattle.cost.specs.Columns.{AreWithin, zeros, plus}
use Rattle.cost.proofs.Exact.{plus-within, zeros_within, within_more, length-columnwise}
use Rattle.cost.specs.Weights.{weight, IsLight}
use Rattle.cost.proofs.Weights.{upto_is, upto_from, same_from, weight_plus, weight_zeros}
use Rattle.pairing.specs.Grid.{Grid, IsSane, at, IsPerfectIn, total_of, total, IsUpto}
use Rattle.pairing.specs.Prices.{IsCostValue, IsTight}
use Rattle.pairing.proofs.Sums.{sum_z}

pub value_light : (columns : ℕ) (xs : List ℤ) → IsCostValue columns xs → IsLight xs
value_light columns xs v = within_more RAIL (4000 * RAIL) xs (omega arith)
    v.on_rail

pub zeros_sized : (columns : ℕ) → length (zeros columns) ≡ columns
zeros_sized columns = length-replicate columns (pos 0)

-- two values compare as they weigh
module _ (columns : ℕ) (xs ys : List ℤ) (v : IsCostValue columns xs) (w : IsCostValue columns ys)
  where
    pub value_upto : IsUpto xs ys → weight xs ≤ℤ weight ys
    value_upto = upto_is xs ys (v.sized ∙ sym w.sized) (value_light columns xs v)
        (value_light columns ys w)

    pub value_from : weight xs ≤ℤ weight ys → IsUpto xs ys
    value_from = upto_from xs ys (v.sized ∙ sym w.sized) (value_light columns xs v)
        (value_light columns ys w)

    pub value_same : weight xs ≡ weight ys → xs ≡ ys
    value_same = same_from xs ys (v.sized ∙ sym w.sized) (value_light columns xs v)
        (value_light columns ys w)

    pub value_plus : weight (plus xs ys) ≡ weight xs +ℤ weight ys
    value_plus = weight_plus xs ys (v.sized ∙ sym w.sized)

    plus_sized : length (plus xs ys) ≡ columns
    plus_sized = length-columnwise ◌+ℤ◌ xs ys (v.sized ∙ sym w.sized) ∙ v.sized

    plus_light : IsLight (plus xs ys)
    plus_light = within_more (RAIL + RAIL) (4000 * RAIL) (plus xs ys) (omega arith)
        (plus-within RAIL RAIL xs ys v.on_rail w.on_rail)

pub value_low : (columns : ℕ) (xs : List ℤ) → IsCostValue columns xs → IsUpto xs (zeros columns)
    → weight xs ≤ℤ pos 0
value_low columns xs v u =
    let e = weight_zeros columns in
    let h = value_upto columns xs (zeros columns) v
    (record { sized = zeros_sized columns; on_rail = zeros_within RAIL columns }) u
    in
    omega (arith, ints)

module _ (g : Grid) (s : IsSane g) where
  -- what a standing pair costs is a value
  pub cost_value : (l r : ℕ) → l < g.size → r < g.size → g.stands l r ≡ true
      → IsCostValue g.columns (g.cost l r)
  cost_value l r i j t =
      record {
        sized = s.sized l r i j t;
        on_rail = within_more COST_LIMIT RAIL
            (g.cost l r) (omega arith) (s.small l r i j t);
      }

  module _ (p : List ℕ) (h : IsPerfectIn g p) where
    total_sized : (k : ℕ) → k ≤ g.size → length (total_of g p k) ≡ g.columns
    total_sized zero b = zeros_sized g.columns
    total_sized (suc k) b =
        let ih = total_sized k (omega arith) in
        let c = s.sized k (at p k) (omega arith) (h.below k (omega arith))
        (h.standing k (omega arith)) in
        length-columnwise ◌+ℤ◌ (total_of g p k) (g.cost k (at p k)) (ih ∙ sym c) ∙ ih

    -- the costs of the first k pairs together are within k times the limit of one
    pub total-within : (k : ℕ) → k ≤ g.size → AreWithin (k * COST_LIMIT) (total_of g p k)
    total-within zero b = zeros_within 0 g.columns
    total-within (suc k) b =
        within_more (k * COST_LIMIT + COST_LIMIT) (suc k * COST_LIMIT) (total_of g p (suc k))
        (omega arith)
        (plus-within (k * COST_LIMIT) COST_LIMIT (total_of g p k) (g.cost k (at p k))
        (total-within k (omega arith))
        (s.small k (at p k) (omega arith) (h.below k (omega arith)) (h.standing k (omega arith))))

    total_weight : (k : ℕ) → k ≤ g.size → weight (total_of g p k) ≡ sum_z k
        (λ l. weight (g.cost l (at p l)))
    total_weight zero b = weight_zeros g.columns
    total_weight (suc k) b =
        weight_plus (total_of g p k) (g.cost k (at p k))
        (total_sized k (omega arith)
        ∙ sym (s.sized k (at p k) (omega arith) (h.below k (omega arith))
        (h.standing k (omega arith))))
        ∙ ap (λ z. z +ℤ weight (g.cost k (at p k))) (total_weight k (omega arith))

    -- a total is a value, and weighs what the costs of its pairs weigh together
    pub total_value : IsCostValue g.columns (total g p)
    total_value = record {
      sized = total_sized g.size (omega arith);
      on_rail = within_more (g.size * COST_LIMIT) RAIL (total g p)
          (omega (arith, s.few)) (total-within g.size (omega arith));
    }

    pub total_is : weight (total g p) ≡ sum_z g.size (λ l. weight (g.cost l (at p l)))
    total_is = total_weight g.size (omega arith)

  pub total_from : (p q : List ℕ) → IsPerfectIn g p → IsPerfectIn g q → weight (total g p) ≤ℤ weight
      (total g q) → IsUpto (total g p) (total g q)
  total_from p q h k = value_from g.columns (total g p) (total g q) (total_value p h)
      (total_value q k)

  -- a standing pair and its two prices
  module _ (left right : ℕ → List ℤ) (l r : ℕ) (i : l < g.size) (j : r < g.size)
      (t : g.stands l r ≡ true) (v : IsCostValue g.columns (left l)) (w : IsCostValue g.columns
      (right r)) where
    -- the two prices together and the cost compare as they weigh
    sized : length (plus (left l) (right r)) ≡ length (g.cost l r)
    sized = plus_sized g.columns (left l) (right r) v w ∙ sym (s.sized l r i j t)

    light : IsLight (plus (left l) (right r))
    light = plus_light g.columns (left l) (right r) v w

    cost_light : IsLight (g.cost l r)
    cost_light = value_light g.columns (g.cost l r) (cost_value l r i j t)

    both : weight (plus (left l) (right r)) ≡ weight (left l) +ℤ weight (right r)
    both = value_plus g.columns (left l) (right r) v w

    pub price_upto : IsUpto (plus (left l) (right r)) (g.cost l r)
        → (weight (left l) +ℤ weight (right r)) ≤ℤ weight (g.cost l r)
    price_upto u =
        let h = upto_is (plus (left l) (right r)) (g.cost l r) sized light cost_light u in
        omega (arith, ints, both)

    pub price_from : (weight (left l) +ℤ weight (right r)) ≤ℤ weight (g.cost l r)
        → IsUpto (plus (left l) (right r)) (g.cost l r)
    price_from h = upto_from (plus (left l) (right r)) (g.cost l r) sized light cost_light
        (omega (arith, ints, both))

    pub price_same : weight (left l) +ℤ weight (right r) ≡ weight (g.cost l r)
        → IsTight g left right l r
    price_same e = same_from (plus (left l) (right r)) (g.cost l r) sized light cost_light
        (both ∙ e)

    pub price_is : IsTight g left right l r → weight (left l) +ℤ weight (right r) ≡ weight
        (g.cost l r)
    price_is e = sym both ∙ ap weight e
