-- When valid prices are the greatest: each right price is zero, or a tight pair ties it to a right
-- price that was shown greatest before.
-- Idea: other prices that are valid and not above zero cannot be higher where ours are zero. Along
-- a tight pair (l, r) of ours the difference of the right prices of r and of the partner of l is
-- the difference of two costs, and for the others it is at most that; so what holds at the partner
-- of l holds at r.
use Rattle.std.proofs.Common.{◌≡◌, ℕ, zero, suc, ◌<◌, true, ◌⊎◌, List, ℤ, ◌≤ℤ◌, ap, inl, inr, arith}
use Rattle.std.proofs.lemmas.Int.{ints}
use Rattle.cost.specs.Columns.{zeros}
use Rattle.cost.specs.Weights.{weight}
use Rattle.cost.proofs.Weights.{weight_zeros}
use Rattle.pairing.specs.Grid.{Grid, IsSane, at, IsPerfectIn}
use Rattle.pairing.specs.Prices.{IsTight, AreValid, IsLow, AreGreatest}
use Rattle.pairing.proofs.Weighing.{value_low, value_from, price_is}
use Rattle.pairing.proofs.Duality.{pair_under, tight_is}

-- the price of r is zero, or (l, r) is tight and the partner of l comes before r by rank
abbrev pub Attained : (g : Grid) (left right : ℕ → List ℤ) (p : List ℕ) (rank : ℕ → ℕ) → ℕ → Type 0
Attained g left right p rank r =
    (right r ≡ zeros g.columns)
    ⊎ ((l : ℕ) × (l < g.size) × (g.stands l r ≡ true) × IsTight g left right l r
    × (rank (at p l) < rank r))

module _ (g : Grid) (s : IsSane g) (left right : ℕ → List ℤ) (p : List ℕ) (h : IsPerfectIn g p)
    (v : AreValid g left right p) (rank : ℕ → ℕ)
    (attained : (r : ℕ) → r < g.size → Attained g left right p rank r) where
  module _ (left' right' : ℕ → List ℤ) (v' : AreValid g left' right' p) (low' : IsLow g right')
    where
      not_above : (b r : ℕ) → r < g.size → rank r < b → weight (right' r) ≤ℤ weight (right r)
      not_above zero r j less = absurd (omega arith)
      not_above (suc b) r j less = elim (attained r j) [
        | inl e ↦ let w : weight (right r) ≡ weight (zeros g.columns) = ap weight e in
            omega (
              arith,
              ints,
              weight_zeros g.columns,
              value_low g.columns (right' r) (v'.rights r j)
                  (low' r j),
            )
        | inr w ↦ tied w.0 w.1 w.2 w.3
            (not_above b (at p w.0) (h.below w.0 w.1) (omega (arith, w.4)))
      ]
        where
          tied : (l : ℕ) → l < g.size → g.stands l r ≡ true → IsTight g left right l r
              → weight (right' (at p l)) ≤ℤ weight (right (at p l)) → weight (right' r) ≤ℤ weight
              (right r)
          tied l i t e ih = omega (
            arith,
            ints,
            pair_under g s left' right' p h v' l r i j t,
            tight_is g s left' right' p h v' p h v'.equal l i,
            tight_is g s left right p h v p h v.equal l i,
            price_is g s left right l r i j t (v.lefts l i) (v.rights r j) e,
          )

  pub attained_greatest : IsLow g right → AreGreatest g left right p
  attained_greatest low = record {
    valid = v;
    low = low;
    most = λ left' right' v' low' r j. value_from g.columns (right' r) (right r) (v'.rights r j)
        (v.rights r j) (not_above left' right' v' low' (suc (rank r)) r j (omega arith));
  }
