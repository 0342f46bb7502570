-- Grids that are the same inside have the same pairings, optimum pairings, prices and crowd sets.
-- Idea: a perfect pairing has only standing pairs of blocks there are, so its costs are the same.
-- Everything else is said of perfect pairings and of standing pairs. One direction suffices, since
-- the grids can change places. Their sizes and columns are taken as the very same first.
use Rattle.std.proofs.Common.{◌≡◌, ℕ, zero, suc, ◌≤◌, Bool, List, length, ℤ, sym}
use Rattle.std.proofs.Common.{refl, ap, ◌∙◌, subst, ap₂, ltb, ◌&&◌, ◌↔◌, arith}
use Rattle.cost.specs.declared.TheConstants.{COST_LIMIT}
use Rattle.cost.specs.Columns.{AreWithin, plus}
use Rattle.pairing.specs.Grid.{Grid, IsSane, at, IsPerfectIn, total_of, total, IsUpto, IsOptimum}
use Rattle.pairing.specs.Prices.{AreValid, AreGreatest}
use Rattle.pairing.specs.Optima.{perfects, optima, has_pair, IsInOptimum}
use Rattle.pairing.specs.Inside.{AreSameInside}
use Rattle.pairing.specs.Theorems.{AreAlikeInside, InsideMatters}
use Rattle.pairing.proofs.Listing.{in_perfects, in_optima, perfects_ascend, optima_ascend}
use Rattle.pairing.proofs.Listing.{ascending_same}
use Rattle.pairing.proofs.Alike.{alike_back, perfect_like, perfect_alike, largest_like}
use Rattle.pairing.proofs.Alike.{unpaired_like}

-- a grid of the same size and columns
abbrev other : Grid → (ℕ → ℕ → Bool) → (ℕ → ℕ → List ℤ) → Grid
other g stands cost = record {
  size = g.size;
  columns = g.columns;
  stands = stands;
  cost = cost;
}

-- ---- from one grid to another of the same size and columns
module _ (g : Grid) (t : ℕ → ℕ → Bool) (d : ℕ → ℕ
    → List ℤ) (i : AreSameInside g (other g t d)) where
  abbrev h : Grid
  h = other g t d

  turned : AreSameInside h g
  turned = record {
    size = refl;
    columns = refl;
    stands = alike_back g.size g.stands t i.stands;
    cost = λ l r a b k. sym (i.cost l r a b (i.stands l r a b ∙ k));
  }

  sane_like : IsSane g → IsSane h
  sane_like s = record {
    few = s.few;
    sized = λ l r a b k. let u = i.stands l r a b ∙ k in
        subst (λ xs. length xs ≡ g.columns) (i.cost l r a b u) (s.sized l r a b u);
    small = λ l r a b k. let u = i.stands l r a b ∙ k in
        subst (AreWithin COST_LIMIT) (i.cost l r a b u) (s.small l r a b u);
  }

  costs_like : (p : List ℕ) → IsPerfectIn g p → (k : ℕ) → k ≤ g.size
      → total_of g p k ≡ total_of h p k
  costs_like p f zero b = refl
  costs_like p f (suc k) b =
      ap₂ plus (costs_like p f k (omega arith))
      (i.cost k (at p k) (omega arith) (f.below k (omega arith)) (f.standing k (omega arith)))

  total_like : (p : List ℕ) → IsPerfectIn g p → total g p ≡ total h p
  total_like p f = costs_like p f g.size (omega arith)

  optimum_like : (p : List ℕ) → IsOptimum g p → IsOptimum h p
  optimum_like p o = record {
    perfect = perfect_like g.size g.stands t i.stands p o.perfect;
    least = λ q f.
        let k = perfect_like g.size t g.stands turned.stands q f in
        subst (λ x. IsUpto x (total h q)) (total_like p o.perfect)
        (subst (IsUpto (total g p)) (total_like q k) (o.least q k));
  }

  valid_like : (left right : ℕ → List ℤ) (p : List ℕ) → IsPerfectIn g p → AreValid g left right p
      → AreValid h left right p
  valid_like left right p f v = record {
    lefts = v.lefts;
    rights = v.rights;
    under = λ l r a b k. let u = i.stands l r a b ∙ k in
        subst (IsUpto (plus (left l) (right r))) (i.cost l r a b u) (v.under l r a b u);
    equal = λ l a. v.equal l a ∙ i.cost l (at p l) a (f.below l a) (f.standing l a);
  }

  marked_like : (l r : ℕ) → IsInOptimum g l r → IsInOptimum h l r
  marked_like l r m = record {
    inside = m.inside;
    pairing = m.pairing;
    optimum = optimum_like m.pairing m.optimum;
    has = m.has;
  }

-- ---- and back
module _ (g : Grid) (t : ℕ → ℕ → Bool) (d : ℕ → ℕ
    → List ℤ) (i : AreSameInside g (other g t d)) where
  back : AreSameInside (h g t d i) g
  back = turned g t d i

  greatest_like : (left right : ℕ → List ℤ) (p : List ℕ) → IsPerfectIn g p
      → AreGreatest g left right p → AreGreatest (h g t d i) left right p
  greatest_like left right p f top = record {
    valid = valid_like g t d i left right p f top.valid;
    low = top.low;
    most = λ left' right' v. top.most left' right'
        (valid_like (h g t d i) g.stands g.cost back left' right' p
        (perfect_like g.size g.stands t i.stands p f) v);
  }

  perfects_like : perfects g.size g.stands ≡ perfects g.size t
  perfects_like =
      ascending_same (perfects g.size g.stands) (perfects g.size t)
      (perfects_ascend g.size g.stands) (perfects_ascend g.size t) (λ p.
      let from = in_perfects g.size g.stands p in
      let to = in_perfects g.size t p in
      let are = perfect_alike g.size g.stands t i.stands p in
      (λ c. to.1 (are.0 (from.0 c)), λ c. from.1 (are.1 (to.0 c))))

  optimum_alike : (p : List ℕ) → IsOptimum g p ↔ IsOptimum (h g t d i) p
  optimum_alike p =
      (optimum_like g t d i p, optimum_like (h g t d i) g.stands g.cost back p)

  optima_like : optima g ≡ optima (h g t d i)
  optima_like =
      ascending_same (optima g) (optima (h g t d i)) (optima_ascend g)
      (optima_ascend (h g t d i)) (λ p.
      let from = in_optima g p in
      let to = in_optima (h g t d i) p in
      let are = optimum_alike p in
      (λ c. to.1 (are.0 (from.0 c)), λ c. from.1 (are.1 (to.0 c))))

alike_at : (g : Grid) (t : ℕ → ℕ → Bool) (d : ℕ → ℕ → List ℤ) → AreSameInside g (other g t d)
    → AreAlikeInside g (other g t d)
alike_at g t d i =
    let there = other g t d in
    let b = back g t d i in
    record {
      sane = (sane_like g t d i, sane_like there g.stands g.cost b);
      perfect = perfect_alike g.size g.stands t i.stands;
      perfects = perfects_like g t d i;
      totals = total_like g t d i;
      optimum = optimum_alike g t d i;
      optima = optima_like g t d i;
      valid = λ left right p f. (
        valid_like g t d i left right p f,
        valid_like there g.stands g.cost b left right p
            (perfect_like g.size g.stands t i.stands p f),
      );
      greatest = λ left right p f. (
        greatest_like g t d i left right p f,
        greatest_like there g.stands g.cost b left right p
            (perfect_like g.size g.stands t i.stands p f),
      );
      largest = λ p out. (
        largest_like g.size g.stands t i.stands p out,
        largest_like g.size t g.stands b.stands p out,
      );
      unpaired = λ crowd short. (
        unpaired_like g.size g.stands t i.stands crowd short,
        unpaired_like g.size t g.stands b.stands crowd short,
      );
      marked = λ l r.
          (marked_like g t d i l r, marked_like there g.stands g.cost b l r);
      is_marked = λ l r. ap (λ ps. ltb l g.size && has_pair l r ps) (optima_like g t d i);
    }

pub inside_matters : InsideMatters
inside_matters g h i =
    subst (λ k. AreAlikeInside g
    (record { size = h.size; columns = k; stands = h.stands; cost = h.cost })) i.columns
    (subst (λ k. AreAlikeInside g
    (record { size = k; columns = g.columns; stands = h.stands; cost = h.cost })) i.size
    (alike_at g h.stands h.cost
    (record { size = refl; columns = refl; stands = i.stands; cost = i.cost })))
