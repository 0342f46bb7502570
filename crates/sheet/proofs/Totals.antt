-- The sum of the partners' costs, one pair after the other, is their total.
-- Idea: each cost is within 10^9 and there are at most 64 of them, so no sum is stopped.
use Rattle.std.proofs.Common.{◌≡◌, ℕ, ◌+◌, ◌*◌, ◌<◌, get_or, sym, ap, ◌∙◌, subst}
use Rattle.std.proofs.Common.{add-one, arith}
use Rattle.cost.specs.declared.Cost.{Ghosts}
use Rattle.cost.specs.declared.TheConstants.{COST_LIMIT}
use Rattle.cost.specs.Columns.{AreWithin, sums, plus}
use Rattle.cost.proofs.Exact.{exact, plus-within}
use Rattle.pairing.specs.Grid.{at, total_of}
use Rattle.pairing.specs.Places.{place_of, places_of}
use Rattle.tables.specs.Said.{columns_at}
use Rattle.tables.specs.Lent.{Lent, grid}
use Rattle.tables.specs.Together.{HoldTogether}
use Rattle.tables.proofs.Cells.{place_below}
use Rattle.sheet.proofs.Quoting.{read_columns}

-- the total of the first k pairs
pub record IsSumOf {K : Type 0} (kind : Ghosts K) (t : Lent K) (k : ℕ) (sum : K) : Type 0 where
  pub is : kind.meaning sum ≡ total_of (grid kind t) t.partners k
  pub small : AreWithin (k * COST_LIMIT) (kind.meaning sum)

module _ {K : Type 0} (kind : Ghosts K) (t : Lent K) (together : HoldTogether kind t) where
  pub partner_below : (k : ℕ) → k < t.size
      → place_of t.size k (at t.partners k) < places_of t.size
  partner_below k h = place_below t.size k (at t.partners k) h (together.perfect.below k h)

  pub sum_of_more : (k : ℕ) (sum x next : K) → k < t.size
      → x ≡ get_or t.costs (place_of t.size k (at t.partners k)) x
      → kind.meaning next ≡ sums (kind.meaning sum) (kind.meaning x)
      → IsSumOf kind t k sum → IsSumOf kind t (k + 1) next
  sum_of_more k sum x next h read add s =
      let m = kind.meaning in
      let spot = place_of t.size k (at t.partners k) in
      let inside = partner_below k h in
      let cost_is : columns_at kind t.costs spot ≡ m x = read_columns kind t.costs spot x
      (omega (arith, inside, together.pair_tables.costs_long)) read in
      let wc : AreWithin COST_LIMIT (m x) = subst (AreWithin COST_LIMIT) cost_is
      (together.pair_tables.in_order.small spot inside (together.perfect.standing k h)) in
      let sum_is : sums (m sum) (m x) ≡ plus (m sum) (m x) = (exact (k * COST_LIMIT) COST_LIMIT
      (m sum) (m x) (omega (arith, h, together.pair_tables.few)) s.small wc).0 in
      let near : AreWithin (k * COST_LIMIT + COST_LIMIT) (plus (m sum) (m x)) =
      plus-within (k * COST_LIMIT) COST_LIMIT (m sum) (m x) s.small wc in
      let all : m next ≡ plus (total_of (grid kind t) t.partners k) (columns_at kind t.costs spot) =
      add ∙ sum_is ∙ ap (λ p. plus p (m x)) s.is
      ∙ ap (plus (total_of (grid kind t) t.partners k)) (sym cost_is) in
      let bound : k * COST_LIMIT + COST_LIMIT ≡ (k + 1) * COST_LIMIT = omega arith in
      record {
        is = rw add-one all;
        small = subst (λ b. AreWithin b (m next)) bound
            (subst (AreWithin (k * COST_LIMIT + COST_LIMIT)) (sym (add ∙ sum_is)) near);
      }
