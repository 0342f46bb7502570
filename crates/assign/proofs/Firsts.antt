-- The first pairing over the tight rows is the first optimum pairing, and the greatest prices go
-- with it too; so settled tables hold together.
-- Idea: under the greatest prices the perfect pairings of tight pairs are the optimum pairings, and
-- there is only one list of these in dictionary order. Valid prices that lie near make tables hold
-- together, whichever optimum pairing they go with.
use Rattle.std.proofs.Common.{◌≡◌, ℕ, ◌↔◌, List, length, refl, subst}
use Rattle.blockset.specs.declared.BlockSet.{BlockSet}
use Rattle.cost.specs.declared.Cost.{Ghosts}
use Rattle.pairing.specs.Grid.{IsSane, IsOptimum}
use Rattle.pairing.specs.Rows.{holds, IsPerfectOver, pairings}
use Rattle.pairing.proofs.Duality.{valid_alike}
use Rattle.pairing.proofs.Listing.{perfects_are}
use Rattle.matching.specs.Answers.{IsNth}
use Rattle.matching.proofs.Nth.{contains_nth, nth_optimum}
use Rattle.tables.specs.Lent.{Lent, grid, left_price, right_price, IsUsable, ArePriced}
use Rattle.tables.specs.PairRows.{AreTightRows}
use Rattle.tables.specs.Together.{HoldTogether}
use Rattle.tables.specs.Sound.{IsSound}
use Rattle.tables.proofs.Orderly.{sane_in_order}
use Rattle.tables.proofs.Tightness.{pairs_optimum, pairings_are_optima}
use Rattle.assign.specs.Answer.{HasGreatestPrices, HasOptimum, HasFirstOptimum}
use Rattle.assign.proofs.Solving.{written, usable_still}

-- tables that are usable and solved
pub record AreSolved {K : Type 0} (kind : Ghosts K) (t : Lent K) : Type 0 where
  pub usable : IsUsable kind t
  pub solved : HasOptimum kind t

pub are_solved : {K : Type 0} {kind : Ghosts K} {t : Lent K} → IsUsable kind t
    → HasOptimum kind t → AreSolved kind t
are_solved usable solved = record { usable = usable; solved = solved }

pub solved_still : {K : Type 0} (kind : Ghosts K) (t : Lent K) (p : List ℕ) (l r : List K)
    → IsUsable kind t × HasOptimum kind (written t p l r) → length p ≡ length t.partners
    → length l ≡ length t.left → length r ≡ length t.right → AreSolved kind (written t p l r)
solved_still kind t p l r w ep el er =
    are_solved (usable_still kind t p l r w.0 ep el er) w.1

-- valid prices that lie near make usable tables hold together
together : {K : Type 0} (kind : Ghosts K) (t : Lent K) → IsUsable kind t → HasFirstOptimum kind t
    → HoldTogether kind t
together kind t usable s = record {
  pair_tables = record {
    few = usable.few;
    costs_long = usable.lengths.room.costs_long;
    standing_long = usable.lengths.room.standing_long;
    in_order = usable.in_order;
  };
  perfect = (nth_optimum (grid kind t) 0 t.partners s.first).perfect;
  left_prices = record { long = usable.lengths.room.left_long; near = s.prices.left_near };
  right_prices = record { long = usable.lengths.room.right_long; near = s.prices.right_near };
  valid = s.prices.greatest.valid;
}

module _ {K : Type 0} {kind : Ghosts K} {t : Lent K} (given : AreSolved kind t) where
  prices : HasGreatestPrices kind t
  prices = given.solved.prices

  pub priced : ArePriced kind t
  priced = record {
    few = given.usable.few;
    room = given.usable.lengths.room;
    left_near = prices.left_near;
    right_near = prices.right_near;
  }

  pub sound : IsSound kind t
  sound = record { in_order = given.usable.in_order; feasible = prices.greatest.valid.under }

  -- over the tight rows of solved tables, the pairings are the optimum ones
  module _ (wide : (x : K) → length (kind.meaning x) ≡ kind.columns) (rows : List BlockSet)
      (made : AreTightRows kind t rows) where
    sane : IsSane (grid kind t)
    sane = sane_in_order kind wide t.size t.costs t.standing given.usable.few
        given.usable.lengths.room.costs_long given.usable.in_order

    own : IsOptimum (grid kind t) t.partners
    own = given.solved.optimum

    are : (q : List ℕ) → IsPerfectOver rows q ↔ IsOptimum (grid kind t) q
    are = pairs_optimum kind t rows made sane t.partners own.perfect prices.greatest.valid

    pub paired : IsPerfectOver rows t.partners
    paired = (are t.partners).1 own

    first : (q : List ℕ) → IsNth (pairings rows) 0 q
        → HasFirstOptimum kind (record t { partners = q })
    first q h =
        let o : IsOptimum (grid kind t) q =
        (are q).0 (((perfects_are (length rows) (holds rows)).list.are q).0
        (contains_nth (pairings rows) 0 q h)) in
        record {
          first = subst (λ ps. IsNth ps 0 q)
              (pairings_are_optima kind t rows made sane t.partners own.perfect
              prices.greatest.valid) h;
          prices = record {
            greatest = record {
              valid = (valid_alike (grid kind t) (left_price kind t) (right_price kind t)
                  t.partners q sane own.perfect prices.greatest.valid o.perfect).0 o;
              low = prices.greatest.low;
              most = λ left' right' v. prices.greatest.most left' right'
                  ((valid_alike (grid kind t) left' right' q t.partners sane o.perfect v
                  own.perfect).0 own);
            };
            left_near = prices.left_near;
            right_near = prices.right_near;
          };
        }

    -- with the first pairing over them the tables are settled, and hold together
    pub settled : (q : List ℕ) → length q ≡ length t.partners → IsNth (pairings rows) 0 q
        → HasFirstOptimum kind (record t { partners = q })
        × HoldTogether kind (record t { partners = q })
    settled q same h = (
      first q h,
      together kind (record t { partners = q })
          (usable_still kind t q t.left t.right given.usable same refl refl) (first q h),
    )
