-- The perfect pairings over rows of tight edges are the tight pairings, and under feasible prices
-- that some pairing is tight for they are the optimum ones.
-- Idea: complementary slackness. Over rows of tight edges a perfect pairing has tight pairs only;
-- under valid prices just the optimum pairings have.
use Rattle.std.specs.Prelude.{◌≡◌, ℕ, ◌<◌, ◌↔◌, List, length}
use Rattle.std.proofs.Common.{sym, subst}
use Rattle.cost.specs.declared.Cost.{Ghosts}
use Rattle.blockset.specs.declared.BlockSet.{BlockSet}
use Rattle.pairing.specs.Grid.{IsSane, at, IsPerfect, IsPerfectIn, IsOptimum}
use Rattle.pairing.specs.Prices.{AreTight, AreValid}
use Rattle.pairing.specs.Optima.{optima}
use Rattle.pairing.proofs.Duality.{optimum_if_tight}
use Rattle.pairing.proofs.Listing.{perfects_are, optima_are}
use Rattle.pairing.specs.Rows.{holds, IsPerfectOver, pairings}
use Rattle.tables.specs.Lent.{Lent, grid, left_price, right_price}
use Rattle.tables.specs.PairRows.{AreTightRows}

module _ {K : Type 0} (kind : Ghosts K) (t : Lent K) (rows : List BlockSet)
    (made : AreTightRows kind t rows) where
  -- the perfect pairings over the rows are the perfect pairings whose pairs are all tight
  pub pairs_tight : (p : List ℕ) → IsPerfectOver rows p
      ↔ (IsPerfectIn (grid kind t) p × AreTight (grid kind t) (left_price kind t) (right_price kind
      t) p)
  pairs_tight p = (
    λ h. to (subst (λ n. IsPerfect n (holds rows) p) made.long h),
    λ h. subst (λ n. IsPerfect n (holds rows) p) (sym made.long) (record {
      len = h.0.len;
      below = h.0.below;
      standing = λ l i. (made.held l (at p l) i).1 (record {
        inside = h.0.below l i;
        stands = h.0.standing l i;
        tight = h.1 l i;
      });
      once = h.0.once;
    }),
  )
    where
      to : IsPerfect t.size (holds rows) p
          → IsPerfectIn (grid kind t) p
          × AreTight (grid kind t) (left_price kind t) (right_price kind t) p
      to h =
          let edge = λ (l : ℕ) (i : l < t.size). (made.held l (at p l) i).0 (h.standing l i) in (
            record {
              len = h.len;
              below = h.below;
              standing = λ l i. (edge l i).stands;
              once = h.once;
            },
            λ l i. (edge l i).tight,
          )

  -- under valid prices these are the optimum pairings
  module _ (sane : IsSane (grid kind t)) (p : List ℕ) (perfect : IsPerfectIn (grid kind t) p)
      (valid : AreValid (grid kind t) (left_price kind t) (right_price kind t) p) where
    pub pairs_optimum : (q : List ℕ) → IsPerfectOver rows q ↔ IsOptimum (grid kind t) q
    pairs_optimum q = (
      λ k. let w = (pairs_tight q).0 k in (if_tight w.0).0 w.1,
      λ o. (pairs_tight q).1 (o.perfect, (if_tight o.perfect).1 o),
    )
      where
        if_tight : IsPerfectIn (grid kind t) q
            → AreTight (grid kind t) (left_price kind t) (right_price kind t) q
            ↔ IsOptimum (grid kind t) q
        if_tight w = optimum_if_tight (grid kind t) (left_price kind t) (right_price kind t) p q
            sane
            perfect valid w

    -- and their list is the list of these
    pub pairings_are_optima : pairings rows ≡ optima (grid kind t)
    pairings_are_optima =
        let listed = (perfects_are (length rows) (holds rows)).list in
        (optima_are (grid kind t)).list.only (pairings rows) listed.ascend
        (λ q. (
          λ i. (pairs_optimum q).0 ((listed.are q).0 i),
          λ o. (listed.are q).1 ((pairs_optimum q).1 o),
        ))
