-- From what the parts of the tables are found to be to what is said of them.
-- Idea: near prices, sound pairs and rows of tight edges leave one question open, whether the
-- partners are a pairing over the rows. By complementary slackness they are just where the tables
-- hold together, and the pairings over the rows are the optimum ones.
use Rattle.std.specs.Prelude.{◌≡◌, ℕ, ◌+◌, ◌<◌, true, false, ◌↔◌, List, length, slice_index_or}
use Rattle.std.specs.Prelude.{Contains}
use Rattle.std.proofs.Common.{sym, subst, below_more}
use Rattle.std.proofs.lemmas.Bool.{both_ways}
use Rattle.cost.specs.declared.Cost.{Ghosts}
use Rattle.cost.specs.Columns.{AreWithin, within}
use Rattle.cost.proofs.Exact.{within_tells}
use Rattle.blockset.specs.declared.BlockSet.{BlockSet}
use Rattle.pairing.specs.Places.{rights_of}
use Rattle.pairing.specs.Grid.{IsSane, IsOptimum}
use Rattle.pairing.proofs.Listing.{perfects_are, optima_are as optima_are_lem}
use Rattle.pairing.specs.Rows.{holds, IsPerfectOver}
use Rattle.tables.specs.Said.{columns_at, AreValuesWithin}
use Rattle.tables.specs.Lent.{Lent, grid, ArePriced}
use Rattle.tables.specs.Sound.{IsSound}
use Rattle.tables.specs.PairRows.{AreTightRows}
use Rattle.tables.specs.Together.{HoldTogether}
use Rattle.tables.proofs.Filling.{value_at}
use Rattle.tables.proofs.Orderly.{sane_in_order, near_value}
use Rattle.tables.proofs.Tightness.{pairs_tight, pairings_are_optima}
use Rattle.walk.specs.Certified.{IsCertified}

-- ---- A price against the limit

module _ {K : Type 0} (kind : Ghosts K) (limit : ℕ) (table : List K) (k : ℕ) (x : K)
    (inside : k < length table) (read : x ≡ slice_index_or table k x) where
  pub bounded_more : within limit (kind.meaning x) ≡ true → AreValuesWithin kind limit k table
      → AreValuesWithin kind limit (k + 1) table
  bounded_more e h = below_more (λ j. AreWithin limit (columns_at kind table j)) k h
      (subst (AreWithin limit) (value_at kind table k x inside read)
      ((within_tells limit (kind.meaning x)).0 e))

  pub not_bounded : within limit (kind.meaning x) ≡ false
      → AreValuesWithin kind limit (length table) table
      → ⊥
  not_bounded e h =
      both_ways (within limit (kind.meaning x)) e
      ((within_tells limit (kind.meaning x)).1
      (subst (AreWithin limit) (sym (value_at kind table k x inside read)) (h k inside)))

-- ---- All of it

module _ {K : Type 0} (kind : Ghosts K) (t : Lent K) where
  pub sound_if_together : HoldTogether kind t → IsSound kind t
  sound_if_together h = record {
    in_order = h.pair_tables.in_order;
    feasible = h.valid.under;
  }

  -- over the rows of tight edges, the partners decide
  module _ (rows : List BlockSet) (made : AreTightRows kind t rows) where
    pub paired_if_together : HoldTogether kind t → IsPerfectOver rows t.partners
    paired_if_together h = (pairs_tight kind t rows made t.partners).1 (h.perfect, h.valid.equal)

    module _ (wide : (x : K) → length (kind.meaning x) ≡ kind.columns)
        (priced : ArePriced kind t) (sound : IsSound kind t) (paired : IsPerfectOver rows
        t.partners) where
      sane : IsSane (grid kind t)
      sane = sane_in_order kind wide t.size t.costs t.standing priced.few priced.room.costs_long
          sound.in_order

      together_if_paired : HoldTogether kind t
      together_if_paired =
          let tight = (pairs_tight kind t rows made t.partners).0 paired in
          record {
            pair_tables = record {
              few = priced.few;
              costs_long = priced.room.costs_long;
              standing_long = priced.room.standing_long;
              in_order = sound.in_order;
            };
            perfect = tight.0;
            left_prices = record { long = priced.room.left_long; near = priced.left_near };
            right_prices = record { long = priced.room.right_long; near = priced.right_near };
            valid = record {
              lefts = near_value kind wide t.size t.left priced.room.left_long priced.left_near;
              rights = near_value kind wide (rights_of t.size) t.right priced.room.right_long
                  priced.right_near;
              under = sound.feasible;
              equal = tight.1;
            };
          }

      pub certified : IsCertified kind t rows
      certified =
          let h = together_if_paired in
          record {
            together = h;
            long = made.long;
            paired = paired;
            optima_are = pairings_are_optima kind t rows made sane t.partners h.perfect h.valid;
          }

  -- over certified rows, the pairings are the optimum ones
  pub optimum_over : (rows : List BlockSet) → IsCertified kind t rows → (q : List ℕ)
      → IsPerfectOver rows q ↔ IsOptimum (grid kind t) q
  optimum_over rows c q =
      let listed = (perfects_are (length rows) (holds rows)).list.are q in
      let known = (optima_are_lem (grid kind t)).list.are q in (
        λ p. known.0 (subst (λ ps. Contains ps q) c.optima_are (listed.1 p)),
        λ o. listed.0 (subst (λ ps. Contains ps q) (sym c.optima_are) (known.1 o)),
      )
