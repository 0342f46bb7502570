-- The test that pair tables are in order tells just that, and the grid of such tables is sane.
-- Idea: the test asks the same of every place, so it passes just if it passes at each place; the
-- pair of l and r has its own place.
use Rattle.std.specs.Prelude.{◌≡◌, ℕ, zero, suc, ◌<◌, ◌≤◌, Bool, true, false, List, [], ◌∷◌, length}
use Rattle.std.specs.Prelude.{ℤ, slice_index, slice_index_or, zip, IsTrue, ◌↔◌}
use Rattle.std.proofs.Common.{sym, refl, ap, ◌∙◌, arith}
use Rattle.std.proofs.lemmas.Nat.{mul-add-lt}
use Rattle.std.proofs.lemmas.List.{get_or-map}
use Rattle.std.proofs.lemmas.List.Elements.{All-get_or, All-from_get_or}
use Rattle.std.proofs.lemmas.List.Sums.{AllPass-from_list_all, list_all-from_AllPass}
use Rattle.std.proofs.lemmas.Slice.Zip.{get_or-zip, length-zip}
use Rattle.cost.specs.declared.Cost.{Ghosts}
use Rattle.cost.specs.declared.TheConstants.{COST_LIMIT, PRICE_LIMIT, RAIL}
use Rattle.cost.specs.Columns.{AreWithin, within}
use Rattle.cost.proofs.Exact.{within_tells, within_more}
use Rattle.blockset.specs.declared.TheConstants.{MOST_BLOCKS}
use Rattle.tables.specs.PairTables.{says_stands, says_disturbed, is_place_in_order, in_order}
use Rattle.pairing.specs.Places.{place_of, places_of}
use Rattle.pairing.specs.Grid.{IsSane}
use Rattle.pairing.specs.Prices.{IsCostValue}
use Rattle.tables.specs.Said.{columns_at, grid_of, AreValuesWithin, IsInOrder}
use Rattle.tables.proofs.Gathering.{fine_tells}

place_tells : (columns : List ℤ) (byte : ℕ) → IsTrue (is_place_in_order columns byte)
    ↔ ((says_disturbed byte ≡ false) × (says_stands byte ≡ true → AreWithin COST_LIMIT columns))
place_tells columns byte =
    fine_tells byte (within COST_LIMIT columns) (within_tells COST_LIMIT columns)

module _ {K : Type 0} (kind : Ghosts K) where
  pub in_order_tells : (costs : List K) (standing : List ℕ) (places : ℕ) → length costs ≡ places
      → length standing ≡ places
      → IsTrue (in_order kind.meaning costs standing) ↔ IsInOrder kind places costs standing
  in_order_tells [] standing places ec eb = (
    λ e. record { bytes = λ k h. absurd (omega arith); small = λ k h. absurd (omega arith) },
    λ o. refl,
  )
  in_order_tells (c ∷ cs) standing places ec eb = (
    λ e.
        let each = λ (k : ℕ) (h : k < places). (place_tells (columns_at kind (c ∷ cs) k)
        (slice_index standing k)).0 (sym (at_place k h) ∙ All-get_or (λ place. IsTrue (test place))
        (zip (c ∷ cs) standing) k (c, 0) (omega (arith, length-zip (c ∷ cs) standing))
        (AllPass-from_list_all test (zip (c ∷ cs) standing) e)) in
        record { bytes = λ k h. (each k h).0; small = λ k h. (each k h).1 },
    λ o. list_all-from_AllPass test (zip (c ∷ cs) standing)
        (All-from_get_or (λ place. IsTrue (test place)) (zip (c ∷ cs) standing) (c, 0)
        (λ k i.
        let h : k < places = omega (arith, length-zip (c ∷ cs) standing) in
        at_place k h ∙ (place_tells (columns_at kind (c ∷ cs) k) (slice_index standing k)).1
        (o.bytes k h, o.small k h))),
  )
    where
      test : K × ℕ → Bool
      test place = is_place_in_order (kind.meaning place.0) place.1

      at_place : (k : ℕ) → k < places → test (slice_index_or (zip (c ∷ cs) standing) k (c, 0))
          ≡ is_place_in_order (columns_at kind (c ∷ cs) k) (slice_index standing k)
      at_place k h = ap test (get_or-zip (c ∷ cs) standing k (c, 0) (omega arith) (omega arith))
          ∙ ap (λ x. is_place_in_order x (slice_index standing k))
          (sym (get_or-map kind.meaning (c ∷ cs) k c [] (omega arith)))

  module _ (wide : (x : K) → length (kind.meaning x) ≡ kind.columns) where
    -- each value of a table has the columns of its kind
    pub columns_sized : (table : List K) (k : ℕ) → k < length table
        → length (columns_at kind table k) ≡ kind.columns
    columns_sized [] k h = absurd (omega arith)
    columns_sized (x ∷ table) zero h = wide x
    columns_sized (x ∷ table) (suc k) h = columns_sized table k (omega arith)

    -- and values within 10^12 lie on the rail
    pub near_value : (n : ℕ) (table : List K) → length table ≡ n
        → AreValuesWithin kind PRICE_LIMIT n table
        → (k : ℕ) → k < n → IsCostValue kind.columns (columns_at kind table k)
    near_value n table long near k h = record {
      sized = columns_sized table k (omega arith);
      on_rail = within_more PRICE_LIMIT RAIL (columns_at kind table k) (omega arith) (near k h);
    }

    module _ (n : ℕ) (costs : List K) (standing : List ℕ) (few : n ≤ MOST_BLOCKS)
        (whole : length costs ≡ places_of n) where
      pub sane_in_order : IsInOrder kind (places_of n) costs standing
          → IsSane (grid_of kind n costs standing)
      sane_in_order o = record {
        few = few;
        sized = λ l r i j t. columns_sized costs (place_of n l r)
            (omega (arith, mul-add-lt l n r n i j));
        small = λ l r i j t. o.small (place_of n l r) (mul-add-lt l n r n i j) t;
      }
