-- The grid of the tables that a file was loaded into is the grid that its order states, and the
-- tables are in order.
-- Idea: a cell tells both whether its pair stands and at what cost. A stated cost is within the
-- limit, so as a plain cost it means itself. Blank tables are in order, and entering a pair of a
-- sound order keeps them so.
use Rattle.std.proofs.Common.{◌≡◌, ℕ, ◌<◌, ◌≤◌, Bool, true, false, List, [], ◌∷◌, length, ℤ, pos}
use Rattle.std.proofs.Common.{Some, None, Option, slice_index_or, unsigned_abs, if◌then◌else◌}
use Rattle.std.proofs.Common.{sym, refl, ap, ◌∙◌, subst, arith}
use Rattle.std.proofs.lemmas.List.{get_or-map}
use Rattle.std.specs.Option.{option_map, is_some}
use Rattle.std.specs.List.{AllByRecursion}
use Rattle.cost.specs.Columns.{rail_of, AreWithin}
use Rattle.cost.specs.declared.plain_kind.Plain.{Plain}
use Rattle.cost.proofs.Exact.{rail_of_same}
use Rattle.pairing.specs.Inside.{AreSameInside}
use Rattle.pairing.specs.Places.{place_of, places_of}
use Rattle.tables.specs.PairTables.{HavePlaces, says_stands, byte_of, costs_opened}
use Rattle.tables.specs.PairTables.{standing_opened, costs_entered, standing_entered}
use Rattle.tables.specs.Said.{columns_at, IsInOrder}
use Rattle.tables.specs.Together.{ArePairTables}
use Rattle.tables.proofs.Cells.{place_below}
use Rattle.tables.proofs.Entering.{entered_in_order}
use Rattle.tables.proofs.Writing.{blank_in_order}
use Rattle.orderfile.specs.declared.record.StatedPair.{StatedPair}
use Rattle.orderfile.specs.Format.{StatedOrder, FitsSheet, PairFits}
use Rattle.orderfile.specs.Loading.{plain, plain_kind, plain_grid, costs_after, standing_after}
use Rattle.orderfile.specs.Loading.{stated_cost, stated_columns, stated_grid, ShowsOrder}
use Rattle.orderfile.proofs.Cells.{blank_places, places_still}
use Rattle.orderfile.proofs.Greatest.{IsSmall, greater_small, named, named_small}
use Rattle.cost.specs.declared.TheConstants.{COST_LIMIT}

-- ---- The costs that an order states

-- they are within the limit
stated_small : (n : ℕ) (ps : List StatedPair) → AllByRecursion (PairFits n) ps → (l r : ℕ)
    → IsSmall (stated_cost ps l r)
stated_small n [] s l r = λ z e. cc
stated_small n (p ∷ ps) s l r =
    greater_small (named l r p) (stated_cost ps l r) (named_small s.0 l r)
    (stated_small n ps s.1 l r)

-- ---- What a cell tells

cell_stands : (b : Bool) (x : Plain) (o : Option ℤ) → (if b then Some x else None)
    ≡ option_map plain o
    → b ≡ is_some o
cell_stands true x (Some z) e = refl
cell_stands true x None e = cc
cell_stands false x (Some z) e = cc
cell_stands false x None e = refl

cell_cost : (b : Bool) (x : Plain) (o : Option ℤ) → (if b then Some x else None)
    ≡ option_map plain o
    → b ≡ true → (z : ℤ) × (o ≡ Some z) × (x ≡ plain z)
cell_cost true x (Some z) e h = (z, refl, cc)
cell_cost true x None e h = cc
cell_cost false x o e h = cc

module _ (order : StatedOrder) (sound : AllByRecursion (PairFits order.size) order.pairs)
    (costs : List Plain) (standing : List ℕ) (long : length costs ≡ places_of order.size)
    (shows : ShowsOrder order costs standing) where
  byte_says : ℕ → ℕ → Bool
  byte_says l r = says_stands (byte_of order.size standing l r)

  cost_shown : (l r : ℕ) → l < order.size → r < order.size → byte_says l r ≡ true
      → columns_at plain_kind costs (place_of order.size l r)
      ≡ stated_columns (stated_cost order.pairs l r)
  unfolding byte_says
  cost_shown l r hl hr h =
      let at = place_of order.size l r in
      let x = slice_index_or costs at (plain (pos 0)) in
      let stated = stated_cost order.pairs l r in
      let told = cell_cost (byte_says l r) x stated (shows l r hl hr) h in
      let z = told.0 in
      let same : rail_of z ≡ z = rail_of_same z
      (omega (arith, stated_small order.size order.pairs sound l r z told.1)) in
      get_or-map plain_kind.meaning costs at (plain (pos 0)) []
      (omega (arith, place_below order.size l r hl hr))
      ∙ ap plain_kind.meaning told.2 ∙ ap (λ t. t ∷ []) same ∙ ap stated_columns (sym told.1)

  pub same_grid : AreSameInside (plain_grid order.size costs standing) (stated_grid order)
  unfolding byte_says
  same_grid = record {
    size = refl;
    columns = refl;
    stands = λ l r hl hr. cell_stands (byte_says l r)
        (slice_index_or costs (place_of order.size l r) (plain (pos 0)))
        (stated_cost order.pairs l r)
        (shows l r hl hr);
    cost = cost_shown;
  }

-- ---- Order

-- a stated cost means a number within the limit
means_small : (z : ℤ) → unsigned_abs z ≤ COST_LIMIT → AreWithin COST_LIMIT (rail_of z ∷ [])
means_small z small =
    (subst (λ x. unsigned_abs x ≤ COST_LIMIT) (sym (rail_of_same z (omega arith))) small, tt)

after_in_order : (n : ℕ) (ps : List StatedPair) (costs : List Plain) (standing : List ℕ)
    → AllByRecursion (PairFits n) ps → HavePlaces n (length costs) (length standing)
    → IsInOrder plain_kind (places_of n) costs standing
    → HavePlaces n (length (costs_after n ps costs standing))
    (length (standing_after n ps standing))
    × IsInOrder plain_kind (places_of n) (costs_after n ps costs standing)
    (standing_after n ps standing)
after_in_order n [] costs standing s have o = (have, o)
after_in_order n (p ∷ ps) costs standing s have o =
    after_in_order n ps
    (costs_entered plain_kind n p.left p.right (plain p.cost) costs standing)
    (standing_entered n p.left p.right standing) s.1 (places_still n p costs standing have)
    (entered_in_order plain_kind n costs standing have o p.left p.right s.0.left_below
    s.0.right_below (plain p.cost) (means_small p.cost s.0.cost_within))

pub entered_tables : (order : StatedOrder) → FitsSheet order → ArePairTables plain_kind order.size
    (costs_after order.size order.pairs (costs_opened (plain (pos 0)) order.size)
    (standing_opened order.size))
    (standing_after order.size order.pairs (standing_opened order.size))
entered_tables order s =
    let n = order.size in
    let costs = costs_opened (plain (pos 0)) n in
    let after = after_in_order n order.pairs costs (standing_opened n) s.pairs_fit (blank_places n)
    (blank_in_order plain_kind (places_of n) costs) in
    record {
      few = s.few;
      costs_long = after.0.costs;
      standing_long = after.0.standing;
      in_order = after.1;
    }
