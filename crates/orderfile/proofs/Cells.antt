-- The cells of the tables after pairs were entered in turn are what the pairs state.
-- Idea: entering a pair changes its own cell and no other, and leaves there the greater of what
-- stood and of the pair's cost. So a cell comes to hold the greatest cost that the pairs name for
-- it, which is how a list of pairs is read. All costs are within the limit, so plain costs are in
-- the order of their numbers.
use Rattle.std.proofs.Common.{◌≡◌, ℕ, ◌<◌, ◌≤◌, Bool, true, false, ◌==◌, List, [], ◌∷◌, length}
use Rattle.std.proofs.Common.{ℤ, pos, Less, Equal, Greater, Some, None, Option, unsigned_abs}
use Rattle.std.proofs.Common.{if◌then◌else◌, sym, refl, ap, ap₂, ◌∙◌, ⊎_elim, arith}
use Rattle.std.proofs.lemmas.List.{length-set, length-replicate}
use Rattle.std.proofs.lemmas.Bool.{cases_Bool, and_parts, eqb-true, eq-eqb, and_from, both_ways}
use Rattle.std.proofs.lemmas.Int.{ints, clamps}
use Rattle.std.specs.Prelude.{int_lt}
use Rattle.std.specs.Int.{int_max}
use Rattle.std.specs.Option.{option_map}
use Rattle.std.specs.Ordering.{is_lt}
use Rattle.std.specs.List.{AllByRecursion}
use Rattle.cost.specs.declared.TheConstants.{COST_LIMIT}
use Rattle.cost.specs.declared.plain_kind.Plain.{Plain}
use Rattle.cost.specs.Columns.{lex}
use Rattle.cost.specs.Readings.{worse}
use Rattle.cost.proofs.Exact.{rail_of_same}
use Rattle.tables.specs.PairTables.{HavePlaces, costs_opened, standing_opened, costs_entered}
use Rattle.tables.specs.PairTables.{standing_entered, ChangesCell}
use Rattle.tables.proofs.Cells.{written, opened}
use Rattle.pairing.specs.Places.{place_of, places_of}
use Rattle.orderfile.specs.declared.record.StatedPair.{StatedPair}
use Rattle.orderfile.specs.Format.{StatedOrder, PairFits}
use Rattle.orderfile.specs.Loading.{plain, plain_kind, plain_cell, costs_after, standing_after}
use Rattle.orderfile.specs.Loading.{names_blocks, greater, stated_cost, ShowsOrder}
use Rattle.orderfile.proofs.Greatest.{greater_none, greater_assoc, IsSmall, greater_small}
use Rattle.orderfile.proofs.Greatest.{named, named_small}

-- ---- The worse of two plain costs

-- one column is less where its number is
one_column : (x z : ℤ) → is_lt (lex (x ∷ []) (z ∷ [])) ≡ int_lt x z
one_column x z = by (int_lt x z) (int_lt z x)
  where
    by : (less greater : Bool)
        → is_lt (if less then Less else (if greater then Greater else Equal)) ≡ less
    by true greater = refl
    by false true = refl
    by false false = refl

-- of two equal numbers the earlier stays, which is the same
less_or_not : (x z : ℤ) → ◌≡◌ {A = Plain} (if int_lt x z then plain z else plain x)
    (plain (int_max x z))
less_or_not x z = ⊎_elim
    (λ less. let same : z ≡ int_max x z = omega (arith, ints, clamps) in rw less (ap plain same))
    (λ not_less. let same : x ≡ int_max x z = omega (arith, ints, clamps) in
    rw not_less (ap plain same))
    (cases_Bool (int_lt x z))

-- so where both are within the limit, the worse is the greater
worse_plain : (old : Option ℤ) (z : ℤ) → IsSmall old → unsigned_abs z ≤ COST_LIMIT
    → Some (worse plain_kind (option_map plain old) (plain z))
    ≡ option_map plain (greater old (Some z))
worse_plain None z small near = refl
worse_plain (Some x) z small near =
    ap₂ (λ a b. Some (if is_lt (lex (a ∷ []) (b ∷ [])) then plain z else plain x))
    (rail_of_same x (omega (arith, small x refl))) (rail_of_same z (omega (arith, near)))
    ∙ ap (λ less. Some (if less then plain z else plain x)) (one_column x z)
    ∙ ap Some (less_or_not x z)

-- ---- The places of the tables

-- tables that were just opened have a place for each pair
pub blank_places : (n : ℕ) → HavePlaces n (length (costs_opened (plain (pos 0)) n))
    (length (standing_opened n))
blank_places n = record {
  costs = length-replicate (places_of n) (plain (pos 0));
  standing = length-replicate (places_of n) 0;
}

-- and have it still where a pair was entered
pub places_still : (n : ℕ) (p : StatedPair) (costs : List Plain) (standing : List ℕ)
    → HavePlaces n (length costs) (length standing)
    → HavePlaces n
    (length (costs_entered plain_kind n p.left p.right (plain p.cost) costs standing))
    (length (standing_entered n p.left p.right standing))
places_still n p costs standing have =
    let at = place_of n p.left p.right in
    record {
      costs = length-set costs at (worse plain_kind
          (plain_cell n costs standing p.left p.right) (plain p.cost)) ∙ have.costs;
      standing = length-set standing at 1 ∙ have.standing;
    }

-- ---- Entering

-- one pair that is entered
module _ (n : ℕ) (p : StatedPair) (fits : PairFits n p) (costs : List Plain) (standing : List ℕ)
    (have : HavePlaces n (length costs) (length standing))
    (l r : ℕ) (hl : l < n) (hr : r < n) where
  -- its own cell has the worse then, and no other changed
  change : ChangesCell n p.left p.right
      (Some (worse plain_kind (plain_cell n costs standing p.left p.right) (plain p.cost)))
      (plain_cell n costs standing)
      (plain_cell n (costs_entered plain_kind n p.left p.right (plain p.cost) costs standing)
      (standing_entered n p.left p.right standing))
  change = written (plain (pos 0)) n costs standing p.left p.right have fits.left_below
      fits.right_below 1 (worse plain_kind (plain_cell n costs standing p.left p.right)
      (plain p.cost)) (place_of n p.left p.right) refl

  -- so each cell has the greater of what stood and of what the pair names for it
  entered : (old : Option ℤ) → IsSmall old
      → plain_cell n costs standing l r ≡ option_map plain old
      → plain_cell n (costs_entered plain_kind n p.left p.right (plain p.cost) costs standing)
      (standing_entered n p.left p.right standing) l r
      ≡ option_map plain (greater old (named l r p))
  entered old small was =
      ⊎_elim
      (λ here. let both = and_parts (p.left == l) (p.right == r) here in
      let left = eqb-true p.left l both.0 in
      let right = eqb-true p.right r both.1 in
      let stood : plain_cell n costs standing p.left p.right ≡ option_map plain old =
      rw (left, right) was in
      rw here (rw (← left, ← right)
      (change.changed ∙ ap (λ c. Some (worse plain_kind c (plain p.cost))) stood
      ∙ worse_plain old p.cost small fits.cost_within)))
      (λ elsewhere. rw elsewhere (change.others l r hl hr (λ same. both_ways _ elsewhere
      (and_from _ _ (eq-eqb _ _ (sym same.0)) (eq-eqb _ _ (sym same.1))))
      ∙ was ∙ ap (option_map plain) (sym (greater_none old))))
      (cases_Bool (names_blocks l r p))

-- and after more pairs the greater of what stood and of what they state
pub cells_after : (n : ℕ) (ps : List StatedPair) (costs : List Plain) (standing : List ℕ)
    → AllByRecursion (PairFits n) ps → HavePlaces n (length costs) (length standing) → (l r : ℕ)
    → l < n → r < n → (old : Option ℤ) → IsSmall old
    → plain_cell n costs standing l r ≡ option_map plain old
    → plain_cell n (costs_after n ps costs standing) (standing_after n ps standing) l r
    ≡ option_map plain (greater old (stated_cost ps l r))
cells_after n [] costs standing s have l r hl hr old small was =
    was ∙ ap (option_map plain) (sym (greater_none old))
cells_after n (p ∷ ps) costs standing s have l r hl hr old small was =
    let its = named l r p in
    cells_after n ps
    (costs_entered plain_kind n p.left p.right (plain p.cost) costs standing)
    (standing_entered n p.left p.right standing) s.1 (places_still n p costs standing have)
    l r hl hr (greater old its) (greater_small old its small (named_small s.0 l r))
    (entered n p s.0 costs standing have l r hl hr old small was)
    ∙ ap (option_map plain) (greater_assoc old its (stated_cost ps l r))

pub shows_order : (order : StatedOrder) → AllByRecursion (PairFits order.size) order.pairs
    → ShowsOrder order
    (costs_after order.size order.pairs (costs_opened (plain (pos 0)) order.size)
    (standing_opened order.size))
    (standing_after order.size order.pairs (standing_opened order.size))
shows_order order s l r hl hr =
    let n = order.size in
    let costs = costs_opened (plain (pos 0)) n in
    cells_after n order.pairs costs (standing_opened n) s (blank_places n) l r hl hr
    None (λ z e. cc) (opened (plain (pos 0)) n costs (standing_opened n) refl l r hl hr)
