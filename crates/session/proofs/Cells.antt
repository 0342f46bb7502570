-- Pair tables that show the book's cells state a grid that is the book's inside, and go on showing
-- them when a pair is entered or struck.
-- Idea: a cell tells whether its pair stands and at what cost, so where two cells are one, the two
-- grids agree. What is written at a pair's place changes its cell and no other.
use Rattle.std.proofs.Common.{◌≡◌, ℕ, ◌<◌, ◌≤◌, Bool, true, false, cond, ◌&&◌, eqb, List, []}
use Rattle.std.proofs.Common.{length, get_or, set, replicate, Some, None, Option, sym, refl, ap}
use Rattle.std.proofs.Common.{ap₂, ◌∙◌, arith}
use Rattle.std.specs.Prelude.{is_some}
use Rattle.std.proofs.lemmas.List.{length-set, length-replicate, get_or-map, get_or-replicate}
use Rattle.std.proofs.lemmas.List.{get_or-set_same, get_or-set_other}
use Rattle.std.proofs.lemmas.Bool.{cond-true, and_parts, and_from, eqb-true, eq-eqb, false≢true}
use Rattle.cost.specs.declared.Cost.{Ghosts}
use Rattle.cost.specs.Columns.{AreWithin}
use Rattle.cost.specs.declared.TheConstants.{COST_LIMIT}
use Rattle.pairing.specs.Inside.{AreSameInside}
use Rattle.pairing.specs.Theorems.{AreAlikeInside}
use Rattle.pairing.proofs.Inside.{inside_matters}
use Rattle.pairing.specs.Places.{place_of, places_of}
use Rattle.tables.specs.PairTables.{says_stands, says_disturbed, byte_of}
use Rattle.tables.specs.Said.{grid_of}
use Rattle.tables.proofs.Cells.{apart, place_below}
use Rattle.tables.proofs.Writing.{wrote_in_order, blank_in_order}
use Rattle.session.specs.Book.{Book, with_cell, stands_in, columns_in, grid_in}
use Rattle.session.specs.Program.{cost_in, byte_in}
use Rattle.session.proofs.Held.{Shows, each}

is_some-cond : {X : Type 0} (b : Bool) (x : X) → is_some (cond b (Some x) None) ≡ b
is_some-cond true x = refl
is_some-cond false x = refl

module _ {K : Type 0} (kind : Ghosts K) (n : ℕ) (b : Book K) (costs : List K) (standing : List ℕ)
    (shows : Shows kind n b.cells costs standing) where
  -- whether a pair stands
  pub stands_alike : (l r : ℕ) → l < n → r < n
      → says_stands (byte_of n standing l r) ≡ stands_in b.cells l r
  stands_alike l r i j =
      sym (is_some-cond (says_stands (byte_of n standing l r))
      (get_or costs (place_of n l r) kind.zero))
      ∙ ap is_some (each kind n b.cells costs standing shows l r i j)

  -- and at what cost
  pub cell_is : (l r : ℕ) → l < n → r < n → says_stands (byte_of n standing l r) ≡ true
      → b.cells l r ≡ Some (get_or costs (place_of n l r) kind.zero)
  cell_is l r i j stands =
      sym (each kind n b.cells costs standing shows l r i j) ∙ cond-true _ _ _ stands

  pub same_inside : AreSameInside (grid_of kind n costs standing) (grid_in kind n b)
  same_inside = record {
    size = refl;
    columns = refl;
    stands = stands_alike;
    cost = λ l r i j stands.
        get_or-map kind.meaning costs (place_of n l r) kind.zero []
        (omega (arith, place_below n l r i j, shows.pair_tables.costs_long))
        ∙ sym (ap (columns_in kind n) (cell_is l r i j stands));
  }

  pub alike : AreAlikeInside (grid_of kind n costs standing) (grid_in kind n b)
  alike = inside_matters (grid_of kind n costs standing) (grid_in kind n b) same_inside

-- what a cell says, written at the place of its pair
written : {K X : Type 0} (says : Option K → X) (other : X) (n : ℕ) (cells : ℕ → ℕ → Option K)
    (table : List X) → length table ≡ places_of n
    → ((i j : ℕ) → i < n → j < n → get_or table (place_of n i j) other ≡ says (cells i j))
    → (l r : ℕ) → l < n → r < n → (new : Option K) → (i j : ℕ) → i < n → j < n
    → get_or (set table (place_of n l r) (says new)) (place_of n i j) other
    ≡ says (with_cell cells l r new i j)
written says other n cells table long holds l r hl hr new i j hi hj =
    elim (eqb i l && eqb j r) as (λ this. (eqb i l && eqb j r) ≡ this
    → get_or (set table (place_of n l r) (says new)) (place_of n i j) other
    ≡ says (cond this new (cells i j))) [
      | true ↦ λ k. let both = and_parts (eqb i l) (eqb j r) k in
          ap (λ p. get_or (set table (place_of n l r) (says new)) p other)
          (ap₂ (place_of n) (eqb-true i l both.0) (eqb-true j r both.1))
          ∙ get_or-set_same table (place_of n l r) (says new) other
          (omega (arith, place_below n l r hl hr, long))
      | false ↦ λ k. get_or-set_other table (place_of n l r) (place_of n i j) (says new) other
          (apart n l r i j hr hj (λ same.
          false≢true (sym k ∙ and_from (eqb i l) (eqb j r) (eq-eqb i l same.0)
          (eq-eqb j r same.1)))) ∙ holds i j hi hj
    ] refl

module _ {K : Type 0} (kind : Ghosts K) (n : ℕ) (cells : ℕ → ℕ → Option K) (costs : List K)
    (standing : List ℕ) (shows : Shows kind n cells costs standing) (l r : ℕ) (hl : l < n)
    (hr : r < n) where
  pub written_shows : (new : Option K)
      → (says_stands (byte_in new) ≡ true
      → AreWithin COST_LIMIT (kind.meaning (cost_in kind.zero new)))
      → Shows kind n (with_cell cells l r new)
      (set costs (place_of n l r) (cost_in kind.zero new))
      (set standing (place_of n l r) (byte_in new))
  written_shows new small = record {
    pair_tables = record {
      few = shows.pair_tables.few;
      costs_long = length-set costs (place_of n l r) (cost_in kind.zero new)
          ∙ shows.pair_tables.costs_long;
      standing_long = length-set standing (place_of n l r) (byte_in new)
          ∙ shows.pair_tables.standing_long;
      in_order = wrote_in_order kind (places_of n) costs standing shows.pair_tables.costs_long
          shows.pair_tables.standing_long (place_of n l r) (byte_in new) (cost_in kind.zero new)
          (calm new) small shows.pair_tables.in_order;
    };
    costs_are = written (cost_in kind.zero) kind.zero n cells costs shows.pair_tables.costs_long
        shows.costs_are l r hl hr new;
    bytes_are = written byte_in 0 n cells standing shows.pair_tables.standing_long
        shows.bytes_are l r hl hr new;
  }
    where
      calm : (new : Option K) → says_disturbed (byte_in new) ≡ false
      calm None = refl
      calm (Some c) = refl

-- tables that were just opened show a blank book
pub opened_shows : {K : Type 0} (kind : Ghosts K) (n : ℕ) → n ≤ 64
    → Shows kind n (λ l r. None) (replicate (places_of n) kind.zero) (replicate (places_of n) 0)
opened_shows kind n few = record {
  pair_tables = record {
    few = few;
    costs_long = length-replicate (places_of n) kind.zero;
    standing_long = length-replicate (places_of n) 0;
    in_order = blank_in_order kind (places_of n) (replicate (places_of n) kind.zero);
  };
  costs_are = λ l r i j. get_or-replicate (places_of n) (place_of n l r) kind.zero kind.zero
      (place_below n l r i j);
  bytes_are = λ l r i j. get_or-replicate (places_of n) (place_of n l r) 0 0
      (place_below n l r i j);
}
