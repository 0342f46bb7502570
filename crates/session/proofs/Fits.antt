-- The tests of the tables' lengths, and what they tell of the tables that a call is handed.
-- Idea: each test is a row of equations between numbers, so it tells just these equations.
use Rattle.std.proofs.Common.{◌≡◌, ℕ, Bool, true, ◌&&◌, eqb, length}
use Rattle.std.specs.Bool.{Decides}
use Rattle.std.proofs.lemmas.Bool.{and_parts, and_from, eqb-true, eq-eqb}
use Rattle.std.proofs.lemmas.Bool.Decides.{Decides-and, Decides-eqb}
use Rattle.tables.specs.Lent.{HasLengths}
use Rattle.tables.specs.PairTables.{HavePlaces}
use Rattle.tables.proofs.Lengths.{places_from, places_told}
use Rattle.session.specs.Book.{pair_tables_fit, tables_fit}
use Rattle.session.specs.Lists.{TableLists, lengths, lent_of}
use Rattle.sheet.specs.Pairs.{AreBlocks, are_blocks}
use Rattle.sheet.proofs.Pairs.{blocks_from, blocks_told}

pub blocks_decided : (n l r : ℕ) → Decides (are_blocks n l r) (AreBlocks n l r)
blocks_decided n l r = (
  λ e. let both = blocks_told n l r e in record { left_below = both.0; right_below = both.1 },
  λ are. blocks_from n l r are.left_below are.right_below,
)

module _ {K : Type 0} (n : ℕ) (x : TableLists K) where
  pub pairs_fit : Decides (pair_tables_fit n (lengths x))
      (HavePlaces n (length x.costs) (length x.standing))
  pairs_fit = (
    places_told n (length x.costs) (length x.standing),
    places_from n (length x.costs) (length x.standing),
  )

  abbrev pairs : Bool
  pairs = pair_tables_fit n (lengths x)

  abbrev partners : Bool
  partners = eqb (length x.partners) n

  abbrev left : Bool
  left = eqb (length x.left) n

  abbrev right : Bool
  right = eqb (length x.right) n

  pub fits : Decides (tables_fit n (lengths x)) (HasLengths (lent_of n x))
  fits = (told, back)
    where
      told : tables_fit n (lengths x) ≡ true → HasLengths (lent_of n x)
      told e =
          let four = and_parts (pairs && partners && left) right e in
          let three = and_parts (pairs && partners) left four.0 in
          let two = and_parts pairs partners three.0 in
          let have = pairs_fit.0 two.0 in
          record {
            room = record {
              costs_long = have.costs;
              standing_long = have.standing;
              left_long = eqb-true (length x.left) n three.1;
              right_long = eqb-true (length x.right) n four.1;
            };
            partners_long = eqb-true (length x.partners) n two.1;
          }

      back : HasLengths (lent_of n x) → tables_fit n (lengths x) ≡ true
      back h =
          let have = pairs_fit.1
          (record { costs = h.room.costs_long; standing = h.room.standing_long }) in
          and_from (pairs && partners && left) right (and_from (pairs && partners) left
          (and_from pairs partners have (eq-eqb (length x.partners) n h.partners_long))
          (eq-eqb (length x.left) n h.room.left_long))
          (eq-eqb (length x.right) n h.room.right_long)

  -- with the length of one table more
  pub fits_with : (long size : ℕ)
      → Decides (tables_fit n (lengths x) && eqb long size)
      (HasLengths (lent_of n x) × (long ≡ size))
  fits_with long size =
      Decides-and (tables_fit n (lengths x)) (eqb long size) fits (Decides-eqb long size)
