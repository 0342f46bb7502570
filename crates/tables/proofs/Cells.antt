-- Entering or striking a pair changes its own cell and no other, and tables that were just opened
-- have no cell.
-- Idea: different pairs of blocks below n lie at different places, so what is written at the place
-- of one pair is read there and nowhere else.
use Rattle.std.specs.Prelude.{◌≡◌, ◌≢◌, ℕ, ◌/◌, ◌%◌, ◌<◌, List, length, if◌then◌else◌, Some, None}
use Rattle.std.specs.Prelude.{slice_index_or, slice_set}
use Rattle.std.proofs.Common.{sym, ap, ap₂, ◌∙◌, arith}
use Rattle.std.proofs.lemmas.Nat.{mul-add-lt, div-mul-add, mod-mul-add}
use Rattle.std.proofs.lemmas.List.{get_or-set_other, get_or-replicate}
use Rattle.std.proofs.lemmas.Grind.{get_or-set_at}
use Rattle.pairing.specs.Places.{place_of, places_of}
use Rattle.tables.specs.PairTables.{HavePlaces, says_stands, byte_of, cell, ChangesCell}
use Rattle.tables.specs.PairTables.{AreAllAbsent}
use Rattle.tables.specs.PairTables.{standing_opened}

-- a place tells its pair, and lies within the tables
pub place_left : (n l r : ℕ) → r < n → place_of n l r / n ≡ l
place_left n l r h = div-mul-add l n r h

pub place_right : (n l r : ℕ) → r < n → place_of n l r % n ≡ r
place_right n l r h = mod-mul-add l n r h

pub place_below : (n l r : ℕ) → l < n → r < n → place_of n l r < places_of n
place_below n l r hl hr = mul-add-lt l n r n hl hr

-- another pair lies elsewhere
pub apart : (n l r i j : ℕ) → r < n → j < n → ((i ≡ l) × (j ≡ r) → ⊥)
    → place_of n i j ≢ place_of n l r
apart n l r i j hr hj differ = λ same. differ (
  sym (place_left n i j hj) ∙ ap (λ k. k / n) same ∙ place_left n l r hr,
  sym (place_right n i j hj) ∙ ap (λ k. k % n) same ∙ place_right n l r hr,
)

-- where the tables have a place for each pair, and both blocks exist
module _ {K : Type 0} (nought : K) (n : ℕ) (costs : List K) (standing : List ℕ) (l r : ℕ)
    (have : HavePlaces n (length costs) (length standing)) (hl : l < n) (hr : r < n) where
  -- a byte and a cost that are written at the pair's place
  pub written : (byte : ℕ) (cost : K) (at : ℕ) → at ≡ place_of n l r
      → ChangesCell n l r (if says_stands byte then Some cost else None)
      (cell nought n costs standing)
      (cell nought n (slice_set costs at cost) (slice_set standing at byte))
  written byte cost at e =
      let below = place_below n l r hl hr in
      record {
        changed = ap₂ (λ b x. if says_stands b then Some x else None)
            (get_or-set_at standing at (place_of n l r) byte 0 (sym e)
            (omega (arith, have.standing)))
            (get_or-set_at costs at (place_of n l r) cost nought (sym e)
            (omega (arith, have.costs)));
        others = λ i j hi hj differ.
            let elsewhere = λ (same : place_of n i j ≡ at).
            apart n l r i j hr hj differ (same ∙ e) in
            ap₂ (λ b x. if says_stands b then Some x else None)
            (get_or-set_other standing at (place_of n i j) byte 0 elsewhere)
            (get_or-set_other costs at (place_of n i j) cost nought elsewhere);
      }

-- tables that were just opened
pub opened : {K : Type 0} (nought : K) (n : ℕ) (costs : List K) (standing : List ℕ)
    → standing ≡ standing_opened n → AreAllAbsent n (cell nought n costs standing)
opened nought n costs standing e l r hl hr =
    ap (λ b. if says_stands b then Some (slice_index_or costs (place_of n l r) nought) else None)
    (ap (λ bytes. byte_of n bytes l r) e
    ∙ get_or-replicate (places_of n) (place_of n l r) 0 0 (place_below n l r hl hr))
