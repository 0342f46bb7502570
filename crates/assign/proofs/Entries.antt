-- Reads and writes of tables of values, and the part of the cost table that a left block has.
-- Idea: the columns at a place are those of the value there, and a write changes them at its own
-- place only.
use Rattle.std.proofs.Common.{◌≡◌, ℕ, ◌+◌, ◌-◌, ◌*◌, ◌<◌, ◌≤◌, true, List, [], map, length, get_or}
use Rattle.std.proofs.Common.{take, drop, set, sym, ap, ◌∙◌, subst, arith}
use Rattle.std.proofs.lemmas.Bool.{cases_eq}
use Rattle.std.proofs.lemmas.List.{get_or-set_same, get_or-set_other, map-set, length-map}
use Rattle.cost.specs.declared.Cost.{Ghosts}
use Rattle.cost.specs.declared.TheConstants.{COST_LIMIT}
use Rattle.cost.specs.Columns.{AreWithin}
use Rattle.cost.specs.Weights.{weight}
use Rattle.blockset.specs.declared.BlockSet.{BlockSet}
use Rattle.blockset.specs.Has.{has}
use Rattle.pairing.specs.Places.{place_of}
use Rattle.pairing.specs.Rows.{holds}
use Rattle.cost.proofs.Exact.{within_more}
use Rattle.tables.specs.Said.{columns_at}
use Rattle.tables.proofs.Filling.{value_at, row_length, columns_at_lem}
use Rattle.assign.specs.declared.limits.TheConstants.{SHIFT_LIMIT}
use Rattle.assign.specs.declared.search.Offer.{Offer}
use Rattle.assign.specs.Weighed.{weight_at, BoundedOn, SearchTables}
use Rattle.assign.specs.Offers.{IsModest}

module _ {K : Type 0} (kind : Ghosts K) where
  pub put_same : (xs : List K) (i : ℕ) (y : K) → i < length xs
      → columns_at kind (set xs i y) i ≡ kind.meaning y
  put_same xs i y h = ap (λ z. get_or z i []) (map-set kind.meaning xs i y)
      ∙ get_or-set_same (map kind.meaning xs) i (kind.meaning y) []
      (subst (λ (z : ℕ). i < z) (sym (length-map xs kind.meaning)) h)

  pub put_other : (xs : List K) (i c : ℕ) (y : K) → (c ≡ i → ⊥)
      → columns_at kind (set xs i y) c ≡ columns_at kind xs c
  put_other xs i c y ne = ap (λ z. get_or z c []) (map-set kind.meaning xs i y)
      ∙ get_or-set_other (map kind.meaning xs) i c (kind.meaning y) [] ne

  -- a value that was read is within what its place is within
  pub read_within : (a b : ℕ) (xs : List K) (i : ℕ) (x : K) → i < length xs → x ≡ get_or xs i x
      → a ≤ b → AreWithin a (columns_at kind xs i) → AreWithin b (kind.meaning x)
  read_within a b xs i x h e le w = within_more a b (kind.meaning x) le
      (subst (AreWithin a) (sym (value_at kind xs i x h e)) w)

  -- and weighs what the table says there
  pub read_weighs : (xs : List K) (i : ℕ) (x : K) → i < length xs → x ≡ get_or xs i x
      → weight (kind.meaning x) ≡ weight_at kind xs i
  read_weighs xs i x h e = ap weight (value_at kind xs i x h e)

  -- what was read at a place is what the table says there
  pub entry_is : (xs : List K) (i : ℕ) (x : K) → i < length xs → x ≡ get_or xs i x
      → kind.meaning (get_or xs i x) ≡ columns_at kind xs i
  entry_is xs i x h e = sym (ap kind.meaning e) ∙ value_at kind xs i x h e

  -- a table that one value is written to is within what the value and the table were within
  pub put_bound : (a b n : ℕ) (xs : List K) (i : ℕ) (y : K) → i < length xs → a ≤ b
      → AreWithin b (kind.meaning y) → ((c : ℕ) → c < n → AreWithin a (columns_at kind xs c))
      → (c : ℕ) → c < n → AreWithin b (columns_at kind (set xs i y) c)
  put_bound a b n xs i y h le near far c below =
      let same = put_same xs i y h in
      let other = put_other xs i c y in
      let more = within_more a b (columns_at kind xs c) le (far c below) in
      grind (arith, cases_eq c i)

-- the part of a table that left block l has, where each has n places
abbrev pub part_of : {X : Type 0} (n l : ℕ) → List X → List X
part_of n l xs = take (l * n + n - l * n) (drop (l * n) xs)

module _ {K : Type 0} {kind : Ghosts K} {rows : List BlockSet} {costs : List K}
    (lent : SearchTables kind rows costs) (l : ℕ) (room : l < length rows) where
  -- the costs of a left block stand in its part of the table
  pub part_is : (c : ℕ) → holds rows l c ≡ true
      → columns_at kind (part_of (length rows) l costs) c
      ≡ columns_at kind costs (place_of (length rows) l c)
  part_is c t = columns_at_lem kind costs (length rows) l room lent.square c
      (lent.inside l c room t)

  pub part_modest : BoundedOn kind COST_LIMIT (holds rows l) (part_of (length rows) l costs)
  part_modest c t = subst (AreWithin COST_LIMIT) (sym (part_is c t)) (lent.modest l c room t)

  -- what it offers to right blocks that it stands with is modest
  pub row_modest : {offer : Offer K} → offer.from ≡ l
      → offer.costs.now ≡ part_of (length rows) l costs
      → AreWithin SHIFT_LIMIT (kind.meaning offer.shift)
      → ((c : ℕ) → has offer.to c ≡ true → holds rows l c ≡ true) → IsModest kind offer
  row_modest from row shift to = record {
    few = subst (λ (xs : List K). length xs ≤ 64) (sym row)
        (omega (arith, row_length costs (length rows) l room lent.square, lent.few));
    block = omega (arith, from, room, lent.few);
    costs = λ c t. subst (λ xs. AreWithin COST_LIMIT (columns_at kind xs c)) (sym row)
        (part_modest c (to c t));
    shift = shift;
  }
