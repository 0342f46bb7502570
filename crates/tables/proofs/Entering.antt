-- Tables in order stay so where a reading within 10^9 is entered.
-- Idea: the cost that stood at its place was within 10^9 too, and the worse of the two is one of
-- them.
use Rattle.std.proofs.Common.{◌≡◌, ℕ, ◌<◌, List, [], length, get_or, Some, refl, sym, ap, ◌∙◌}
use Rattle.std.proofs.Common.{subst, ⊎_elim, arith}
use Rattle.std.proofs.lemmas.Bool.{cases_Bool, cond-true, cond-false}
use Rattle.std.proofs.lemmas.List.{get_or-map}
use Rattle.cost.specs.declared.Cost.{Ghosts}
use Rattle.cost.specs.declared.TheConstants.{COST_LIMIT}
use Rattle.cost.specs.Columns.{AreWithin}
use Rattle.cost.specs.Readings.{worse}
use Rattle.cost.proofs.Readings.{worse_has}
use Rattle.pairing.specs.Places.{place_of, places_of}
use Rattle.tables.specs.PairTables.{HavePlaces, says_stands, byte_of, cell, costs_entered}
use Rattle.tables.specs.PairTables.{standing_entered}
use Rattle.tables.specs.Said.{IsInOrder}
use Rattle.tables.proofs.Cells.{place_below}
use Rattle.tables.proofs.Writing.{wrote_in_order}

module _ {K : Type 0} (kind : Ghosts K) (n : ℕ) (costs : List K) (standing : List ℕ)
    (have : HavePlaces n (length costs) (length standing))
    (o : IsInOrder kind (places_of n) costs standing) (l r : ℕ) (hl : l < n) (hr : r < n) where
  -- the cost that stands
  cell_small : (c : K) → cell kind.zero n costs standing l r ≡ Some c
      → AreWithin COST_LIMIT (kind.meaning c)
  cell_small c e =
      let here = says_stands (byte_of n standing l r) in
      let at = place_of n l r in
      let below = place_below n l r hl hr in
      ⊎_elim
      (λ stands.
      let same : get_or costs at kind.zero ≡ c = let both = sym (cond-true here _ _ stands) ∙ e in
      cc in
      subst (AreWithin COST_LIMIT)
      (get_or-map kind.meaning costs at kind.zero [] (omega (arith, below, have.costs))
      ∙ ap kind.meaning same)
      (o.small at below stands))
      (λ absent. let none = sym (cond-false here _ _ absent) ∙ e in cc)
      (cases_Bool here)

  -- and the one that stands then
  pub worse_small : (reading : K) → AreWithin COST_LIMIT (kind.meaning reading)
      → AreWithin COST_LIMIT
      (kind.meaning (worse kind (cell kind.zero n costs standing l r) reading))
  worse_small reading small =
      worse_has kind (λ x. AreWithin COST_LIMIT (kind.meaning x))
      (cell kind.zero n costs standing l r) reading small cell_small

  pub entered_in_order : (reading : K) → AreWithin COST_LIMIT (kind.meaning reading)
      → IsInOrder kind (places_of n) (costs_entered kind n l r reading costs standing)
      (standing_entered n l r standing)
  entered_in_order reading small =
      wrote_in_order kind (places_of n) costs standing have.costs have.standing (place_of n l r) 1
      (worse kind (cell kind.zero n costs standing l r) reading) refl
      (λ _. worse_small reading small) o
