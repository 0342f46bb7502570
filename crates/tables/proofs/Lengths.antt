-- The test of the tables' lengths tells what they are.
-- Idea: both equations are tested, and a conjunction holds exactly if both parts do.
use Rattle.std.specs.Prelude.{◌≡◌, ℕ, true, false, ◌==◌, IsTrue, ◌↔◌}
use Rattle.std.proofs.lemmas.Bool.{eqb-true, eq-eqb}
use Rattle.std.proofs.lemmas.Bool.Decides.{Decides-and, Decides-like, not_from_Decides}
use Rattle.pairing.specs.Places.{places_of}
use Rattle.tables.specs.PairTables.{HavePlaces, have_places}

module _ (n costs standing : ℕ) where
  places_tell : IsTrue (have_places n costs standing) ↔ HavePlaces n costs standing
  places_tell = Decides-like (have_places n costs standing)
      (λ h. record { costs = h.0; standing = h.1 }) (λ h. (h.costs, h.standing))
      (Decides-and (costs == places_of n) (standing == places_of n)
      (eqb-true costs (places_of n), eq-eqb costs (places_of n))
      (eqb-true standing (places_of n), eq-eqb standing (places_of n)))

  pub places_from : HavePlaces n costs standing → have_places n costs standing ≡ true
  places_from = places_tell.1

  pub places_told : have_places n costs standing ≡ true → HavePlaces n costs standing
  places_told = places_tell.0

  pub places_denied : have_places n costs standing ≡ false → HavePlaces n costs standing → ⊥
  places_denied = not_from_Decides (have_places n costs standing) places_tell
