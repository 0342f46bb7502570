-- The numbers, each computed from its definition at the kinds' own meaning of a cost; the greatest
-- prices and the marked pairs by tests that pass, the crowd sets as shown in proofs/Shown.antt.
use Rattle.std.proofs.Common.{ℕ, ◌<◌, [], ◌∷◌, length, get_or, refl, arith}
use Rattle.std.proofs.lemmas.Bool.{false≢true}
use Rattle.cost.specs.contracts.plain_kind.PlainCost.TheImpl.{ghosts as plain}
use Rattle.cost.specs.contracts.free_kind.FreeCost.TheImpl.{ghosts as free}
use Rattle.pairing.specs.Grid.{Grid, IsPerfectIn}
use Rattle.pairing.specs.Optima.{optima}
use Rattle.pairing.specs.Examples.{s_grid, corner_grid, cheap_grid}
use Rattle.std.proofs.lemmas.List.Elements.{Contains-get_or}
use Rattle.pairing.proofs.Listing.{optima_are, marks_are}
use Rattle.pairing.proofs.Tests.{sane_is, greatest_is, marks_tell}
use Rattle.pairing.proofs.Shown.{crowded, bare}
use Rattle.pairing.proofs.worked_examples.Goals as goal

-- what stands in the list is perfect
perfect : (g : Grid) (k : ℕ) → k < length (optima g) → IsPerfectIn g (get_or (optima g) k [])
perfect g k h = (((optima_are g).list.are _).0 (Contains-get_or (optima g) k [] h)).perfect

pub returns : goal.returns
returns c = record {
  s = record {
    all = refl;
    totals = (refl, (refl, tt));
    greatest = (
      greatest_is (s_grid plain) _ _ _ (0 ∷ 1 ∷ 0 ∷ []) (sane_is (s_grid plain) refl)
          (perfect (s_grid plain) 0 (omega arith)) refl,
      (
        greatest_is (s_grid plain) _ _ _ (0 ∷ 1 ∷ 0 ∷ []) (sane_is (s_grid plain) refl)
            (perfect (s_grid plain) 1 (omega arith)) refl,
        tt,
      ),
    );
  };
  s_marked = marks_tell (s_grid plain) _ refl;
  free_kind = refl;
  two_steps = refl;
  two_step_total = (refl, tt);
  crowded = crowded free;
  bare = bare free;
  corner = record {
    all = refl;
    totals = (refl, tt);
    greatest = (
      greatest_is (corner_grid plain) _ _ _ [] (sane_is (corner_grid plain) refl)
          (perfect (corner_grid plain) 0 (omega arith)) refl,
      tt,
    );
  };
  corner_stands = refl;
  corner_tight = refl;
  corner_unmarked = λ w. false≢true ((marks_are (corner_grid plain) 0 1).1 w);
  cheap = record {
    all = refl;
    totals = (refl, tt);
    greatest = (
      greatest_is (cheap_grid plain) _ _ _ [] (sane_is (cheap_grid plain) refl)
          (perfect (cheap_grid plain) 0 (omega arith)) refl,
      tt,
    );
  };
  level_count = refl;
  level_first = refl;
  level_last = refl;
}
