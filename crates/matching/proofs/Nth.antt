-- What stands at some place of a list is in the list, so that a place in the list of the optimum
-- pairings has one of them.
use Rattle.std.proofs.Common.{ℕ, List, [], Contains, subst}
use Rattle.std.proofs.lemmas.List.Elements.{Contains-get_or}
use Rattle.pairing.specs.Grid.{Grid, IsOptimum}
use Rattle.pairing.specs.Optima.{optima}
use Rattle.pairing.proofs.Listing.{optima_are}
use Rattle.matching.specs.Answers.{IsNth}

pub contains_nth : (ps : List (List ℕ)) (i : ℕ) (q : List ℕ) → IsNth ps i q → Contains ps q
contains_nth ps i q h = subst (Contains ps) h.1 (Contains-get_or ps i [] h.0)

-- what stands in the list of the optimum pairings is one of them
pub nth_optimum : (g : Grid) (i : ℕ) (q : List ℕ) → IsNth (optima g) i q → IsOptimum g q
nth_optimum g i q h = ((optima_are g).list.are q).0 (contains_nth (optima g) i q h)
