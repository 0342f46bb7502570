-- Opening a sheet over new tables: it is never refused, and what it writes stands in the tables.
-- Idea: the size is from 1 to 64 and both pair tables have their right lengths, so all needs are
-- met; a call that is handed the whole of a table leaves the whole of it.
use Rattle.std.proofs.Common.{◌≡◌, ℕ, List, ◌++◌, length, take, ap, ◌∙◌, sym, subst}
use Rattle.std.proofs.lemmas.List.{take_at}
use Rattle.tables.specs.PairTables.{AreAllAbsent, cell}
use Rattle.sheet.proofs.Needs.{met_or_not}
use Rattle.sheet.specs.declared.fault.Fault.{Fault}
use Rattle.sheet.specs.Needs.{IsFirstUnmet}
use Rattle.sheet.specs.Opening.{open_needs}
use Rattle.sheet.specs.Size.{IsSize}
use Rattle.session.specs.declared.call.Lengths.{Lengths}
use Rattle.session.specs.Lists.{right_lengths}

-- all needs of opening are met
pub never_refused : (n costs standing : ℕ) (h : Lengths) (f : Fault) → IsSize n
    → h ≡ right_lengths n → costs ≡ h.costs → standing ≡ h.standing
    → IsFirstUnmet (open_needs n costs standing) f → ⊥
never_refused n costs standing h f size right same_costs same_standing =
    met_or_not (open_needs n costs standing) f (
      size,
      (
        record {
          costs = same_costs ∙ ap (λ h. h.costs) right;
          standing = same_standing ∙ ap (λ h. h.standing) right;
        },
        tt,
      ),
    )

-- pairs that are absent in two tables are absent where these are the whole of two others
pub absent_in_whole : {K : Type 0} (zero : K) (n : ℕ) (costs more : List K)
    (standing others : List ℕ) (k m : ℕ) → length costs ≡ k → length standing ≡ m
    → AreAllAbsent n (cell zero n costs standing)
    → AreAllAbsent n (cell zero n (take k (costs ++ more)) (take m (standing ++ others)))
absent_in_whole zero n costs more standing others k m costs_whole standing_whole absent =
    subst (λ xs. AreAllAbsent n (cell zero n xs (take m (standing ++ others))))
    (sym (take_at costs more k costs_whole))
    (subst (λ ys. AreAllAbsent n (cell zero n costs ys))
    (sym (take_at standing others m standing_whole)) absent)
