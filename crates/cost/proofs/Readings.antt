-- The worse of two readings is one of them.
-- Idea: it is told by one comparison, so what holds of both readings holds of the one that stands.
use Rattle.std.proofs.Common.{◌≡◌, Bool, true, false, cond, Some, None, Option, refl}
use Rattle.std.specs.Ordering.{is_lt}
use Rattle.cost.specs.declared.Cost.{Ghosts}
use Rattle.cost.specs.Columns.{lex}
use Rattle.cost.specs.Readings.{worse}

one_of_two : {K : Type 0} (P : K → Type 0) (test : Bool) (x y : K) → P x → P y → P (cond test x y)
one_of_two P true x y h k = h
one_of_two P false x y h k = k

-- what holds of a reading and of the cost that stood, if one did, holds of the worse
pub worse_has : {K : Type 0} (kind : Ghosts K) (P : K → Type 0) (old : Option K) (reading : K)
    → P reading → ((cost : K) → old ≡ Some cost → P cost) → P (worse kind old reading)
worse_has kind P None reading new stood = new
worse_has kind P (Some cost) reading new stood =
    one_of_two P (is_lt (lex (kind.meaning cost) (kind.meaning reading))) reading cost new
    (stood cost refl)
