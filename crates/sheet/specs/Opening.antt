-- What `open` answers, and what it leaves in the tables, at every input.
use Rattle.std.specs.Prelude.{◌≡◌, ℕ, List, length, Result}
use Rattle.tables.specs.PairTables.{HavePlaces, costs_opened, standing_opened}
use Rattle.sheet.specs.Needs.{Needs, need, nothing, Responds}
use Rattle.sheet.specs.Pairs.{PairTablesAre}
use Rattle.sheet.specs.Size.{Sheet, sheet_of, IsSize}
use Rattle.sheet.specs.declared.fault.Fault.{Fault}
use Rattle.sheet.specs.declared.fault.Cause.TheVariants.{Size, TableLength}

-- a size that a sheet can have, and a place for each pair; costs and bytes are the lengths of the
-- two pair tables
abbrev pub open_needs : (n costs bytes : ℕ) → Needs
open_needs n costs bytes =
    need (IsSize n) Size (need (HavePlaces n costs bytes) TableLength nothing)

-- a sheet of n blocks a plane is open, over tables in which every pair is absent and at cost zero
abbrev pub OpensSheet : {K : Type 0} (nought : K) (n : ℕ) (costs : List K) (standing : List ℕ)
    → Result Sheet Fault → (costs' : List K) (standing' : List ℕ) → Type 0
OpensSheet nought n costs standing answer costs' standing' =
    Responds (open_needs n (length costs) (length standing)) answer
    (λ sheet. (sheet ≡ sheet_of n)
    × PairTablesAre (costs_opened nought n) (standing_opened n) costs' standing')
    (PairTablesAre costs standing costs' standing')
