-- What a contract sees of an open sheet: its size, and how large that can be.
use Rattle.std.specs.Prelude.{ℕ, ◌≤◌, refl}
use Rattle.std.specs.Coded.{Coded, code_by, coded_ℕ}
use Rattle.blockset.specs.declared.TheConstants.{MOST_BLOCKS}

pub record Sheet : Type 0 where
  pub size : ℕ

-- a sheet of n left and n right blocks
abbrev pub sheet_of : ℕ → Sheet
sheet_of n = record { size = n }

-- how many left blocks a sheet has, which is how many right blocks it has
abbrev pub size_of : Sheet → ℕ
size_of sheet = sheet.size

abbrev pub sheet_code : Coded Sheet
sheet_code = code_by ℕ coded_ℕ (λ sheet. sheet.size) (λ n. sheet_of n) (λ _. refl)

-- how many blocks a plane of a sheet can have
pub record IsSize (n : ℕ) : Type 0 where
  pub some : 1 ≤ n
  pub few : n ≤ MOST_BLOCKS
