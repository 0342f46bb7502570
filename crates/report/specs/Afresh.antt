-- What loading bytes into fresh tables comes to, and settling a sheet with fresh tables.
use Rattle.std.specs.Prelude.{◌≡◌, ℕ, List, [], Ok}
use Rattle.cost.specs.declared.plain_kind.Plain.{Plain}
use Rattle.pairing.specs.Largest.{HasNoPerfect}
use Rattle.pairing.specs.Optima.{optima}
use Rattle.matching.specs.declared.augmenting.Shortfall.{Shortfall}
use Rattle.tables.specs.Lent.{Lent, lent}
use Rattle.tables.specs.Together.{HoldTogether}
use Rattle.assign.specs.Answer.{HasFirstOptimum}
use Rattle.sheet.specs.Size.{size_of}
use Rattle.orderfile.specs.Format.{StatedOrder}
use Rattle.orderfile.specs.Loading.{plain_kind, plain_grid, LoadsOrder}
use Rattle.report.specs.declared.fresh_tables.LoadedSheet.{LoadedSheet}
use Rattle.report.specs.declared.fresh_tables.Settlement.{Settlement}

-- the bytes state an order in their format, which the sheet and its pair tables show
pub record IsLoaded (IsStated : StatedOrder → Type 0) (loaded : LoadedSheet) : Type 0 where
  pub order : StatedOrder
  pub states : IsStated order
  pub size : size_of loaded.sheet ≡ order.size
  pub accepted : LoadsOrder order (Ok loaded.sheet) loaded.costs.items loaded.standing.items

-- the tables of a settlement, beside the pair tables that the sheet was settled over
abbrev pub settled_tables : ℕ → List Plain → List ℕ → Settlement → Lent Plain
settled_tables n costs standing s =
    lent n costs standing s.partners.items s.left.items s.right.items

-- they hold together, and their partners are the first optimum pairing
pub record IsSettledAfresh (n : ℕ) (costs : List Plain) (standing : List ℕ) (s : Settlement)
    : Type 0 where
  pub size : s.sheet.size ≡ n
  pub together : HoldTogether plain_kind (settled_tables n costs standing s)
  pub settled : HasFirstOptimum plain_kind (settled_tables n costs standing s)

-- there is no optimum pairing, and these are the crowd set and its shortage
pub record HasNoPairing (n : ℕ) (costs : List Plain) (standing : List ℕ) (s : Shortfall) : Type 0
  where
    pub unpaired : HasNoPerfect n (plain_grid n costs standing).stands s.crowd s.short
    pub none : optima (plain_grid n costs standing) ≡ []
