-- What is known of lent tables that a sheet was settled with, or that refused it.
-- Idea: a call is made with the parts of one value, and these together are the value again. Pair
-- tables in order have a sane grid, whose totals stay far from the end of the rail.
use Rattle.std.proofs.Common.{◌≡◌, ℕ, List, [], ◌∷◌, ℤ, sym, refl, ap, ◌∙◌}
use Rattle.cost.specs.Columns.{rail_of}
use Rattle.cost.specs.declared.plain_kind.Plain.{Plain}
use Rattle.pairing.specs.Grid.{IsSane, IsPerfectIn, total}
use Rattle.pairing.specs.Optima.{optima}
use Rattle.pairing.proofs.Listing.{optima_are}
use Rattle.tables.specs.Lent.{Lent, lent, grid}
use Rattle.tables.specs.Together.{HoldTogether, ArePairTables}
use Rattle.tables.proofs.Orderly.{sane_in_order}
use Rattle.orderfile.specs.Loading.{plain_kind, plain_grid}
use Rattle.orderfile.proofs.LoadedGrid.{total_means}

-- the parts of lent tables, under their size by another name
pub same_tables : (t : Lent Plain) (n size : ℕ) (costs : List Plain) (standing partners : List ℕ)
    (left right : List Plain) → n ≡ t.size → lent size costs standing partners left right ≡ t
    → lent n costs standing partners left right ≡ t
same_tables t n size costs standing partners left right e same =
    ap (λ k. lent k costs standing partners left right) (e ∙ sym (ap (λ u. u.size) same)) ∙ same

tables_sane : (n : ℕ) (costs : List Plain) (standing : List ℕ)
    → ArePairTables plain_kind n costs standing → IsSane (plain_grid n costs standing)
tables_sane n costs standing tables = sane_in_order plain_kind (λ x. refl) n costs standing
    tables.few tables.costs_long tables.in_order

-- a value that means what the partners cost is that number
pub partners_total : (t : Lent Plain) → HoldTogether plain_kind t → (z : ℤ)
    → rail_of z ∷ [] ≡ total (grid plain_kind t) t.partners
    → z ∷ [] ≡ total (grid plain_kind t) t.partners
partners_total t together z e = total_means (grid plain_kind t)
    (tables_sane t.size t.costs t.standing together.pair_tables) t.partners together.perfect z e

-- where no pairing is perfect, there is no optimum one
pub no_optimum : (n : ℕ) (costs : List Plain) (standing : List ℕ)
    → ArePairTables plain_kind n costs standing
    → ((p : List ℕ) → IsPerfectIn (plain_grid n costs standing) p → ⊥)
    → optima (plain_grid n costs standing) ≡ []
no_optimum n costs standing tables none =
    ((optima_are (plain_grid n costs standing)).none (tables_sane n costs standing tables)).1
    none
