-- What the last search leaves in the tables is an optimum pairing with the greatest prices.
-- Idea: the distances are the greatest prices, valid prices prove the pairing optimum, and values
-- within PRICE_LIMIT lie on the rail.
use Rattle.std.proofs.Common.{◌≡◌, ℕ, ◌<◌, true, false, ltb, List, length, sym, refl, ◌∙◌, subst}
use Rattle.std.proofs.Common.{Ok}
use Rattle.std.proofs.lemmas.Nat.{mul-add-lt}
use Rattle.std.proofs.lemmas.Bool.{and_parts, ltb-true}
use Rattle.cost.specs.declared.Cost.{Ghosts}
use Rattle.blockset.specs.declared.BlockSet.{BlockSet}
use Rattle.pairing.specs.Places.{place_of}
use Rattle.pairing.specs.Largest.{HasNoPerfect}
use Rattle.pairing.specs.Rows.{holds}
use Rattle.tables.specs.PairTables.{byte_of, says_stands}
use Rattle.tables.specs.Said.{columns_at}
use Rattle.tables.specs.PairRows.{AreStandingRows}
use Rattle.tables.specs.Lent.{Lent, grid, IsUsable}
use Rattle.tables.proofs.Alike.{rows_alike, unpaired_rows}
use Rattle.tables.proofs.Orderly.{near_value, sane_in_order}
use Rattle.assign.specs.Weighed.{SearchTables}
use Rattle.assign.specs.Prices.{IsSolution}
use Rattle.assign.specs.Answer.{HasOptimum, Answers, Solves}
use Rattle.assign.specs.declared.Outcome.{Outcome}
use Rattle.assign.specs.declared.Outcome.TheVariants.{Optimal, Unmatched}
use Rattle.assign.specs.Search.{pairing}
use Rattle.assign.proofs.Ending.{HasPriced, optimum, greatest}

-- tables whose partners and prices are written to
abbrev pub written : {K : Type 0} → Lent K → (p : List ℕ) (l r : List K) → Lent K
written t p l r = record t { partners = p; left = l; right = r }

-- writing to the partners and the prices leaves tables usable
pub usable_still : {K : Type 0} (kind : Ghosts K) (t : Lent K) (p : List ℕ) (l r : List K)
    → IsUsable kind t → length p ≡ length t.partners → length l ≡ length t.left
    → length r ≡ length t.right → IsUsable kind (written t p l r)
usable_still kind t p l r u ep el er = record {
  few = u.few;
  lengths = record {
    room = record {
      costs_long = u.lengths.room.costs_long;
      standing_long = u.lengths.room.standing_long;
      left_long = el ∙ u.lengths.room.left_long;
      right_long = er ∙ u.lengths.room.right_long;
    };
    partners_long = ep ∙ u.lengths.partners_long;
  };
  in_order = u.in_order;
}

-- usable tables, and the rows of their standing pairs
pub record HasRows {K : Type 0} (kind : Ghosts K) (t : Lent K) (rows : List BlockSet) : Type 0 where
  pub usable : IsUsable kind t
  pub made : AreStandingRows t.size (grid kind t).stands rows

-- tables of as many blocks as there are rows
module _ {K : Type 0} {kind : Ghosts K} (t : Lent K) (rows : List BlockSet)
    (given : HasRows kind (record t { size = length rows }) rows) where
  u : IsUsable kind (record t { size = length rows })
  u = given.usable

  parts : (l c : ℕ) → l < length rows → holds rows l c ≡ true
      → (ltb c (length rows) ≡ true)
      × (says_stands (byte_of (length rows) t.standing l c) ≡ true)
  parts l c h t-is = and_parts (ltb c (length rows))
      (says_stands (byte_of (length rows) t.standing l c)) (sym (given.made l c h) ∙ t-is)

  inside : (l c : ℕ) → l < length rows → holds rows l c ≡ true → c < length rows
  inside l c h t-is = ltb-true c (length rows) (parts l c h t-is).0

  search_tables : SearchTables kind rows t.costs
  search_tables = record {
    few = u.few;
    square = u.lengths.room.costs_long;
    inside = inside;
    modest = λ l c h t-is. u.in_order.small (place_of (length rows) l c)
        (mul-add-lt l (length rows) c (length rows) h (inside l c h t-is)) (parts l c h t-is).1;
  }

  module _ (wide : (x : K) → length (kind.meaning x) ≡ kind.columns) where
    solved : IsSolution kind rows t.costs t.partners t.left t.right
        → HasOptimum kind (record t { size = length rows })
    solved s =
        let n = length rows in
        let g = grid kind (record t { size = n }) in
        let sane = sane_in_order kind wide n t.costs t.standing u.few u.lengths.room.costs_long
        u.in_order in
        let top = s.topmost in
        let prices : HasPriced g (holds rows)
        (pairing (λ _. false) t.partners s.holders s.price) top.search (columns_at kind t.left)
        (columns_at kind t.right) = record {
          alike = rows_alike n g.stands rows given.made;
          kept = s.kept;
          all = λ l h. refl;
          turns = top.turns;
          grown = top.grown;
          done = top.done;
          lefts = near_value kind wide n t.left u.lengths.room.left_long s.left_near;
          rights = near_value kind wide n t.right u.lengths.room.right_long s.right_near;
          priced = top.priced;
          tight = top.tight;
        } in
        record {
          optimum = optimum sane prices;
          prices = record {
            greatest = greatest sane prices;
            left_near = s.left_near;
            right_near = s.right_near;
          };
        }

-- tables and their rows, of which there are as many as left blocks
module _ {K : Type 0} {kind : Ghosts K} {t : Lent K} {rows : List BlockSet}
    (long : length rows ≡ t.size) (given : HasRows kind t rows) where
  own : HasRows kind (record t { size = length rows }) rows
  own = subst (λ k. HasRows kind (record t { size = k }) rows) (sym long) given

  -- they are what a search is lent
  pub search_tables_of : SearchTables kind rows t.costs
  search_tables_of = search_tables t rows own

  -- where the rows have no perfect pairing the grid has none
  pub unpaired_of : (crowd short : ℕ) → HasNoPerfect (length rows) (holds rows) crowd short
      → HasNoPerfect t.size (grid kind t).stands crowd short
  unpaired_of crowd short u =
      subst (λ k. HasNoPerfect k (grid kind (record t { size = k })).stands crowd short) long
      (unpaired_rows (length rows) (grid kind (record t { size = length rows })).stands rows
      own.made crowd short u)

  -- what the search leaves is told by the grid of the tables
  pub solved_of : ((x : K) → length (kind.meaning x) ≡ kind.columns)
      → IsSolution kind rows t.costs t.partners t.left t.right → HasOptimum kind t
  solved_of wide s = subst (λ k. HasOptimum kind (record t { size = k })) long
      (solved t rows own wide s)

-- what is answered of the tables' own rows is answered of the tables
pub answered : {K : Type 0} (kind : Ghosts K) (t : Lent K) (rows : List BlockSet)
    → length rows ≡ t.size → HasRows kind t rows
    → ((x : K) → length (kind.meaning x) ≡ kind.columns) → (p : List ℕ) (l r : List K)
    → length p ≡ length t.partners → length l ≡ length t.left → length r ≡ length t.right
    → (o : Outcome) → Solves kind rows t.costs t.partners t.left t.right p l r o
    → Answers kind t (written t p l r) (HasOptimum kind (written t p l r)) (Ok o)
answered kind t rows long given wide p l r ep el er Optimal done = (
  given.usable,
  solved_of long (record {
    usable = usable_still kind t p l r given.usable ep el er;
    made = given.made;
  }) wide done,
)
answered kind t rows long given wide p l r ep el er (Unmatched s) none = (
  given.usable,
  unpaired_of long given s.crowd s.short none.0,
  rw (none.1, none.2, none.3) refl,
)
