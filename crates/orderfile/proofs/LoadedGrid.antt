-- What callers need of a load: which of its ends an answer tells, that two loads of one order end
-- alike, and that all that is told of the grid in the loaded tables is told of the grid that the
-- order states.
-- Idea: bytes have one verdict, and of the three ends only one answers a sheet. An order and the
-- tables tell the end, and the order alone the tables behind it. The two grids are the same inside,
-- so each line on them is one of the theorem that nothing else of a grid matters.
-- A total of at most 64 costs is far from the end of the rail, so a plain value that means it is
-- the number itself.
use Rattle.std.proofs.Common.{◌≡◌, ℕ, ◌*◌, ◌≤◌, ◌↔◌, ◌⊎◌, List, [], ◌∷◌}
use Rattle.std.proofs.Common.{length, ℤ, pos, negsuc, Ok, Err, Result, sym, ap, ◌∙◌}
use Rattle.std.proofs.Common.{subst, inl, inr, ⊎_elim, arith}
use Rattle.std.proofs.lemmas.Bool.{cases_Bool}
use Rattle.cost.specs.Columns.{rail_of, AreWithin}
use Rattle.cost.specs.declared.plain_kind.Plain.{Plain}
use Rattle.pairing.specs.Grid.{Grid, IsSane, IsPerfectIn, total}
use Rattle.pairing.specs.Optima.{optima}
use Rattle.pairing.specs.Theorems.{AreAlikeInside}
use Rattle.pairing.proofs.Inside.{inside_matters}
use Rattle.pairing.proofs.Weighing.{total-within}
use Rattle.tables.specs.PairTables.{HavePlaces, have_places}
use Rattle.tables.proofs.Lengths.{places_told, places_denied}
use Rattle.sheet.specs.Size.{Sheet}
use Rattle.sheet.specs.Refusals.{fault}
use Rattle.sheet.specs.declared.fault.Cause.TheVariants.{TableLength}
use Rattle.sheet.specs.declared.fault.Fault.{Fault}
use Rattle.orderfile.specs.Format.{StatedOrder}
use Rattle.orderfile.specs.Loading.{plain_grid, stated_grid, RefusesLoad, LoadsOrder, Loads}
use Rattle.orderfile.specs.Loading.{EndAlike, LoadAlike}
use Rattle.std.proofs.Common.{unsigned_abs}
use Rattle.cost.specs.declared.TheConstants.{COST_LIMIT}

-- ---- The ends of a load

-- tables have the right lengths or not
fits_or_not : (n : ℕ) (costs : List Plain) (standing : List ℕ)
    → HavePlaces n (length costs) (length standing)
    ⊎ (HavePlaces n (length costs) (length standing) → ⊥)
fits_or_not n costs standing = ⊎_elim
    (λ yes'. inl (places_told n (length costs) (length standing) yes'))
    (λ no'. inr (places_denied n (length costs) (length standing) no'))
    (cases_Bool (have_places n (length costs) (length standing)))

module _ {S : StatedOrder → Type 0} {F : Fault → Type 0} {costs : List Plain} {standing : List ℕ}
    {costs' : List Plain} {standing' : List ℕ} where
  -- it answered a sheet
  pub loaded_ok : {sheet : Sheet} → Loads S F costs standing (Ok sheet) costs' standing'
      → (order : StatedOrder) × S order × HavePlaces order.size (length costs) (length standing)
      × (sheet.size ≡ order.size) × LoadsOrder order (Ok sheet) costs' standing'
  loaded_ok {sheet = sheet} h = ⊎_elim
      (λ o. ⊎_elim
      (λ fit. let a = h.loads o.0 o.1 fit in let same : sheet.size ≡ o.0.size =
      let e = a.answers in cc in (o.0, o.1, fit, same, a))
      (λ unfit. let e = (h.misfits o.0 o.1 unfit).answers in cc)
      (fits_or_not o.0.size costs standing))
      (λ g. let e = (h.faulty g.0 g.1).answers in cc)
      h.verdict.some

  -- it refused
  pub loaded_err : {f : Fault} → Loads S F costs standing (Err f) costs' standing'
      → (F f ⊎ ((order : StatedOrder) × S order
      × (HavePlaces order.size (length costs) (length standing) → ⊥) × (f ≡ fault TableLength 0)))
      × (costs' ≡ costs) × (standing' ≡ standing)
  loaded_err {f = f} h = ⊎_elim
      (λ o. ⊎_elim
      (λ fit. let e = (h.loads o.0 o.1 fit).answers in cc)
      (λ unfit. let no' = h.misfits o.0 o.1 unfit in
      let same : f ≡ fault TableLength 0 = let e = no'.answers in cc in
      (inr (o.0, o.1, unfit, same), no'.costs_stay, no'.standing_stays))
      (fits_or_not o.0.size costs standing))
      (λ g. let no' = h.faulty g.0 g.1 in let same : g.0 ≡ f = let e = no'.answers in cc in
      (inl (subst F same g.1), no'.costs_stay, no'.standing_stays))
      h.verdict.some

-- ---- Two loads

-- two loads of one order, and two refusals for one fault from the same tables, end alike
orders_alike : {order : StatedOrder} {r r₁ : Result Sheet Fault} {costs costs₁ : List Plain}
    {standing standing₁ : List ℕ} → LoadsOrder order r costs standing
    → LoadsOrder order r₁ costs₁ standing₁ → EndAlike r costs standing r₁ costs₁ standing₁
orders_alike a b = record {
  answers = a.answers ∙ sym b.answers;
  same_costs = a.enters_costs ∙ sym b.enters_costs;
  same_standing = a.enters_standing ∙ sym b.enters_standing;
}

refusals_alike : {f : Fault} {costs : List Plain} {standing : List ℕ} {r r₁ : Result Sheet Fault}
    {costs' costs₁' : List Plain} {standing' standing₁' : List ℕ}
    → RefusesLoad f costs standing r costs' standing'
    → RefusesLoad f costs standing r₁ costs₁' standing₁'
    → EndAlike r costs' standing' r₁ costs₁' standing₁'
refusals_alike a b = record {
  answers = a.answers ∙ sym b.answers;
  same_costs = a.costs_stay ∙ sym b.costs_stay;
  same_standing = a.standing_stays ∙ sym b.standing_stays;
}

-- any two formats load alike
pub load_alike : {S : StatedOrder → Type 0} {F : Fault → Type 0} {S₁ : StatedOrder → Type 0}
    {F₁ : Fault → Type 0} → LoadAlike S F S₁ F₁
load_alike = record {
  places = λ order s s₁ costs costs₁ standing standing₁ fit fit₁ r r₁ costs' costs₁' standing'
      standing₁' h h₁. orders_alike (h.loads order s fit) (h₁.loads order s₁ fit₁);
  always = λ order s s₁ costs standing r r₁ costs' costs₁' standing' standing₁' h h₁. ⊎_elim
      (λ fit. orders_alike (h.loads order s fit) (h₁.loads order s₁ fit))
      (λ unfit. refusals_alike (h.misfits order s unfit) (h₁.misfits order s₁ unfit))
      (fits_or_not order.size costs standing);
}

-- ---- The grid in the loaded tables

module _ (order : StatedOrder) (r : Result Sheet Fault) (costs : List Plain) (standing : List ℕ)
    (accepted : LoadsOrder order r costs standing) where
  abbrev loaded : Grid
  loaded = plain_grid order.size costs standing

  pub loaded_alike : AreAlikeInside loaded (stated_grid order)
  loaded_alike = inside_matters loaded (stated_grid order) accepted.grid

  pub loaded_optima : optima loaded ≡ optima (stated_grid order)
  loaded_optima = loaded_alike.optima

  pub loaded_perfect : (p : List ℕ) → IsPerfectIn loaded p ↔ IsPerfectIn (stated_grid order) p
  loaded_perfect = loaded_alike.perfect

-- ---- Totals

rail_back : (z : ℤ) → unsigned_abs (rail_of z) ≤ 64000000000 → rail_of z ≡ z
rail_back (pos k) h = ap pos (omega arith)
rail_back (negsuc k) h = ap negsuc (omega arith)

module _ (g : Grid) (s : IsSane g) (p : List ℕ) (h : IsPerfectIn g p) where
  -- a plain value that means the total of a perfect pairing is that number
  pub total_means : (z : ℤ) → rail_of z ∷ [] ≡ total g p → z ∷ [] ≡ total g p
  total_means z e =
      let near : AreWithin (g.size * COST_LIMIT) (rail_of z ∷ []) =
      subst (AreWithin (g.size * COST_LIMIT)) (sym e) (total-within g s p h g.size (omega arith)) in
      ap (λ x. x ∷ []) (sym (rail_back z (omega (arith, s.few, near.0)))) ∙ e
