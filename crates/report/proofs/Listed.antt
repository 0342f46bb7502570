-- A walk through a list of pairings writes its listing, and the listing of a loaded sheet is that
-- of the order.
-- Idea: no two pairings of the list are equal, so a pairing tells its place in it, and a step from
-- place k leads to place k + 1 or says that k was the last. Each step adds the line of one more.
use Rattle.std.proofs.Common.{◌≡◌, ℕ, ◌+◌, ◌<◌, ◌≤◌, ◌≢◌, List, [], ◌∷◌, ◌++◌}
use Rattle.std.proofs.Common.{length, take, codes, sym, refl, ap, ◌∙◌, subst, ⊎_elim}
use Rattle.std.proofs.Common.{append_assoc, arith}
use Rattle.std.specs.List.{AllPairs}
use Rattle.std.proofs.lemmas.List.{take_more, flat_map_more}
use Rattle.std.proofs.lemmas.Bool.{cases_lt, cond-true, cond-false, lt-ltb, le-ltb}
use Rattle.pairing.specs.Grid.{Grid, total}
use Rattle.pairing.specs.Optima.{optima}
use Rattle.pairing.specs.Theorems.{AreAlikeInside}
use Rattle.pairing.proofs.Listing.{optima_are}
use Rattle.matching.specs.Answers.{IsNth, Follows}
use Rattle.matching.proofs.Nth.{nth_optimum}
use Rattle.matching.specs.declared.stepping.Step.TheVariants.{Next, End}
use Rattle.sheet.specs.Size.{size_of}
use Rattle.orderfile.specs.Format.{StatedOrder}
use Rattle.orderfile.specs.Loading.{plain_grid, stated_grid}
use Rattle.orderfile.proofs.LoadedGrid.{loaded_alike}
use Rattle.refusal_words.specs.Lines.{pairing_line}
use Rattle.report.specs.Afresh.{IsLoaded}
use Rattle.report.specs.Listing.{pairing_lines, total_line}
use Rattle.report.specs.Listing.{last_line, listed, listing_over, listing_text}
use Rattle.report.specs.declared.fresh_tables.LoadedSheet.{LoadedSheet}

-- ---- Places

module _ (ps : List (List ℕ)) (distinct : AllPairs ◌≢◌ ps) where
  -- a pairing stands at one place
  pub one_place : (i j : ℕ) (p : List ℕ) → IsNth ps i p → IsNth ps j p → i ≡ j
  one_place i j p a b = ⊎_elim
      (λ less. absurd (distinct i j [] less b.0 (a.1 ∙ sym b.1)))
      (λ least. ⊎_elim
      (λ less. absurd (distinct j i [] less a.0 (b.1 ∙ sym a.1)))
      (λ least'. omega arith)
      (cases_lt j i))
      (cases_lt i j)

  pub place_next : (k : ℕ) (before after : List ℕ) → IsNth ps k before
      → Follows ps before after Next → IsNth ps (k + 1) after
  place_next k before after here f = subst (λ i. IsNth ps (i + 1) after)
      (one_place f.0 k before f.1 here) f.2

  pub place_last : (k : ℕ) (before after : List ℕ) → IsNth ps k before
      → Follows ps before after End → k + 1 ≡ length ps
  place_last k before after here f = ap (λ i. i + 1) (sym (one_place f.0 k before f.1 here)) ∙ f.2

-- ---- Lines

module _ (ps : List (List ℕ)) (start text text' : List ℕ) where
  -- the lines of the first k pairings, and then that of the one at place k
  pub line_more : (k : ℕ) (p : List ℕ) → IsNth ps k p
      → text ≡ start ++ pairing_lines (take k ps) → text' ≡ text ++ pairing_line p
      → text' ≡ start ++ pairing_lines (take (k + 1) ps)
  line_more k p here e e' =
      e' ∙ ap (λ t. t ++ pairing_line p) e
      ∙ flat_map_more pairing_line start (take k ps) p
      ∙ ap (λ qs. start ++ pairing_lines qs)
      (ap (λ q. take k ps ++ q ∷ []) (sym here.1) ∙ sym (take_more ps k [] here.0))

  -- the lines of the pairings that a listing has, and then the last line
  pub listed_whole : (last : List ℕ) → last_line (length ps) ≡ last
      → text ≡ start ++ pairing_lines (take 1000 ps) → text' ≡ text ++ last
      → text' ≡ start ++ listed ps
  listed_whole last is e e' =
      e' ∙ ap (λ t. t ++ last) e ∙ append_assoc start (pairing_lines (take 1000 ps)) last
      ∙ ap (λ t. start ++ (pairing_lines (take 1000 ps) ++ t)) (sym is)

-- the last line tells whether others remain
pub last_is_end : (n : ℕ) → n ≤ 1000 → last_line n ≡ codes "end\n"
last_is_end n few = cond-false _ _ _ (le-ltb 1000 n few)

pub last_is_more : (n : ℕ) → 1000 < n → last_line n ≡ codes "more\n"
last_is_more n many = cond-true _ _ _ (lt-ltb 1000 n many)

-- ---- Listings

module _ (g : Grid) where
  pub over_first : (ps : List (List ℕ)) (p text : List ℕ) → IsNth ps 0 p
      → text ≡ total_line (total g p) ++ listed ps → text ≡ listing_over g ps
  over_first [] p text first e = absurd (omega (arith, first.0))
  over_first (q ∷ qs) p text first e =
      e ∙ ap (λ x. total_line (total g x) ++ listed (q ∷ qs)) (sym first.1)

  pub optima_distinct : AllPairs ◌≢◌ (optima g)
  optima_distinct = (optima_are g).list.distinct

-- grids of which the same is told have the same listing
module _ (g h : Grid) where
  over_same : (ps : List (List ℕ)) → ((p : List ℕ) → IsNth ps 0 p → total g p ≡ total h p)
      → listing_over g ps ≡ listing_over h ps
  over_same [] same = refl
  over_same (p ∷ ps) same =
      ap (λ t. total_line t ++ listed (p ∷ ps)) (same p (omega arith, refl))

  pub listing_same : AreAlikeInside g h → listing_text g ≡ listing_text h
  listing_same alike =
      over_same (optima g) (λ p i. alike.totals p (nth_optimum g 0 p i).perfect)
      ∙ ap (listing_over h) alike.optima

-- the listing of a loaded sheet is that of the grid that the order states
pub listing_loaded : {S : StatedOrder → Type 0} {sheet : LoadedSheet} (loaded : IsLoaded S sheet)
    → listing_text
    (plain_grid (size_of sheet.sheet) sheet.costs.items sheet.standing.items)
    ≡ listing_text (stated_grid loaded.order)
listing_loaded {sheet = sheet} loaded =
    let costs = sheet.costs.items in
    let standing = sheet.standing.items in
    let order = loaded.order in
    ap (λ k. listing_text (plain_grid k costs standing)) loaded.size
    ∙ listing_same (plain_grid order.size costs standing) (stated_grid order)
    (loaded_alike order _ costs standing loaded.accepted)
