-- Tests that compute whether a small grid is sane, prices are its greatest, and which pairs are
-- marked, for the worked examples.
-- Idea: everything that is said of a grid's blocks is said of finitely many, so a test can go
-- through them; where it passes, the fact holds.
use Rattle.std.proofs.Common.{◌≡◌, ℕ, ◌<◌, Bool, true, not, ◌&&◌, ◌||◌, eqb, ltb, leb, List}
use Rattle.std.proofs.Common.{length, ℤ, Decides, subst}
use Rattle.std.proofs.Common.{inl, inr, arith}
use Rattle.std.specs.Ordering.{is_eq}
use Rattle.std.specs.Cmp.{Equal-is}
use Rattle.std.proofs.lemmas.Bool.{and_parts, or_cases, eqb-true, leb-true, ltb-true, both_ways}
use Rattle.std.proofs.lemmas.Bool.{not-true}
use Rattle.std.proofs.lemmas.Bool.Decides.{nat_tests}
use Rattle.blockset.specs.declared.TheConstants.{MOST_BLOCKS}
use Rattle.cost.specs.declared.TheConstants.{RAIL, COST_LIMIT}
use Rattle.cost.specs.Columns.{within, zeros, plus, lex}
use Rattle.cost.proofs.Exact.{within_tells}
use Rattle.cost.proofs.Order.{lex_same}
use Rattle.pairing.specs.Grid.{Grid, right_count, IsSane, at, IsPerfectIn}
use Rattle.pairing.specs.Prices.{IsCostValue, AreValid, AreGreatest}
use Rattle.pairing.specs.Optima.{is_upto, IsInOptimum, is_in_optimum}
use Rattle.pairing.proofs.Listing.{upto_tells, marks_are}
use Rattle.pairing.proofs.Members.{some_below, all_below, some_tells, all_tells}
use Rattle.pairing.proofs.Attained.{Attained, attained_greatest}

-- a test that passes for every number below n passes for each
pub passes : (n : ℕ) (t : ℕ → Bool) → all_below n t ≡ true → (k : ℕ) → k < n → t k ≡ true
passes n t e = (all_tells n t (λ k. t k ≡ true) (λ k. (λ x. x, λ x. x))).0 e

-- b, where a
abbrev pub implies : Bool → Bool → Bool
implies a b = not a || b

implied : (a b : Bool) → implies a b ≡ true → a ≡ true → b ≡ true
implied a b e t = elim (or_cases (not a) b e)
    [ inl n ↦ absurd (both_ways a (not-true a n) t) | inr h ↦ h ]

-- ---- equal columns
abbrev level : List ℤ → List ℤ → Bool
level xs ys = eqb (length xs) (length ys) && is_eq (lex xs ys)

level_same : (xs ys : List ℤ) → level xs ys ≡ true → xs ≡ ys
level_same xs ys e =
    let b = and_parts (eqb (length xs) (length ys)) (is_eq (lex xs ys)) e in
    lex_same xs ys (eqb-true (length xs) (length ys) b.0) ((Equal-is (lex xs ys)).0 b.1)

-- ---- the standing pairs
abbrev pub at_standing : Grid → (ℕ → ℕ → Bool) → Bool
at_standing g t = all_below g.size
    (λ l. all_below (right_count g) (λ r. implies (g.stands l r) (t l r)))

pub standing_pass : (g : Grid) (t : ℕ → ℕ → Bool) → at_standing g t ≡ true → (l r : ℕ) → l < g.size
    → r < right_count g → g.stands l r ≡ true → t l r ≡ true
standing_pass g t e l r i j =
    let row = passes g.size
    (λ l. all_below (right_count g) (λ r. implies (g.stands l r) (t l r))) e l i in
    implied (g.stands l r) (t l r)
    (passes (right_count g) (λ r. implies (g.stands l r) (t l r)) row r j)

-- ---- a sane grid
abbrev sane_pair : Grid → ℕ → ℕ → Bool
sane_pair g l r = eqb (length (g.cost l r)) g.columns && within COST_LIMIT (g.cost l r)

abbrev pub sane : Grid → Bool
sane g = leb g.size MOST_BLOCKS && at_standing g (sane_pair g)

pub sane_is : (g : Grid) → sane g ≡ true → IsSane g
sane_is g e =
    let b = and_parts (leb g.size MOST_BLOCKS) (at_standing g (sane_pair g)) e in
    let each = λ (l r : ℕ) (i : l < g.size) (j : r < right_count g) (t : g.stands l r ≡ true).
    and_parts (eqb (length (g.cost l r)) g.columns) (within COST_LIMIT (g.cost l r))
    (standing_pass g (sane_pair g) b.1 l r i j t) in
    record {
      few = leb-true g.size MOST_BLOCKS b.0;
      sized = λ l r i j t. eqb-true (length (g.cost l r)) g.columns (each l r i j t).0;
      small = λ l r i j t. (within_tells COST_LIMIT (g.cost l r)).0 (each l r i j t).1;
    }

-- ---- the greatest prices
module _ (g : Grid) (left right : ℕ → List ℤ) (p : List ℕ) (rank : List ℕ) where
  abbrev value : List ℤ → Bool
  value xs = eqb (length xs) g.columns && within RAIL xs

  value_is : (xs : List ℤ) → value xs ≡ true → IsCostValue g.columns xs
  value_is xs e =
      let b = and_parts (eqb (length xs) g.columns) (within RAIL xs) e in
      record {
        sized = eqb-true (length xs) g.columns b.0;
        on_rail = (within_tells RAIL xs).0 b.1;
      }

  abbrev under : ℕ → ℕ → Bool
  under l r = is_upto (plus (left l) (right r)) (g.cost l r)

  abbrev tight : ℕ → Bool
  tight l = level (plus (left l) (right (at p l))) (g.cost l (at p l))

  abbrev low : ℕ → Bool
  low r = is_upto (right r) (zeros g.columns)

  abbrev tied : ℕ → ℕ → Bool
  tied r l = g.stands l r && (level (plus (left l) (right r)) (g.cost l r) && ltb (at rank (at p l))
      (at rank r))

  abbrev attained : ℕ → Bool
  attained r = level (right r) (zeros g.columns) || some_below g.size (tied r)

  abbrev pub greatest : Bool
  greatest =
      all_below g.size (λ l. value (left l)) &&
      (all_below (right_count g) (λ r. value (right r)) &&
      (at_standing g under &&
      (all_below g.size tight &&
      (all_below (right_count g) low && all_below (right_count g) attained))))

  attained_is : (r : ℕ) → attained r ≡ true → Attained g left right p (at rank) r
  attained_is r e =
      elim (or_cases (level (right r) (zeros g.columns)) (some_below g.size (tied r)) e) [
        | inl t ↦ inl (level_same (right r) (zeros g.columns) t)
        | inr t ↦
            let w = (some_tells g.size (tied r)).0 t in
            let a = and_parts (g.stands w.0 r) _ w.2 in
            let b = and_parts (level (plus (left w.0) (right r)) (g.cost w.0 r))
            (ltb (at rank (at p w.0)) (at rank r)) a.1 in
            inr (
              w.0,
              w.1,
              a.0,
              level_same (plus (left w.0) (right r)) (g.cost w.0 r) b.0,
              ltb-true (at rank (at p w.0)) (at rank r) b.1,
            )
      ]

  pub greatest_is : IsSane g → IsPerfectIn g p → greatest ≡ true → AreGreatest g left right p
  greatest_is s h e =
      let lefts = and_parts (all_below g.size (λ l. value (left l))) _ e in
      let rights = and_parts (all_below (right_count g) (λ r. value (right r))) _ lefts.1 in
      let unders = and_parts (at_standing g under) _ rights.1 in
      let tights = and_parts (all_below g.size tight) _ unders.1 in
      let lows = and_parts (all_below (right_count g) low) (all_below (right_count g) attained)
      tights.1 in
      let v : AreValid g left right p = record {
        lefts = λ l i. value_is (left l) (passes g.size (λ l. value (left l)) lefts.0 l i);
        rights = λ r j. value_is (right r)
            (passes (right_count g) (λ r. value (right r)) rights.0 r j);
        under = λ l r i j t. (upto_tells (plus (left l) (right r)) (g.cost l r)).0
            (standing_pass g under unders.0 l r i j t);
        equal = λ l i. level_same (plus (left l) (right (at p l))) (g.cost l (at p l))
            (passes g.size tight tights.0 l i);
      } in
      attained_greatest g s left right p h v (at rank)
      (λ r j. attained_is r (passes (right_count g) attained lows.1 r j))
      (λ r j. (upto_tells (right r) (zeros g.columns)).0 (passes (right_count g) low lows.0 r j))

-- ---- the marked pairs

-- two tests answer the same
abbrev alike : Bool → Bool → Bool
alike a b = implies a b && implies b a

alike_is : (a b : Bool) → alike a b ≡ true → a ≡ b
alike_is a b e = grind (arith, nat_tests)

-- at each standing pair the test t answers whether the pair is marked
abbrev marks_pair : Grid → (ℕ → ℕ → Bool) → ℕ → ℕ → Bool
marks_pair g t l r = alike (is_in_optimum g l r) (t l r)

abbrev pub marks : Grid → (ℕ → ℕ → Bool) → Bool
marks g t = at_standing g (marks_pair g t)

pub marks_tell : (g : Grid) (t : ℕ → ℕ → Bool) → marks g t ≡ true → (l r : ℕ) → l < g.size
    → r < right_count g → g.stands l r ≡ true → Decides (t l r) (IsInOptimum g l r)
marks_tell g t e l r i j s =
    subst (λ b. Decides b (IsInOptimum g l r))
    (alike_is (is_in_optimum g l r) (t l r) (standing_pass g (marks_pair g t) e l r i j s))
    (marks_are g l r)
