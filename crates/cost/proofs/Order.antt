-- The order of columns is total, passes along chains, and is kept when the same is added on both
-- sides.
-- Idea: on lists of one length it is std's order of lists, which is total. What std does not say is
-- shown column by column: at the first one there are three cases, less, the same and greater. The
-- first and the last decide at once; in the middle case the columns are the same and the rest of
-- the lists decides.
use Rattle.std.proofs.Common.{◌≡◌, Bool, true, false, cond, List, [], ◌∷◌, length, ℤ, ◌+ℤ◌, ◌<ℤ◌}
use Rattle.std.proofs.Common.{Ordering, Less, Equal, Greater, sym, refl, ap, ◌∙◌, arith}
use lib.Signed.{lt_z}
use Rattle.std.proofs.lemmas.Int.{ints}
use Rattle.std.proofs.lemmas.Bool.{cond_both, cond-true, cond-false}
use Rattle.std.proofs.lemmas.Cmp.{int_cmp_total, lists_total, tied_itself}
use Rattle.std.specs.Cmp.{IsTotalOrder}
use Rattle.std.specs.Cmp.Lexicographic.{slice_cmp}
use Rattle.std.specs.Ordering.{ordering_reverse, ordering_then, int_cmp}
use Rattle.cost.specs.Columns.{lex}
use Rattle.cost.specs.Laws.{OrderMirrors, EqualIsSame, OrderChains, OrderShifts}

-- what first columns x and y make of the order of the rest
abbrev pub headed : ℤ → ℤ → Ordering → Ordering
headed x y rest = cond (lt_z x y) Less (cond (lt_z y x) Greater rest)

pub data Head (x y : ℤ) (rest : Ordering) (o : Ordering) : Type 0 where
  below : x <ℤ y → o ≡ Less → Head x y rest o
  same : x ≡ y → o ≡ rest → Head x y rest o
  above : y <ℤ x → o ≡ Greater → Head x y rest o

pub head : (x y : ℤ) (rest : Ordering) → Head x y rest (headed x y rest)
head x y rest =
    cond_both (lt_z x y) Less (cond (lt_z y x) Greater rest) (Head x y rest)
    (λ t. below (omega (arith, ints)) refl)
    (λ f. cond_both (lt_z y x) Greater rest (Head x y rest) (λ t. above (omega (arith, ints)) refl)
    (λ g. same (omega (arith, ints)) refl))

head_below : (x y : ℤ) (rest : Ordering) → x <ℤ y → headed x y rest ≡ Less
head_below x y rest l = let t : lt_z x y ≡ true = grind (arith, ints) in cond-true (lt_z x y) _ _ t

head_above : (x y : ℤ) (rest : Ordering) → y <ℤ x → headed x y rest ≡ Greater
head_above x y rest l =
    let f : lt_z x y ≡ false = grind (arith, ints) in
    let t : lt_z y x ≡ true = grind (arith, ints) in
    cond-false (lt_z x y) _ _ f ∙ cond-true (lt_z y x) _ _ t

head_same : (x y : ℤ) (rest : Ordering) → x ≡ y → headed x y rest ≡ rest
head_same x y rest e =
    let f : lt_z x y ≡ false = grind (arith, ints) in
    let g : lt_z y x ≡ false = grind (arith, ints) in
    cond-false (lt_z x y) _ _ f ∙ cond-false (lt_z y x) _ _ g

-- first columns that decide do so whatever is asked behind them
pub headed_then : (x y : ℤ) (o p : Ordering) → headed x y (ordering_then o p)
    ≡ ordering_then (headed x y o) p
headed_then x y o p = by_test (lt_z x y) (lt_z y x)
  where
    by_test : (s t : Bool) → cond s Less (cond t Greater (ordering_then o p))
        ≡ ordering_then (cond s Less (cond t Greater o)) p
    by_test true t = refl
    by_test false true = refl
    by_test false false = refl

-- lists of one length compare as std compares lists
lex_is : (xs ys : List ℤ) → length xs ≡ length ys → lex xs ys ≡ slice_cmp int_cmp xs ys
lex_is [] [] e = refl
lex_is [] (y ∷ ys) e = absurd (omega arith)
lex_is (x ∷ xs) [] e = absurd (omega arith)
lex_is (x ∷ xs) (y ∷ ys) e = headed_then x y Equal (lex xs ys)
    ∙ ap (ordering_then (int_cmp x y)) (lex_is xs ys (omega arith))

lists : IsTotalOrder (slice_cmp int_cmp)
lists = lists_total int_cmp_total

pub lex_mirror : OrderMirrors
lex_mirror xs ys e = lex_is ys xs (sym e) ∙ lists.antisymm ys xs
    ∙ ap ordering_reverse (sym (lex_is xs ys e))

pub lex_refl : (xs : List ℤ) → lex xs xs ≡ Equal
lex_refl xs = lex_is xs xs refl ∙ tied_itself lists xs

pub lex_same : EqualIsSame
lex_same [] [] e h = refl
lex_same [] (y ∷ ys) e h = absurd (omega arith)
lex_same (x ∷ xs) [] e h = absurd (omega arith)
lex_same (x ∷ xs) (y ∷ ys) e h =
    elim (head x y (lex xs ys)) [
      | below l o ↦ cc (sym o ∙ h)
      | same i o ↦ let t : xs ≡ ys = lex_same xs ys (omega arith) (sym o ∙ h) in cc
      | above l o ↦ cc (sym o ∙ h)
    ]

less_chain : (xs ys zs : List ℤ) → length xs ≡ length ys → length ys ≡ length zs → lex xs ys ≡ Less
    → lex ys zs ≡ Less → lex xs zs ≡ Less
less_chain xs ys zs e f h k =
    lex_is xs zs (e ∙ f)
    ∙ lists.trans xs ys zs (sym (lex_is xs ys e) ∙ h) (sym (lex_is ys zs f) ∙ k)

pub lex_chain : OrderChains
lex_chain Less xs ys zs e f h k = less_chain xs ys zs e f h k
lex_chain Equal xs ys zs e f h k = ap (λ t. lex t zs) (lex_same xs ys e h) ∙ k
lex_chain Greater xs ys zs e f h k =
    lex_mirror zs xs (sym (e ∙ f))
    ∙ ap ordering_reverse
    (less_chain zs ys xs (sym f) (sym e) (lex_mirror ys zs f ∙ ap ordering_reverse k)
    (lex_mirror xs ys e ∙ ap ordering_reverse h))

-- the same added to both sides changes no comparison of first columns
pub lex_shift : OrderShifts
lex_shift [] ys zs e f = refl
lex_shift (x ∷ xs) [] zs e f = absurd (omega arith)
lex_shift (x ∷ xs) (y ∷ ys) [] e f = absurd (omega arith)
lex_shift (x ∷ xs) (y ∷ ys) (z ∷ zs) e f =
    elim (head x y (lex xs ys)) [
      | below l o ↦ head_below (x +ℤ z) (y +ℤ z) _ (omega (arith, ints)) ∙ sym o
      | same i o ↦ head_same (x +ℤ z) (y +ℤ z) _ (ap (λ t. t +ℤ z) i)
          ∙ lex_shift xs ys zs (omega arith) (omega arith) ∙ sym o
      | above l o ↦ head_above (x +ℤ z) (y +ℤ z) _ (omega (arith, ints)) ∙ sym o
    ]
