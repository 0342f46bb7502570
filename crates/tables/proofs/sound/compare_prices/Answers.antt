-- Two prices within 10^12 add up to less than half of the rail, so their sum is near and any cost
-- may be compared with it. Where the cost comes before the sum, the sum comes after it.
use Rattle.std.proofs.Common.{◌≡◌, ◌+◌, Ordering, Less, Equal, Greater, List, ℤ, sym, refl}
use Rattle.std.proofs.Common.{ap, ◌∙◌, subst, arith}
use Rattle.std.specs.Ordering.{ordering_reverse, is_lt, is_eq, is_gt}
use Rattle.cost.specs.declared.TheConstants.{HALF_RAIL, PRICE_LIMIT}
use Rattle.cost.specs.Columns.{AreWithin, plus, sums, lex}
use Rattle.cost.proofs.Exact.{exact, plus-within, within_more}
use Rattle.cost.proofs.Order.{lex_mirror}
use Rattle.tables.proofs.sound.compare_prices.Goals as goal

-- the sum of two prices is exact, and near
module _ (left right sum : List ℤ) (l : AreWithin PRICE_LIMIT left) (r : AreWithin PRICE_LIMIT
    right)
    (is : sum ≡ sums left right) where
  sum_exact : sum ≡ plus left right
  sum_exact = is ∙ (exact PRICE_LIMIT PRICE_LIMIT left right (omega arith) l r).0

  sum_near : AreWithin HALF_RAIL sum
  sum_near = subst (AreWithin HALF_RAIL) (sym sum_exact)
      (within_more (PRICE_LIMIT + PRICE_LIMIT) HALF_RAIL (plus left right) (omega arith)
      (plus-within PRICE_LIMIT PRICE_LIMIT left right l r))

less_reversed : (o : Ordering) → is_lt (ordering_reverse o) ≡ is_gt o
less_reversed Less = refl
less_reversed Equal = refl
less_reversed Greater = refl

equal_reversed : (o : Ordering) → is_eq (ordering_reverse o) ≡ is_eq o
equal_reversed Less = refl
equal_reversed Equal = refl
equal_reversed Greater = refl

pub is_less_near-requires : goal.is_less_near-requires
is_less_near-requires g c = sum_near (g.K.Cost.meaning c.args.left) (g.K.Cost.meaning c.args.right)
    (g.K.Cost.meaning c.add_near-sum.result) c.requires.left_near c.requires.right_near
    c.add_near-sum.ensures

pub is_equal_near-requires : goal.is_equal_near-requires
is_equal_near-requires g c = sum_near (g.K.Cost.meaning c.args.left)
    (g.K.Cost.meaning c.args.right) (g.K.Cost.meaning c.add_near-sum.result)
    c.requires.left_near c.requires.right_near c.add_near-sum.ensures

pub returns : goal.returns
returns g c =
    let meaning = g.K.Cost.meaning in
    let wide = g.met.K.Cost.laws.column_count in
    let cost = meaning c.args.cost in
    let sum = meaning c.add_near-sum.result in
    let is = sum_exact (meaning c.args.left) (meaning c.args.right) sum c.requires.left_near
    c.requires.right_near c.add_near-sum.ensures in
    let turned = lex_mirror sum cost (wide c.add_near-sum.result ∙ sym (wide c.args.cost)) in
    record {
      beyond = c.is_less_near.ensures ∙ ap is_lt turned ∙ less_reversed (lex sum cost)
          ∙ ap (λ z. is_gt (lex z cost)) is;
      tight = c.is_equal_near.ensures ∙ ap is_eq turned ∙ equal_reversed (lex sum cost)
          ∙ ap (λ z. is_eq (lex z cost)) is;
    }
