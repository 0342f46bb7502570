-- What a quote reads and works out is the pair's cost and its slack.
-- Idea: costs are within 10^9 and prices within 10^12, so no sum or difference is stopped.
use Rattle.std.proofs.Common.{◌≡◌, ℕ, ◌<◌, true, List, [], length, cond, get_or, Some, None}
use Rattle.std.proofs.Common.{sym, ap, ◌∙◌, subst, arith}
use Rattle.std.proofs.lemmas.List.{get_or-map, get_or_default}
use Rattle.cost.specs.declared.Cost.{Ghosts}
use Rattle.cost.specs.declared.TheConstants.{COST_LIMIT, PRICE_LIMIT}
use Rattle.cost.specs.Columns.{AreWithin, sums, differences, plus, minus}
use Rattle.cost.proofs.Exact.{exact, plus-within}
use Rattle.pairing.specs.Places.{place_of, places_of}
use Rattle.tables.specs.PairTables.{byte_of, says_stands}
use Rattle.tables.specs.Said.{columns_at}
use Rattle.tables.specs.Lent.{Lent, left_price, right_price}
use Rattle.tables.specs.Together.{HoldTogether}
use Rattle.tables.proofs.Cells.{place_below}
use Rattle.sheet.specs.Pairs.{AreBlocks}
use Rattle.sheet.specs.Walking.{IsQuote}

-- the columns of a value that was read
pub read_columns : {K : Type 0} (kind : Ghosts K) (xs : List K) (k : ℕ) (x : K)
    → k < length xs → x ≡ get_or xs k x → columns_at kind xs k ≡ kind.meaning x
read_columns kind xs k x h e = get_or-map kind.meaning xs k x [] h ∙ sym (ap kind.meaning e)

module _ {K : Type 0} (kind : Ghosts K) (t : Lent K) (together : HoldTogether kind t) (l r : ℕ)
    (are : AreBlocks t.size l r)
    (stands : says_stands (byte_of t.size t.standing l r) ≡ true) where
  at_place : ℕ
  at_place = place_of t.size l r

  inside : at_place < places_of t.size
  unfolding at_place
  inside = place_below t.size l r are.left_below are.right_below

  pub quoted : (cost lp rp prices slack : K)
      → cost ≡ get_or t.costs (place_of t.size l r) cost → lp ≡ get_or t.left l lp
      → rp ≡ get_or t.right r rp
      → kind.meaning prices ≡ sums (kind.meaning lp) (kind.meaning rp)
      → kind.meaning slack ≡ differences (kind.meaning cost) (kind.meaning prices)
      → IsQuote kind t l r (cost, slack)
  unfolding at_place
  quoted cost lp rp prices slack ec el er ep ex =
      let m = kind.meaning in
      let in_costs : place_of t.size l r < length t.costs =
      omega (arith, inside, together.pair_tables.costs_long) in
      let left_is : left_price kind t l ≡ m lp = read_columns kind t.left l lp
      (omega (arith, together.left_prices.long, are.left_below)) el in
      let right_is : right_price kind t r ≡ m rp = read_columns kind t.right r rp
      (omega (arith, together.right_prices.long, are.right_below)) er in
      let cost_is : columns_at kind t.costs (place_of t.size l r) ≡ m cost =
      read_columns kind t.costs (place_of t.size l r) cost in_costs ec in
      let wl : AreWithin PRICE_LIMIT (m lp) = subst (AreWithin PRICE_LIMIT) left_is
      (together.left_prices.near l are.left_below) in
      let wr : AreWithin PRICE_LIMIT (m rp) = subst (AreWithin PRICE_LIMIT) right_is
      (together.right_prices.near r are.right_below) in
      let wc : AreWithin COST_LIMIT (m cost) = subst (AreWithin COST_LIMIT) cost_is
      (together.pair_tables.in_order.small (place_of t.size l r) inside stands) in
      let sum_is : sums (m lp) (m rp) ≡ plus (m lp) (m rp) =
      (exact PRICE_LIMIT PRICE_LIMIT (m lp) (m rp) (omega arith) wl wr).0 in
      let ws : AreWithin 2000000000000 (plus (m lp) (m rp)) =
      plus-within PRICE_LIMIT PRICE_LIMIT (m lp) (m rp) wl wr in
      let gone : differences (m cost) (plus (m lp) (m rp)) ≡ minus (m cost) (plus (m lp) (m rp)) =
      (exact COST_LIMIT 2000000000000 (m cost) (plus (m lp) (m rp)) (omega arith) wc ws).1 in
      record {
        cost = ap (λ b. cond b (Some (get_or t.costs (place_of t.size l r) kind.zero)) None) stands
            ∙ ap Some (get_or_default t.costs (place_of t.size l r) kind.zero cost in_costs)
            ∙ ap Some (sym ec);
        slack =
            ex ∙ ap (differences (m cost)) (ep ∙ sum_is) ∙ gone
            ∙ ap (λ p. minus (m cost) (plus p (m rp))) (sym left_is)
            ∙ ap (λ p. minus (m cost) (plus (left_price kind t l) p)) (sym right_is);
      }
