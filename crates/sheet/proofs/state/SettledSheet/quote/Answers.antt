-- What is read and worked out is the pair's cost and its slack.
use Rattle.std.proofs.Common.{◌≡◌, ℕ, true, get_or, sym, ap, ◌∙◌, subst}
use Rattle.pairing.specs.Places.{place_of}
use Rattle.tables.specs.PairTables.{says_stands, byte_of}
use Rattle.tables.specs.Lent.{lent}
use Rattle.sheet.specs.Pairs.{AreBlocks}
use Rattle.sheet.specs.Walking.{quote_needs, total_needs, IsQuote}
use Rattle.sheet.specs.Needs.{AreMet}
use Rattle.sheet.proofs.Quoting.{quoted}
use Rattle.sheet.proofs.state.SettledSheet.quote.Goals as goal

pub returns : goal.returns
returns g c =
    let n = c.size-n.result in
    let l = c.args.left_block in
    let r = c.args.right_block in
    let t = λ (n : ℕ). lent n c.args.costs.now c.args.standing.now c.args.partners.now
    c.args.left.now c.args.right.now in
    let cost = c.index-costs-at.result in
    let met = subst (λ u. AreMet (total_needs g.K.Cost u))
    (c.lend.ensures ∙ ap t (sym c.size-n.ensures.value)) c.in_ok-check.ensures.0 in
    let are : AreBlocks n l r = record {
      left_below = c.if-left_block-n.false;
      right_below = c.if-right_block-n.false;
    } in
    let stands : says_stands (byte_of n c.args.standing.now l r) ≡ true =
    ap (λ p. says_stands (get_or c.args.standing.now p 0)) (sym c.place-at.ensures)
    ∙ sym c.if-not-stands.ensures in
    let read : cost ≡ get_or c.args.costs.now (place_of n l r) cost =
    c.index-costs-at.is ∙ ap (λ p. get_or c.args.costs.now p cost) c.place-at.ensures in
    subst (λ n. AreMet (quote_needs g.K.Cost (t n) l r)
    × IsQuote g.K.Cost (t n) l r (cost, c.take_away.result)) c.size-n.ensures.value (
      (met.0, (met.1.0, (are, (stands, tt)))),
      quoted g.K.Cost (t n) met.1.0 l r are stands cost c.index-left-left_block.result
          c.index-right-right_block.result c.add-prices.result c.take_away.result read
          c.index-left-left_block.is c.index-right-right_block.is c.add-prices.ensures
          c.take_away.ensures,
    )
