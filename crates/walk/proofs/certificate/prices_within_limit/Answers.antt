-- The first price beyond the limit decides.
use Rattle.std.proofs.Common.{sym, ◌∙◌}
use Rattle.std.proofs.lemmas.Bool.{false≢true}
use Rattle.cost.specs.declared.TheConstants.{PRICE_LIMIT}
use Rattle.walk.proofs.Judging.{bounded_more, not_bounded}
use Rattle.walk.proofs.certificate.prices_within_limit.Goals as goal

pub returns-then-not-within : goal.returns-then-not-within
returns-then-not-within g c = (
  λ e. absurd (false≢true e),
  λ h. absurd (not_bounded g.K.Cost PRICE_LIMIT c.args.prices.now c.loop-price.price-index
      c.price-item.result c.loop-price-test.true c.price-item.is
      (sym c.within.ensures ∙ c.if-not-within.true) h),
)

pub loop-price-preserved : goal.loop-price-preserved
loop-price-preserved g c =
    bounded_more g.K.Cost PRICE_LIMIT c.args.prices.now c.loop-price.price-index
    c.price-item.result c.loop-price-test.true c.price-item.is
    (sym c.within.ensures ∙ c.if-not-within.false) c.loop-price.invariant
