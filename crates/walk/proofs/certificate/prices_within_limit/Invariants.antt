-- The prices so far are within 10^12.
use Rattle.cost.specs.declared.TheConstants.{PRICE_LIMIT}
use Rattle.tables.specs.Said.{AreValuesWithin}
use Rattle.walk.proofs.certificate.prices_within_limit.Given as goal

abbrev pub invariant-loop-price : goal.invariant-loop-price
invariant-loop-price g l = AreValuesWithin g.K.Cost PRICE_LIMIT l.price-index l.prices
