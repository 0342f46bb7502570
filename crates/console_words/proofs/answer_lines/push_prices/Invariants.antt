-- The text has the prices up to here.
use Rattle.std.proofs.Common.{◌≡◌, ◌++◌, string_bytes, take, codes}
use Rattle.std.specs.List.{flat_map}
use Rattle.console_words.proofs.answer_lines.push_prices.Given as goal

abbrev pub invariant-loop-price : goal.invariant-loop-price
invariant-loop-price g l = string_bytes l.text
    ≡ string_bytes l.initial.text
    ++ flat_map (λ price. codes " " ++ g.K.TypedCost.written price) (take l.price-index l.prices)
