-- Two numbers are taken one after the other.
use Rattle.std.proofs.Common.{rules, [], ◌∷◌}
use Rattle.console_words.specs.Forms.{a_number}
use Rattle.console_words.specs.Words.{words_left}
use Rattle.console_words.proofs.Places.{takes_more}
use Rattle.console_words.proofs.typed_cost.TwoStepPlainPlainTypedCost.take_from.Goals as goal

pub returns-clause-told : goal.returns-clause-told
returns-clause-told c =
    let first = c.in_ok-next_number.field-0 in
    let second = c.in_ok-next_number-2.field-0 in
    let both = takes_more (a_number ∷ []) (a_number ∷ []) (words_left c.args.words.now)
    (words_left c.next_number.new.self) (words_left c.next_number-2.new.self)
    (first ∷ []) (second ∷ []) c.in_ok-next_number.ensures.told
    c.in_ok-next_number-2.ensures.told in
    (both.0, both.1, both.2, search rules)
