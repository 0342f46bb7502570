-- A line that enters a pair has the words of the pair and then those of its cost.
use Rattle.std.proofs.Common.{[], ◌∷◌, pos}
use Rattle.std.specs.Prelude.{replicate}
use Rattle.console_words.specs.Forms.{a_block, a_number}
use Rattle.console_words.specs.Words.{words_left}
use Rattle.console_words.proofs.Places.{takes_more}
use Rattle.console_words.proofs.request.typed_enter.Goals as goal

pub returns-clause-told : goal.returns-clause-told
returns-clause-told g c = takes_more (a_block ∷ (a_block ∷ []))
    (replicate g.K.Cost.columns a_number) (words_left c.args.words.now)
    (words_left c.typed_pair.new.words) (words_left c.take_from.new.words)
    (pos c.in_ok-left.left ∷ (pos c.in_ok-left.right ∷ []))
    (g.K.TypedCost.numbers c.in_ok-cost.cost) c.in_ok-left.ensures.told
    c.in_ok-cost.ensures.told
