-- Two words are taken one after the other.
use Rattle.std.proofs.Common.{[], ◌∷◌, pos}
use Rattle.console_words.specs.Forms.{a_block}
use Rattle.console_words.specs.Words.{words_left}
use Rattle.console_words.proofs.Places.{takes_more}
use Rattle.console_words.proofs.request.typed_pair.Goals as goal

pub returns-clause-told : goal.returns-clause-told
returns-clause-told c = takes_more (a_block ∷ []) (a_block ∷ []) (words_left c.args.words.now)
    (words_left c.next_block.new.self) (words_left c.next_block-2.new.self)
    (pos c.in_ok-left.left ∷ []) (pos c.in_ok-right.right ∷ []) c.in_ok-left.ensures.told
    c.in_ok-right.ensures.told
