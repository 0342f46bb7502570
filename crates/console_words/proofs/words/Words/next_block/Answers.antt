-- A word that std takes for a number of 16 bits fills a place for a block.
use Rattle.console_words.specs.Words.{words_left}
use Rattle.console_words.proofs.Places.{takes_block}
use Rattle.console_words.proofs.words.Words.next_block.Goals as goal

pub returns-in-Ok-clause-told : goal.returns-in-Ok-clause-told
returns-in-Ok-clause-told c = let told = c.in-Ok.ensures.value.0 in
    takes_block (words_left c.args.self.now) (words_left c.next_word.new.self) c.in_ok-word.word.now
    c.in-Ok.block c.in_ok-word.ensures.word told.0 told.1
