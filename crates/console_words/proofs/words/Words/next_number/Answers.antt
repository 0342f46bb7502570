-- A word that std takes for a signed number of 64 bits fills a place for one.
use Rattle.std.proofs.Common.{rules, [], ◌∷◌}
use Rattle.console_words.proofs.words.Words.next_number.Goals as goal

pub returns-in-Ok-clause-told : goal.returns-in-Ok-clause-told
returns-in-Ok-clause-told c = let told = c.in-Ok.ensures.value.0 in
    (c.in_ok-word.word.now ∷ [], c.in_ok-word.ensures.word, (told.0, tt), search rules)
