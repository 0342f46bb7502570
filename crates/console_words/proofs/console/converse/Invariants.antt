-- The lines taken so far have led here.
use Rattle.std.proofs.Common.{◌≡◌, ◌+◌}
use Rattle.std.specs.Io.Iter.{split_byte, split_known_bytes}
use Rattle.std.specs.Iterator.Adapters.{enumerate_source, enumerate_count}
use Rattle.console_words.proofs.Talking.{HasLed}
use Rattle.console_words.proofs.console.converse.Given as goal

abbrev pub invariant-loop-k : goal.invariant-loop-k
invariant-loop-k g l = (split_byte (enumerate_source l.k-iterator) ≡ 10)
    × HasLed (g.R.Read.remaining l.fn.input)
    (split_known_bytes g.R.Read.remaining (enumerate_source l.k-iterator))
    (g.W.Write.contents l.fn.output) (g.W.Write.contents l.output)
    (enumerate_count l.k-iterator + 1) l.console
