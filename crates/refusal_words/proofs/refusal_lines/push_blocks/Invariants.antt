-- The text has the blocks up to here.
use Rattle.std.proofs.Common.{◌≡◌, ◌++◌, string_bytes}
use Rattle.refusal_words.specs.Lines.{up_to}
use Rattle.refusal_words.specs.Refusing.{block_word}
use Rattle.refusal_words.proofs.refusal_lines.push_blocks.Given as goal

abbrev pub invariant-loop-block : goal.invariant-loop-block
invariant-loop-block l = string_bytes l.text ≡ string_bytes l.initial.text
    ++ up_to l.block-counter (block_word l.crowd)
