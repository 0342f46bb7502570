-- All blocks were gone over.
-- Idea: the counter has come to the end, where the invariant is what is ensured.
use Rattle.std.proofs.Common.{◌≡◌, ◌++◌, string_bytes, ap, ◌∙◌, arith}
use Rattle.refusal_words.specs.Lines.{up_to}
use Rattle.refusal_words.specs.Refusing.{block_word}
use Rattle.refusal_words.proofs.refusal_lines.push_blocks.Goals as goal

pub returns : goal.returns
returns c = let gone : c.loop-block.block-counter ≡ 64 = omega arith in
    c.loop-block.invariant
    ∙ ap (λ k. string_bytes c.args.text.now ++ up_to k (block_word c.args.crowd)) gone
