-- Both values are read from their tables, so they are within what their places are within.
use Rattle.std.proofs.Common.{arith}
use Rattle.assign.proofs.Entries.{read_within}
use Rattle.assign.proofs.search.key_of.Goals as goal

pub returns-clause-reach : goal.returns-clause-reach
returns-clause-reach g c x y far priced le =
    let kind = g.K.Cost in
    let i = c.args.block in
    c.exact_difference.ensures.bound x y
    (read_within kind x x c.args.dist.now i c.index-dist-block.result c.requires.inside
    c.index-dist-block.is (omega arith) far)
    (read_within kind y y c.args.right.now i c.index-right-block.result
    (omega (arith, c.requires.sized, c.requires.inside)) c.index-right-block.is (omega arith)
    priced) le
