-- A comment ends at the first newline.
use Rattle.std.proofs.Common.{refl}
use Rattle.std.proofs.lemmas.List.{take_rest}
use Rattle.dimacs.proofs.Reading.{comment_read}
use Rattle.dimacs.proofs.line_reader.comment.Goals as goal

pub returns : goal.returns
returns c at places =
    let found = c.in_ok-length.ensures in
    comment_read _ _ c.in_ok-length.length at c.args.at places refl found.0 found.1 found.2 _
    (take_rest c.args.text.now c.args.at)
