-- Each arm has tested the front of its line, and reads on behind it.
use Rattle.std.proofs.Common.{◌≡◌, ◌+◌, ◌++◌, drop, get_or, codes, refl, arith}
use Rattle.dimacs.proofs.Passing.{one_byte, two_bytes, six_bytes, read_behind}
use Rattle.dimacs.proofs.line_reader.line_of.Goals as goal

pub returns-in-112 : goal.returns-in-112
returns-in-112 c =
    let bytes = c.args.rest.now in
    read_behind (codes "p asn ") bytes c.args.text.now _ c.args.at c.new.result.at
    c.problem.result c.requires (six_bytes bytes 112 32 97 115 110 32 (omega arith) (omega arith)
    (omega arith) (omega arith) (omega arith) (omega arith) (omega arith)) c.new.ensures.at
    c.new.ensures.rest c.problem.ensures

pub returns-in-110 : goal.returns-in-110
returns-in-110 c =
    let bytes = c.args.rest.now in
    let n : get_or bytes 0 0 ≡ 110 = grind arith in
    let blank : get_or bytes 1 0 ≡ 32 = grind arith in
    let front : bytes ≡ codes "n " ++ drop 2 bytes =
    two_bytes bytes 110 32 (omega arith) n blank in
    read_behind (codes "n ") bytes c.args.text.now _ c.args.at c.new-in-110.result.at
    c.node.result c.requires front c.new-in-110.ensures.at c.new-in-110.ensures.rest c.node.ensures

pub returns-in-97 : goal.returns-in-97
returns-in-97 c =
    let bytes = c.args.rest.now in
    let a : get_or bytes 0 0 ≡ 97 = grind arith in
    let blank : get_or bytes 1 0 ≡ 32 = grind arith in
    let front : bytes ≡ codes "a " ++ drop 2 bytes =
    two_bytes bytes 97 32 (omega arith) a blank in
    read_behind (codes "a ") bytes c.args.text.now _ c.args.at c.new-in-97.result.at
    c.arc.result c.requires front c.new-in-97.ensures.at c.new-in-97.ensures.rest c.arc.ensures

pub returns-in-99 : goal.returns-in-99
returns-in-99 c =
    let bytes = c.args.rest.now in
    let letter : get_or bytes 0 0 ≡ 99 = grind arith in
    let front : bytes ≡ codes "c" ++ drop 1 bytes = one_byte bytes 99 (omega arith) letter in
    read_behind (codes "c") bytes c.args.text.now _ c.args.at (c.args.at + 1) c.comment.result
    c.requires front refl refl c.comment.ensures
