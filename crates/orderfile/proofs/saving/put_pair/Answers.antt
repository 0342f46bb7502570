-- The three parts go one behind the other, and make the field.
use Rattle.std.proofs.Common.{◌≡◌, ◌+◌, [], ◌∷◌, ◌++◌, length, take, drop, ap, ◌∙◌, of_z, w64}
use Rattle.std.proofs.Common.{arith}
use Rattle.orderfile.specs.Format.{eight_bytes}
use Rattle.orderfile.proofs.Buffer.{put_next}
use Rattle.orderfile.proofs.saving.put_pair.Goals as goal

pub returns : goal.returns
returns c =
    let at = c.args.at in
    let out = c.args.out.now in
    let head = 2 ∷ 0 ∷ 10 ∷ c.args.pair.left ∷ [] in
    let right = c.args.pair.right ∷ [] in
    let cost = eight_bytes (of_z w64 c.args.pair.cost) in
    let five : (at + 4) + 1 ≡ at + 5 = omega arith in
    let two = put_next head right out c.put.new.out c.put-2.new.out at (at + 4) (at + 5)
    (omega (arith, c.requires)) c.put.ensures (omega arith)
    (c.put-2.ensures
    ∙ ap (λ k. take (at + 4) c.put.new.out ++ (right ++ drop k c.put.new.out)) five)
    (omega arith) in
    let bytes = c.cost_bytes.ensures in
    let all : (at + 5) + 8 ≡ at + 13 = omega arith in
    put_next (head ++ right) cost out c.put-2.new.out c.put-3.new.out at (at + 5) (at + 13)
    (omega (arith, c.requires)) two (omega arith)
    (c.put-3.ensures
    ∙ ap (λ t. take (at + 5) c.put-2.new.out ++ (t ++ drop ((at + 5) + length t) c.put-2.new.out))
    bytes
    ∙ ap (λ k. take (at + 5) c.put-2.new.out ++ (cost ++ drop k c.put-2.new.out)) all)
    (omega arith)
