-- The right block that the iterator gave is put in if a chain leads back; the others stay.
use Rattle.std.proofs.Common.{◌≡◌, sym, ap, ◌∙◌, arith}
use Rattle.std.proofs.lemmas.Bool.Decides.{nat_tests}
use Rattle.blockset.specs.Has.{has}
use Rattle.blockset.proofs.Removing.{still_in}
use Rattle.pairing.specs.Rows.{holds}
use Rattle.matching.proofs.marking.class_of.Goals as goal

pub loop-c-preserved-then-contains : goal.loop-c-preserved-then-contains
loop-c-preserved-then-contains c =
    let led = c.args.led.now in
    let own = c.args.own in
    let i = c.loop-c.invariant in
    let steps = c.in-Some.ensures.steps in
    record {
      can_next = tt;
      finite = tt;
      rest = λ j t. i.rest j (still_in (has c.loop-c.c-iterator) (has c.next.new.self) c.in-Some.c
          steps.others j t).0;
      class = λ j.
          let left = steps.others j in
          let put = c.insert.ensures j in
          let was = i.class j in
          let low = steps.is_block in
          let on = λ (e : j ≡ c.in-Some.c). ap (holds led own) e
          ∙ i.rest c.in-Some.c steps.member in
          let back = λ (e : j ≡ c.in-Some.c). ap (λ k. holds led k own) e
          ∙ sym c.if-contains.ensures in
          grind (arith, nat_tests);
    }
