-- Each left block in turn is a step of proofs/Order.antt.
use Rattle.std.proofs.Common.{arith}
use Rattle.matching.proofs.Order.{settle_more, settled}
use Rattle.matching.proofs.stepping.make_first_from.Goals as goal

pub loop-l-preserved : goal.loop-l-preserved
loop-l-preserved c = record {
  settling = settle_more c.loop-l.invariant.settling (omega arith) (omega arith)
      c.lower.ensures.improved;
  holders = c.lower.ensures.held;
}

pub take_out-requires : goal.take_out-requires
take_out-requires c =
    let pairs = c.loop-l.invariant.settling.pairs in
    record {
      inside = omega (arith, pairs.len);
      once = λ m i e. pairs.once m c.loop-l.l (omega (arith, pairs.len)) (omega arith) e;
      first = c.loop-l.invariant.holders;
    }

pub returns : goal.returns
returns c = settled c.loop-l.invariant.settling (omega arith)
