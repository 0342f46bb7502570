-- Each round, and the end, are those of proofs/Closing.antt.
use Rattle.std.proofs.Common.{arith}
use Rattle.matching.proofs.Closing.{closing_start, closing_more, closing_done}
use Rattle.matching.proofs.marking.leads.Goals as goal

pub loop-k-init : goal.loop-k-init
loop-k-init c = closing_start c.requires.pairs c.steps-led.ensures

pub loop-k-preserved : goal.loop-k-preserved
loop-k-preserved c =
    closing_more c.requires.pairs c.loop-k.invariant (omega arith) c.lead_through.ensures

pub returns : goal.returns
returns c = closing_done c.requires.pairs c.loop-k.invariant (omega arith)
