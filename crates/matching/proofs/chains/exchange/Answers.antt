-- Each step is one of proofs/Exchanging.antt.
use Rattle.std.proofs.Common.{sym, ap, ◌∙◌, arith}
use Rattle.std.proofs.lemmas.List.{length-set}
use Rattle.blockset.specs.Has.{has}
use Rattle.pairing.specs.Grid.{at}
use Rattle.matching.proofs.Inserting.{inserted}
use Rattle.matching.proofs.Exchanging.{exchange_more, exchange_done, telling_more, telling_done}
use Rattle.matching.proofs.chains.exchange.Goals as goal

pub chain-preserved : goal.chain-preserved
chain-preserved c =
    let i = c.chain.invariant in
    let on = sym c.if-contains.ensures in
    record {
      way = exchange_more c.requires.ways i.way on;
      same = i.same;
      sized = length-set c.chain.holders.owner c.chain.block
          (at c.args.reach.now.from c.chain.block) ∙ i.sized;
      told = λ k h high. telling_more c.requires.ways i.way (i.told k h high) high
          (omega (arith, i.sized, c.requires.small)) on;
    }

pub returns-then-contains-clause-exchanged : goal.returns-then-contains-clause-exchanged
returns-then-contains-clause-exchanged c =
    exchange_done c.requires.ways c.chain.invariant.way (sym c.if-contains.ensures)

pub returns-then-contains-clause-held : goal.returns-then-contains-clause-held
returns-then-contains-clause-held c j =
    ap (λ s. has s j) c.chain.invariant.same
    ∙ inserted (has c.args.holders.now.held) (has c.insert.new.self) c.args.goal
    (omega (arith, c.requires.ways.inside c.args.goal c.requires.reached, c.requires.small))
    c.insert.ensures j

pub returns-then-contains-clause-told : goal.returns-then-contains-clause-told
returns-then-contains-clause-told c k high h =
    let i = c.chain.invariant in
    telling_done c.requires.ways i.way (i.told k h high) high
    (omega (arith, i.sized, c.requires.small)) (sym c.if-contains.ensures)
