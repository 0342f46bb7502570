-- The distance is read at the left block that has the right block, and the price at its own place.
use Rattle.std.proofs.Common.{refl, sym, subst, arith}
use Rattle.cost.specs.declared.TheConstants.{HALF_RAIL}
use Rattle.cost.specs.Columns.{AreWithin}
use Rattle.cost.proofs.Exact.{within_more}
use Rattle.blockset.proofs.Holding.{has_block}
use Rattle.assign.specs.declared.limits.TheConstants.{DISTANCE_LIMIT, INNER_PRICE_LIMIT}
use Rattle.assign.specs.Offers.{distances}
use Rattle.assign.proofs.Entries.{read_within}
use Rattle.assign.proofs.Owners.{known_at}
use Rattle.assign.proofs.Looking.{key_weighs, key_reaches}
use Rattle.assign.proofs.search.key_held.Goals as goal

pub bounds-holders-block : goal.bounds-holders-block
bounds-holders-block g c = has_block c.args.holders.now.held c.args.block c.requires.had

pub exact_difference-requires : goal.exact_difference-requires
exact_difference-requires g c =
    let kind = g.K.Cost in
    let i = c.args.block in
    let far = known_at kind c.requires.owners c.args.dist.now refl i c.requires.had
    c.index-dist-l.result c.index-dist-l.is in
    record {
      first = within_more DISTANCE_LIMIT HALF_RAIL (kind.meaning c.index-dist-l.result)
          (omega arith) (subst (AreWithin DISTANCE_LIMIT) (sym far) c.requires.far);
      second = read_within kind INNER_PRICE_LIMIT HALF_RAIL c.args.right.now i
          c.index-right-block.result c.requires.inside c.index-right-block.is (omega arith)
          c.requires.priced;
    }

pub returns : goal.returns
returns g c =
    let kind = g.K.Cost in
    let i = c.args.block in
    let d = distances kind c.args.holders.now c.args.dist.now in
    let far = known_at kind c.requires.owners c.args.dist.now refl i c.requires.had
    c.index-dist-l.result c.index-dist-l.is in
    record {
      key = key_weighs kind d c.args.right.now i c.index-dist-l.result c.index-right-block.result
          c.exact_difference.result c.requires.inside far c.index-right-block.is
          c.exact_difference.ensures.sum;
      reach = key_reaches kind d c.args.right.now i c.index-dist-l.result
          c.index-right-block.result c.exact_difference.result c.requires.inside far
          c.index-right-block.is c.exact_difference.ensures.bound;
    }
