-- Each right block of the set is free or held: the free one is taken unless the held one is nearer.
use Rattle.blockset.specs.Has.{has}
use Rattle.tables.specs.Said.{columns_at}
use Rattle.assign.proofs.Nearer.{nearer_found}
use Rattle.assign.proofs.search.nearest_free_first.Goals as goal

pub returns : goal.returns
returns g c = nearer_found g.K.Cost (has c.args.set) (has c.args.held) (has c.difference.result)
    (has c.intersection.result) c.difference.ensures c.intersection.ensures c.args.right.now
    (columns_at g.K.Cost c.args.dist.now) c.nearest-free.result c.nearest-other.result
    c.nearer.result c.nearest-free.ensures c.nearest-other.ensures c.nearer.ensures
