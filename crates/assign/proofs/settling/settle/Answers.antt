-- What `optimum` leaves is solved, and its pairing is made the first one.
use Rattle.std.proofs.Common.{rules}
use Rattle.tables.specs.Lent.{lent}
use Rattle.assign.proofs.Firsts.{solved_still}
use Rattle.assign.proofs.settling.settle.Goals as goal

pub make_optimum_first-requires : goal.make_optimum_first-requires
make_optimum_first-requires g c =
    let old = lent c.args.n c.args.costs.now c.args.standing.now c.args.partners.now
    c.args.left.now c.args.right.now in
    let new = c.optimum.new in
    let solved = solved_still g.K.Cost old new.partners new.left new.right (search rules)
    c.optimum.auto.partners c.optimum.auto.left c.optimum.auto.right in
    record { usable = solved.usable; solved = solved.solved }

pub returns-in-Optimal : goal.returns-in-Optimal
returns-in-Optimal g c =
    let done = c.make_optimum_first.ensures in
    let first = done.first in
    record { answers = search rules; together = λ _. done.together }
