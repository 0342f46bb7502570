-- The search is what proofs/Turns.antt tells of its tables, and what is noted is so.
use Rattle.blockset.specs.Has.{has}
use Rattle.assign.specs.Weighed.{weight_at}
use Rattle.assign.specs.Noted.{AreNoted}
use Rattle.assign.specs.Trees.{begun_in}
use Rattle.assign.proofs.Turns.{Turning}
use Rattle.assign.proofs.growing.grow.Given as goal

abbrev pub invariant-loop-t : goal.invariant-loop-t
invariant-loop-t g l = record {
  turning : Turning g.K.Cost l.rows l.costs l.holders l.right
      (begun_in l.initial.tree l.initial.next) l.initial.dist l.seen l.tree.taken l.free
      l.next l.dist l.t;
  noted : AreNoted g.K.Cost l.rows l.costs (has l.holders.held) (weight_at g.K.Cost l.right)
      l.noted;
}
