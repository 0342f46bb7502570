-- The set has one block fewer.
use Rattle.blockset.specs.Has.{has}
use Rattle.blockset.proofs.Removing.{fewer}
use Rattle.blockset.proofs.BlocksIterator.next.Goals as goal

pub returns-clause-goes : goal.returns-clause-goes
returns-clause-goes c =
    let taken = c.in_ok-least.ensures in
    let less = fewer (has c.self.inside.rest) (has c.without_least-self-inside.result)
    c.in_ok-least.least (λ j. c.without_least-self-inside.ensures c.in_ok-least.least j taken)
    taken.0 taken.1 in
    record {
      on = λ _. (tt, tt, rw (← c.self.view_is) less);
      keeps = tt;
      rests = λ f. tt;
    }
