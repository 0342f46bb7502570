-- The list is the front of the buffer, and so is the one that follows it afterwards. The walk has
-- the size of the sheet that it was started from.
use Rattle.std.proofs.Common.{◌≡◌, take, sym, ap, ◌∙◌, subst}
use Rattle.pairing.specs.Grid.{IsOptimum}
use Rattle.pairing.specs.Optima.{optima}
use Rattle.matching.specs.Answers.{Follows}
use Rattle.sheet.specs.Size.{Sheet, size_of}
use Rattle.sheet.specs.Needs.{AreMet}
use Rattle.sheet.specs.Walking.{next_needs, IsStep}
use Rattle.tables.specs.Lent.{lent, grid}
use Rattle.chost.proofs.Buffers.{are_bytes, front, behind, as_long}
use Rattle.chost.proofs.answering.step_on.Goals as goal

pub write_blocks-requires-clause-bytes : goal.write_blocks-requires-clause-bytes
write_blocks-requires-clause-bytes g c =
    let t = λ (s : Sheet). lent (size_of s) c.args.costs.now c.args.standing.now
    c.args.partners.now c.args.left.now c.args.right.now in
    let s = c.args.settled in
    let step = subst (λ w. IsStep g.K.Cost (t w) c.read_blocks.new.list c.next.new.list
    c.in_ok-step.step) c.in_ok-walk.ensures.same c.in_ok-step.ensures.1 in
    are_bytes (size_of s) (grid g.K.Cost (t s)).stands c.next.new.list
    c.requires.together.pair_tables.few step.optimum.perfect

pub returns : goal.returns
returns g c =
    let t = λ (s : Sheet). lent (size_of s) c.args.costs.now c.args.standing.now
    c.args.partners.now c.args.left.now c.args.right.now in
    let s = c.args.settled in
    let n = size_of s in
    let out = c.args.out.now in
    let before = c.read_blocks.new.list in
    let after = c.next.new.list in
    let met = subst (λ w. AreMet (next_needs g.K.Cost (t w) before)) c.in_ok-walk.ensures.same
    c.in_ok-step.ensures.0 in
    let step = subst (λ w. IsStep g.K.Cost (t w) before after c.in_ok-step.step)
    c.in_ok-walk.ensures.same c.in_ok-step.ensures.1 in
    let list : before ≡ take n out = c.read_blocks.ensures
    ∙ ap (λ k. take k out) c.in_ok-walk.ensures.optimum.perfect.len in
    let long = step.optimum.perfect.len in
    let wrote = c.write_blocks.ensures in (
      subst (IsOptimum (grid g.K.Cost (t s))) list met.1.0.1,
      record {
        written = subst (λ p. Follows (optima (grid g.K.Cost (t s))) (take n out) p
            c.in_ok-step.step)
            (sym (front n after out c.write_blocks.new.out long wrote))
            (subst (λ p. Follows (optima (grid g.K.Cost (t s))) p after c.in_ok-step.step) list
            step.follows);
        behind = behind n after out c.write_blocks.new.out long wrote;
        long = as_long n after out c.write_blocks.new.out long wrote c.requires.room;
      },
    )
