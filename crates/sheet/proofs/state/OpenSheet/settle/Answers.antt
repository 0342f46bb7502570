-- What the pairing by cost answers, told of the sheet: its size is the tables'.
use Rattle.std.proofs.Common.{◌≡◌, ◌≢◌, ◌≤◌, Ok, inl, inr, refl, sym, ap, ◌∙◌, subst, arith}
use Rattle.blockset.specs.declared.TheConstants.{MOST_BLOCKS}
use Rattle.cost.specs.declared.Cost.{Ghosts}
use Rattle.tables.specs.Lent.{Lent, lent, IsUnusable}
use Rattle.tables.specs.declared.flaw.Flaw.{Flaw}
use Rattle.tables.specs.declared.flaw.Flaw.TheVariants.{Size, Length, Order}
use Rattle.assign.specs.Answer.{Answers, HasFirstOptimum}
use Rattle.sheet.specs.declared.fault.Cause.TheVariants.{NoPerfectPairing}
use Rattle.sheet.specs.declared.fault.Fault.{Fault}
use Rattle.sheet.specs.Needs.{IsFirstUnmet}
use Rattle.sheet.specs.Refusals.{fault, flaw_cause}
use Rattle.sheet.specs.Settling.{settle_needs}
use Rattle.sheet.specs.Size.{size_of}
use Rattle.sheet.proofs.state.OpenSheet.settle.Goals as goal

pub returns-in-Ok-Optimal : goal.returns-in-Ok-Optimal
returns-in-Ok-Optimal g c =
    let n : c.self.inside.n ≡ size_of c.args.self = ap size_of c.self.view_is in
    let old = lent c.self.inside.n c.args.costs.now c.args.standing.now c.args.partners.now
    c.args.left.now c.args.right.now in
    let new = lent c.self.inside.n c.args.costs.now c.args.standing.now c.settle.new.partners
    c.settle.new.left c.settle.new.right in
    let done = c.in-Ok-Optimal.is ∙ ap Ok c.in-Ok-Optimal.field-0-is in
    let made = subst (Answers g.K.Cost old new (HasFirstOptimum g.K.Cost new)) done
    c.settle.ensures.answers in
    let together = c.settle.ensures.together done in
    rw (← n) (record {
      same = cc;
      met = (made.0.lengths, (made.0.in_order, ((c.settle.new.partners, together.perfect), tt)));
      tables = made.1;
      together = together;
    })

pub returns-in-Ok-Unmatched : goal.returns-in-Ok-Unmatched
returns-in-Ok-Unmatched g c =
    let n : c.self.inside.n ≡ size_of c.args.self = ap size_of c.self.view_is in
    let old = lent c.self.inside.n c.args.costs.now c.args.standing.now c.args.partners.now
    c.args.left.now c.args.right.now in
    let new = lent c.self.inside.n c.args.costs.now c.args.standing.now c.settle.new.partners
    c.settle.new.left c.settle.new.right in
    let made = subst (Answers g.K.Cost old new (HasFirstOptimum g.K.Cost new))
    (c.in-Ok-Unmatched.is ∙ ap Ok c.in-Ok-Unmatched.field-0-is) c.settle.ensures.answers in
    rw (← n) (record {
      same = refl;
      unmet = inr (
        made.0.lengths,
        inr (made.0.in_order, inl (λ found. made.1.none found.0 found.1, c.at.ensures)),
      );
      explained = (c.at.ensures, made.1);
      kept = made.2;
    })

-- tables that cannot be paired by cost are refused for their flaw
unusable : {K : Type 0} (kind : Ghosts K) (t : Lent K) (flaw : Flaw) → t.size ≤ MOST_BLOCKS
    → IsUnusable kind t flaw → IsFirstUnmet (settle_needs kind t) (fault (flaw_cause flaw) 0)
unusable kind t Size few over = absurd (omega (arith, few, over))
unusable kind t Length few short = inl (short.1, refl)
unusable kind t Order few odd = inr (odd.1, inl (odd.2, refl))

-- which is not that no pairing is perfect
other : (flaw : Flaw) → fault (flaw_cause flaw) 0 ≢ fault NoPerfectPairing 0
other Size e = let d = ap (λ (f : Fault). f.cause) e in cc
other Length e = let d = ap (λ (f : Fault). f.cause) e in cc
other Order e = let d = ap (λ (f : Fault). f.cause) e in cc

pub returns-in-Err : goal.returns-in-Err
returns-in-Err g c =
    let n : c.self.inside.n ≡ size_of c.args.self = ap size_of c.self.view_is in
    let old = lent c.self.inside.n c.args.costs.now c.args.standing.now c.args.partners.now
    c.args.left.now c.args.right.now in
    let made = c.in-Err.ensures.answers in
    rw (← n) (record {
      same = refl;
      unmet = subst (IsFirstUnmet (settle_needs g.K.Cost old)) (sym c.from.ensures)
          (unusable g.K.Cost old c.in-Err.flaw c.self.invariant.few made.0);
      explained = λ e. other c.in-Err.flaw (sym c.from.ensures ∙ e);
      kept = made.1;
    })
