-- The tables that come back begin with those that were lent, and have no more in them. Where no
-- pairing is perfect, none is optimum, and the crowd set and its shortage come along.
use Rattle.std.proofs.Common.{◌≡◌, ℕ, List, ◌++◌, length, take, ap, ◌∙◌}
use Rattle.std.proofs.lemmas.List.{take_at}
use Rattle.cost.specs.declared.plain_kind.Plain.{Plain}
use Rattle.tables.specs.Lent.{Lent, lent}
use Rattle.tables.specs.Together.{HoldTogether}
use Rattle.assign.specs.Answer.{HasFirstOptimum}
use Rattle.orderfile.specs.Loading.{plain_kind}
use Rattle.report.proofs.Accepting.{no_optimum}
use Rattle.report.proofs.fresh_tables.settle_afresh.Goals as goal

-- what is said of tables is said of them at the head of longer ones
whole : (Holds : Lent Plain → Type 0) (n : ℕ) (costs : List Plain) (standing p p' : List ℕ)
    (l l' r r' : List Plain) (i j k : ℕ) → length p ≡ i → length l ≡ j → length r ≡ k
    → Holds (lent n costs standing p l r)
    → Holds (lent n costs standing (take i (p ++ p')) (take j (l ++ l')) (take k (r ++ r')))
whole Holds n costs standing p p' l l' r r' i j k e f g h =
    rw (take_at p p' i e, take_at l l' j f, take_at r r' k g) h

pub returns-in-Ok : goal.returns-in-Ok
returns-in-Ok c =
    let partners = c.settle.auto.partners ∙ c.as_mut_slice-mates.ensures.len in
    let left = c.settle.auto.left ∙ c.as_mut_slice-lefts.ensures.len in
    let right = c.settle.auto.right ∙ c.as_mut_slice-rights.ensures.len in
    record {
      size = ap (λ s. s.size) c.in-Ok.ensures.same;
      together = whole (HoldTogether plain_kind) _ _ _ _ _ _ _ _ _ _ _ _ partners left right
          c.in-Ok.ensures.together;
      settled = whole (HasFirstOptimum plain_kind) _ _ _ _ _ _ _ _ _ _ _ _ partners left right
          c.in-Ok.ensures.tables;
    }

pub returns-in-Some : goal.returns-in-Some
returns-in-Some c =
    let explained = rw c.in-Some.is at c.in-Err.ensures.explained in
    record {
      unpaired = explained.1;
      none = no_optimum c.args.sheet.size c.args.costs.now c.args.standing.now c.requires
          (λ p perfect. explained.1.none p perfect);
    }
