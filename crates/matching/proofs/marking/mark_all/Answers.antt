-- One row more is written: the rows before it stay, and it says which pairs occur.
use Rattle.std.proofs.Common.{◌≡◌, ◌&&◌, ℕ, ◌+◌, ◌-◌, ◌*◌, ◌<◌, ◌≤◌, if◌then◌else◌, length, sym, ap}
use Rattle.std.proofs.Common.{◌∙◌, subst, inl, inr, add-mul, one-mul, arith}
use borrow.Rule.Slice.PartMut.{put_mid}
use Rattle.std.proofs.lemmas.Nat.{mul-add-lt, mul-le}
use Rattle.std.proofs.lemmas.Bool.{cases_eq, both_ways, cond-true}
use Rattle.pairing.specs.Grid.{at}
use Rattle.pairing.specs.Optima.{has_pair}
use Rattle.pairing.specs.Rows.{holds, pairings}
use Rattle.std.proofs.lemmas.List.{get_or-replicate}
use Rattle.blockset.specs.declared.TheConstants.{SET_WIDTH}
use Rattle.blockset.specs.Has.{has, no_blocks}
use Rattle.matching.proofs.Leading.{AreClasses, classes_more, is_class, in_class}
use Rattle.matching.proofs.Leading.{class_occurs, put_before, put_inside}
use Rattle.matching.proofs.marking.mark_all.Goals as goal
use Rattle.matching.proofs.marking.mark_all.Goals.{then-is_empty, else-is_empty}

-- the places of row l
row_end : (l n : ℕ) → l < n → l * n + n ≤ n * n
row_end l n i = let h : (l + 1) * n ≤ n * n = mul-le (l + 1) n n n (omega arith) (omega arith) in
    omega (arith, add-mul l 1 n, one-mul n)

pub loop-l-init : goal.loop-l-init
loop-l-init c = record {
  marked = λ m r i j. absurd (omega arith);
  classes = λ i a. inl (λ j. ap (λ s. has s j)
      (get_or-replicate SET_WIDTH i c.empty-classes.result no_blocks
      (omega (arith, c.requires.small)))
      ∙ c.empty-classes.ensures j);
}

pub loop-l-preserved : goal.loop-l-preserved
loop-l-preserved c =
    let rows = c.args.rows.now in
    let n = length rows in
    let l = c.loop-l.l in
    let own = at c.args.p.now l in
    let h = c.requires.pairs in
    let led = c.leads-led.result in
    let leads = c.leads-led.ensures in
    let classes = c.if-is_empty.classes in
    let old = c.loop-l.invariant.classes in
    let inside : l < n = omega arith in
    let low : own < n = h.below l inside in
    let short : l * n ≤ length c.loop-l.table = omega (arith, row_end l n inside) in
    let known : AreClasses n led classes
    × ((j : ℕ) → j < n → holds classes own j ≡ (holds led own j && holds led j own)) =
    elim c.if-is_empty.branch [
      | then-is_empty w ↦
          let class = has w.class_of.result in
          let is : (i j : ℕ) → holds classes i j
          ≡ (if class i then class j else holds c.loop-l.classes i j) =
          λ i j. ap (λ s. holds s i j) w.classes-is ∙ w.note_class.ensures i j in (
            classes_more n led c.loop-l.classes classes class
                (is_class rows h led leads own low class w.class_of.ensures) old is,
            λ j b. is own j ∙ cond-true (class own) _ _
                (in_class rows h led leads own low class w.class_of.ensures)
                ∙ w.class_of.ensures j,
          )
      | else-is_empty w ↦ (
        subst (AreClasses n led) (sym w.classes-is) old,
        elim (old own low) [
          | inl e ↦ absurd (both_ways c.is_empty.result w.if-is_empty.false
              (c.is_empty.ensures.1 e))
          | inr e ↦ λ j b. ap (λ s. holds s own j) w.classes-is ∙ e j b
        ],
      )
    ] in
    record {
      classes = known.0;
      marked = λ m r i j. elim (cases_eq m l) [
        | inl e ↦
            ap (λ x. at (put_mid (l * n) (l * n + n - l * n) c.loop-l.table c.mark_row.new.marks)
            (x * n + r)) e
            ∙ put_inside (l * n) (l * n + n - l * n) c.loop-l.table c.mark_row.new.marks short r
            (omega (arith, row_end l n inside))
            ∙ c.mark_row.ensures r (omega (arith, row_end l n inside))
            ∙ ap (λ b. (if b then 1 else 0))
            (c.intersection.ensures r
            ∙ class_occurs rows h led leads l r inside j (holds classes own) known.1)
            ∙ ap (λ x. (if has_pair x r (pairings rows) then 1 else 0)) (sym e)
        | inr ne ↦ put_before (l * n) (l * n + n - l * n) c.loop-l.table c.mark_row.new.marks short
            (m * n + r) (omega (arith, mul-add-lt m n r l (omega arith) j))
            ∙ c.loop-l.invariant.marked m r (omega arith) j
      ];
    }
