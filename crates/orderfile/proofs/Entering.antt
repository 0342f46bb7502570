-- Entering the pairs of a file that has no fault: what is left to read, and what the tables hold.
-- Idea: what is left of the file is always the bytes of what is still to come, and the tables are
-- those after the pairs that came. So the reader meets a sound field each time, which states what
-- it was written for, and each step takes one pair over from those to come to those that came.
use Rattle.std.proofs.Common.{◌≡◌, ℕ, List, Option, Result, [], ◌∷◌, ◌++◌, drop, Some, None}
use Rattle.std.proofs.Common.{Err, sym}
use Rattle.std.proofs.Common.{refl, ap, ap₂, ◌∙◌, subst, append_assoc}
use Rattle.std.proofs.lemmas.List.{append-nil}
use Rattle.std.specs.List.{flat_map, AllByRecursion}
use Rattle.cost.specs.declared.plain_kind.Plain.{Plain}
use Rattle.pairing.specs.Places.{place_of}
use Rattle.tables.specs.PairTables.{costs_entered, standing_entered}
use Rattle.sheet.specs.declared.fault.Fault.{Fault}
use Rattle.sheet.proofs.Refused.{from_err}
use Rattle.orderfile.specs.declared.record.StatedPair.{StatedPair}
use Rattle.orderfile.specs.declared.record.Record.{Record}
use Rattle.orderfile.specs.declared.record.Record.TheVariants.{Pair}
use Rattle.orderfile.specs.declared.record.Stage.{Stage}
use Rattle.orderfile.specs.declared.record.Stage.TheVariants.{Start, Sized, Ended}
use Rattle.orderfile.specs.Format.{StatedOrder, FitsSheet, PairFits, pair_field, end_field, file_of}
use Rattle.orderfile.specs.Format.{pair_in, value_of}
use Rattle.orderfile.specs.Faults.{field_fault}
use Rattle.orderfile.specs.Records.{StepsFrom, next_record, stage_next, record_length}
use Rattle.orderfile.specs.Loading.{plain, plain_kind, costs_after, standing_after}
use Rattle.orderfile.proofs.Reading.{HasPassed}
use Rattle.orderfile.proofs.Fields.{size_sound, pair_sound, pair_stated, end_sound}
use Rattle.std.proofs.Common.{slice_set}

-- entering some pairs and then others
pub costs_append : (n : ℕ) (ps qs : List StatedPair) (costs : List Plain) (standing : List ℕ)
    → costs_after n (ps ++ qs) costs standing
    ≡ costs_after n qs (costs_after n ps costs standing) (standing_after n ps standing)
costs_append n [] qs costs standing = refl
costs_append n (p ∷ ps) qs costs standing =
    costs_append n ps qs
    (costs_entered plain_kind n p.left p.right (plain p.cost) costs standing)
    (standing_entered n p.left p.right standing)

pub standing_append : (n : ℕ) (ps qs : List StatedPair) (standing : List ℕ)
    → standing_after n (ps ++ qs) standing ≡ standing_after n qs (standing_after n ps standing)
standing_append n [] qs standing = refl
standing_append n (p ∷ ps) qs standing =
    standing_append n ps qs (slice_set standing (place_of n p.left p.right) 1)

all_later : {X : Type 0} (P : X → Type 0) (xs ys : List X) → AllByRecursion P (xs ++ ys)
    → AllByRecursion P ys
all_later P [] ys h = h
all_later P (x ∷ xs) ys h = all_later P xs ys h.1

module _ (order : StatedOrder) (costs₀ : List Plain) (standing₀ : List ℕ) where
  -- some pairs of the order were entered, and the others are still to come
  pub record IsSplit (rest : List ℕ) (costs : List Plain) (standing : List ℕ) : Type 0 where
    pub done : List StatedPair
    pub todo : List StatedPair
    pub all : order.pairs ≡ done ++ todo
    pub left : rest ≡ flat_map pair_field todo ++ end_field
    pub costs_are : costs ≡ costs_after order.size done costs₀ standing₀
    pub standing_are : standing ≡ standing_after order.size done standing₀

  -- all of them were
  pub record AreEntered (costs : List Plain) (standing : List ℕ) : Type 0 where
    pub costs_are : costs ≡ costs_after order.size order.pairs costs₀ standing₀
    pub standing_are : standing ≡ standing_after order.size order.pairs standing₀

  -- what is left, and what the tables hold, where a reader of the order's file stands at a stage
  abbrev pub IsAhead : Stage → List ℕ → List Plain → List ℕ → Type 0
  IsAhead Start rest costs standing =
      (rest ≡ file_of order) × (costs ≡ costs₀) × (standing ≡ standing₀)
  IsAhead (Sized n) rest costs standing = (n ≡ order.size) × IsSplit rest costs standing
  IsAhead (Ended n) rest costs standing = (rest ≡ []) × AreEntered costs standing

  -- what a step of the reader meets: no fault; and a pair that is entered, or another record, and
  -- then what is ahead again
  pub record Meets (stage : Stage) (rest : List ℕ) (costs : List Plain)
      (standing : List ℕ) : Type 0 where
    pub clear : (at : ℕ) → field_fault stage rest at ≡ None
    pub fits : (p : StatedPair) → next_record stage rest ≡ Some (Pair p) → PairFits order.size p
    pub enters : (p : StatedPair) → next_record stage rest ≡ Some (Pair p)
        → IsAhead (stage_next stage rest) (drop (record_length stage rest) rest)
        (costs_entered plain_kind order.size p.left p.right (plain p.cost) costs standing)
        (standing_entered order.size p.left p.right standing)
    pub passes : (next : Record) → next_record stage rest ≡ Some next
        → ((p : StatedPair) → next ≡ Pair p → ⊥)
        → IsAhead (stage_next stage rest) (drop (record_length stage rest) rest) costs standing

  module _ (fits : FitsSheet order) (costs : List Plain) (standing : List ℕ) where
    -- before the size all pairs are still to come
    meets_size : costs ≡ costs₀ → standing ≡ standing₀ → Meets Start (file_of order) costs standing
    meets_size ec es = record {
      clear = λ at. size_sound order.size (flat_map pair_field order.pairs ++ end_field) at
          fits.some fits.few;
      fits = λ p e. cc;
      enters = λ p e. cc;
      passes = λ next e other. (
        refl,
        record {
          done = [];
          todo = order.pairs;
          all = refl;
          left = refl;
          costs_are = ec;
          standing_are = es;
        },
      );
    }

    module _ (done : List StatedPair)
        (costs_are : costs ≡ costs_after order.size done costs₀ standing₀)
        (standing_are : standing ≡ standing_after order.size done standing₀) where
      meets_pair : (p : StatedPair) (todo : List StatedPair) → order.pairs ≡ done ++ p ∷ todo
          → PairFits order.size p
          → Meets (Sized order.size) (pair_field p ++ (flat_map pair_field todo ++ end_field)) costs
          standing
      meets_pair p todo all sound_pair =
          let more : List ℕ = flat_map pair_field todo ++ end_field in
          let stated : pair_in (value_of (pair_field p ++ more)) ≡ p =
          pair_stated p more sound_pair.cost_within in
          let entered : IsAhead (Sized order.size) more
          (costs_entered plain_kind order.size p.left p.right (plain p.cost) costs standing)
          (standing_entered order.size p.left p.right standing) = (
            refl,
            record {
              done = done ++ p ∷ [];
              todo = todo;
              all = all ∙ sym (append_assoc done (p ∷ []) todo);
              left = refl;
              costs_are = ap₂ (costs_after order.size (p ∷ [])) costs_are standing_are
                  ∙ sym (costs_append order.size done (p ∷ []) costs₀ standing₀);
              standing_are = ap (standing_after order.size (p ∷ [])) standing_are
                  ∙ sym (standing_append order.size done (p ∷ []) standing₀);
            },
          )
          in
          record {
            clear = λ at. pair_sound order.size p more at sound_pair;
            fits = λ q e. let same : p ≡ q = cc in subst (PairFits order.size) same sound_pair;
            enters = λ q e. let same : p ≡ q = cc in
                rw (← same) entered;
            passes = λ next e other. absurd (other (pair_in (value_of (pair_field p ++ more))) cc);
          }

      meets_end : order.pairs ≡ done → Meets (Sized order.size) end_field costs standing
      meets_end all = record {
        clear = λ at. end_sound order.size [] at;
        fits = λ p e. cc;
        enters = λ p e. cc;
        passes = λ next e other. (
          refl,
          record {
            costs_are = costs_are
                ∙ ap (λ ps. costs_after order.size ps costs₀ standing₀) (sym all);
            standing_are = standing_are
                ∙ ap (λ ps. standing_after order.size ps standing₀) (sym all);
          },
        );
      }

      meets_next : (todo : List StatedPair) (rest : List ℕ) → order.pairs ≡ done ++ todo
          → rest ≡ flat_map pair_field todo ++ end_field
          → Meets (Sized order.size) rest costs standing
      meets_next [] rest all left =
          rw left (meets_end (all ∙ append-nil done))
      meets_next (p ∷ todo) rest all left =
          let those : AllByRecursion (PairFits order.size) (p ∷ todo) =
          all_later (PairFits order.size) done (p ∷ todo)
          (subst (AllByRecursion (PairFits order.size)) all fits.pairs_fit) in
          rw (left ∙ append_assoc (pair_field p) (flat_map pair_field todo) end_field)
          (meets_pair p todo all those.0)

    pub meets : (stage : Stage) (rest : List ℕ) → IsAhead stage rest costs standing
        → Meets stage rest costs standing
    meets Start rest h = rw h.0 (meets_size h.1 h.2)
    meets (Sized n) rest h =
        let s = h.1 in
        rw h.0 (meets_next s.done s.costs_are s.standing_are s.todo rest s.all s.left)
    meets (Ended n) rest h = rw h.0
        (record {
          clear = λ at. refl;
          fits = λ p e. cc;
          enters = λ p e. cc;
          passes = λ next e other. cc;
        })

-- a call of `next` on a record reader that stands where this is ahead
module _ (order : StatedOrder) (costs₀ : List Plain) (standing₀ : List ℕ) (fits : FitsSheet order)
    (stage : Stage) (rest : List ℕ) (costs : List Plain) (standing : List ℕ)
    (ahead : IsAhead order costs₀ standing₀ stage rest costs standing) where
  met : Meets order costs₀ standing₀ stage rest costs standing
  met = meets order costs₀ standing₀ fits costs standing stage rest ahead

  -- it is not refused
  pub never_refused : {at : ℕ} {r : Result (Option Record) Fault} {stage' : Stage}
      {rest' : List ℕ} {at' : ℕ} → StepsFrom stage rest at r stage' rest' at' → (f : Fault)
      → r ≡ Err f → ⊥
  never_refused {at = at} s f e =
      let known = from_err _ (next_record stage rest) f (sym e ∙ s.answers) in
      let clear = met.clear at in cc

  module _ {at : ℕ} {next : Record} {stage' : Stage} {rest' : List ℕ} {at' : ℕ}
      (h : HasPassed stage rest at (Some next) stage' rest' at') where
    -- where it hands out a pair, the sheet takes it, and this is ahead once it was entered
    pub handed_next : (p : StatedPair) → next ≡ Pair p → PairFits order.size p
        × IsAhead order costs₀ standing₀ stage' rest'
        (costs_entered plain_kind order.size p.left p.right (plain p.cost) costs standing)
        (standing_entered order.size p.left p.right standing)
    handed_next p e =
        let same : next_record stage rest ≡ Some (Pair p) = sym h.next ∙ ap Some e in
        (met.fits p same, rw (h.stages, h.passes) (met.enters p same))

    -- where it hands out another record, this is ahead of the same tables
    pub passed_next : ((p : StatedPair) → next ≡ Pair p → ⊥)
        → IsAhead order costs₀ standing₀ stage' rest' costs standing
    passed_next other = rw (h.stages, h.passes) (met.passes next (sym h.next) other)
