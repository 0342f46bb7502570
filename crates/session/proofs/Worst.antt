-- After each call, a pair's cell in the book is the worst of the readings that were accepted since
-- the pair was last struck.
-- Idea: along the calls. An accepted reading leaves the worse of itself and of the worst so far,
-- which is as great as all of them and is one of them; an accepted strike leaves nothing, and no
-- reading came since; no other call changes the cell. What was accepted is told by the answers, by
-- the promise.
use Rattle.std.proofs.Common.{◌≡◌, ℕ, true, false, cond, ◌&&◌, eqb, ◌⊎◌, List, [], ◌∷◌, ◌++◌}
use Rattle.std.proofs.Common.{Less, Equal, Greater, Some, None, Option, Contains, sym, refl}
use Rattle.std.proofs.Common.{ap, ap₂, ◌∙◌, subst, inl, inr, ⊎_elim, append_assoc, arith}
use Rattle.std.proofs.ByRecursion.{All-push}
use Rattle.std.proofs.lemmas.List.{append-nil}
use Rattle.std.proofs.lemmas.List.Elements.{Contains-push, Contains-push_cases}
use Rattle.std.proofs.lemmas.List.Elements.{Contains-append_left}
use Rattle.std.proofs.lemmas.Int.{ints}
use Rattle.std.proofs.lemmas.Bool.{cases_Bool, cond-true, cond-false, and_parts, and_from, eqb-true}
use Rattle.std.proofs.lemmas.Bool.{eq-eqb, true≢false}
use Rattle.std.specs.Ordering.{is_lt, ordering_reverse}
use Rattle.cost.specs.declared.Cost.{Ghosts}
use Rattle.cost.specs.Columns.{lex}
use Rattle.cost.specs.Readings.{worse}
use Rattle.cost.proofs.Order.{lex_refl, lex_mirror}
use Rattle.cost.proofs.Readings.{worse_has}
use Rattle.pairing.specs.Grid.{IsUpto}
use Rattle.pairing.specs.Prices.{IsCostValue}
use Rattle.pairing.proofs.Weighing.{value_upto, value_from}
use Rattle.session.specs.declared.call.Act.{Act}
use Rattle.session.specs.declared.call.Act.TheVariants.{Enter, Strike}
use Rattle.session.specs.Book.{Book, Verdict, not_allowed, refused, accepted, blank, book_by, step}
use Rattle.session.specs.Exchange.{Exchange, call_of, verdict_of}
use Rattle.session.specs.Promise.{Settling, fresh, settling_by, IsRight, AllRight, KeepsPromise}
use Rattle.session.specs.Promise.{book_after}
use Rattle.session.specs.Readings.{IsReading, IsStrike, IsWorstOf, IsWorstReading}
use Rattle.session.specs.Readings.{WorstReadingsStand}

module _ {K : Type 0} (kind : Ghosts K)
    (valued : (x : K) → IsCostValue kind.columns (kind.meaning x)) where
  -- ---- The worse of two

  abbrev AtMost : K → K → Type 0
  AtMost x y = IsUpto (kind.meaning x) (kind.meaning y)

  at_most_itself : (x : K) → AtMost x x
  at_most_itself x = λ g. cc (sym (lex_refl (kind.meaning x)) ∙ g)

  at_most_chain : (x y z : K) → AtMost x y → AtMost y z → AtMost x z
  at_most_chain x y z h k = value_from kind.columns (kind.meaning x) (kind.meaning z) (valued x)
      (valued z) (omega (
        arith,
        ints,
        value_upto kind.columns (kind.meaning x) (kind.meaning y) (valued x) (valued y) h,
        value_upto kind.columns (kind.meaning y) (kind.meaning z) (valued y) (valued z) k,
      ))

  -- both are at most the worse
  both_at_most : (old new : K)
      → AtMost old (worse kind (Some old) new) × AtMost new (worse kind (Some old) new)
  both_at_most old new =
      let back = lex_mirror (kind.meaning old) (kind.meaning new)
      ((valued old).sized ∙ sym (valued new).sized) in
      elim (lex (kind.meaning old) (kind.meaning new)) as (λ o.
      lex (kind.meaning old) (kind.meaning new) ≡ o
      → AtMost old (cond (is_lt o) new old) × AtMost new (cond (is_lt o) new old)) [
        | Less ↦ λ e. (λ g. cc (sym e ∙ g), at_most_itself new)
        | Equal ↦ λ e. (at_most_itself old, λ g. cc (sym (back ∙ ap ordering_reverse e) ∙ g))
        | Greater ↦ λ e. (at_most_itself old, λ g. cc (sym (back ∙ ap ordering_reverse e) ∙ g))
      ] refl

  module _ (l r : ℕ) where
    -- ---- The worst of some calls, with one call more

    same_reading : (e : Exchange K) (x y : K) → IsReading l r x e → IsReading l r y e → x ≡ y
    same_reading e x y h k = let same : ◌≡◌ {A = Act K} (Enter l r x) (Enter l r y) =
        sym h.0 ∙ k.0 in cc

    abbrev Worst : List (Exchange K) → Option K → Type 0
    Worst = IsWorstOf l r kind

    other_call : (es : List (Exchange K)) (e : Exchange K) (cell : Option K)
        → ((reading : K) → IsReading l r reading e → ⊥) → Worst es cell → Worst (es ++ e ∷ []) cell
    other_call es e None none w = λ d x i k. ⊎_elim (λ before. w d x before k)
        (λ here. none x (subst (IsReading l r x) (sym here) k)) (Contains-push_cases es e d i)
    other_call es e (Some c) none w = (
      (w.0.0, Contains-append_left es (e ∷ []) w.0.0 w.0.1, w.0.2),
      λ d x i k. ⊎_elim (λ before. w.1 d x before k)
          (λ here. absurd (none x (subst (IsReading l r x) (sym here) k)))
          (Contains-push_cases es e d i),
    )

    reading_more : (es : List (Exchange K)) (e : Exchange K) (new : K) (cell : Option K)
        → IsReading l r new e → Worst es cell → Worst (es ++ e ∷ []) (Some (worse kind cell new))
    reading_more es e new None here w = (
      (e, Contains-push es e, here),
      λ d x i k. ⊎_elim (λ before. absurd (w d x before k))
          (λ at. subst (λ y. AtMost y new) (same_reading e new x here
          (subst (IsReading l r x) (sym at) k)) (at_most_itself new))
          (Contains-push_cases es e d i),
    )
    reading_more es e new (Some old) here w =
        let both = both_at_most old new in
        let Read : K → Type 0 = λ x. (d : Exchange K) × Contains (es ++ e ∷ []) d
        × IsReading l r x d in (
          worse_has kind Read (Some old) new (e, Contains-push es e, here)
              (λ x is. let same : old ≡ x = cc in
              subst Read same (w.0.0, Contains-append_left es (e ∷ []) w.0.0 w.0.1, w.0.2)),
          λ d x i k. ⊎_elim
              (λ before. at_most_chain x old (worse kind (Some old) new) (w.1 d x before k) both.0)
              (λ at. subst (λ y. AtMost y (worse kind (Some old) new)) (same_reading e new x here
              (subst (IsReading l r x) (sym at) k)) both.1) (Contains-push_cases es e d i),
        )

    -- ---- What a call does to the cell

    -- it enters a reading of the pair; it strikes the pair; or it leaves the cell as it was
    abbrev Does : Book K → Act K → Verdict → Type 0
    Does b act v =
        ((new : K) × (act ≡ Enter l r new) × (v ≡ accepted)
        × ((book_by kind v b act).cells l r ≡ Some (worse kind (b.cells l r) new)))
        ⊎ (((act ≡ Strike l r) × (v ≡ accepted) × ((book_by kind v b act).cells l r ≡ None))
        ⊎ (((new : K) → act ≡ Enter l r new → v ≡ accepted → ⊥)
        × (act ≡ Strike l r → v ≡ accepted → ⊥)
        × ((book_by kind v b act).cells l r ≡ b.cells l r)))

    -- these blocks are the pair's, or others
    pair_or_other : (i j : ℕ) → (((l ≡ i) × (r ≡ j)) × ((eqb l i && eqb r j) ≡ true))
        ⊎ (((l ≡ i) × (r ≡ j) → ⊥) × ((eqb l i && eqb r j) ≡ false))
    pair_or_other i j = ⊎_elim
        (λ here. let both = and_parts (eqb l i) (eqb r j) here in
        inl ((eqb-true l i both.0, eqb-true r j both.1), here))
        (λ there. inr (
          λ same. true≢false (sym (and_from (eqb l i) (eqb r j) (eq-eqb l i same.0)
              (eq-eqb r j same.1)) ∙ there),
          there,
        ))
        (cases_Bool (eqb l i && eqb r j))

    enter_does : (b : Book K) (i j : ℕ) (new : K) → Does b (Enter i j new) accepted
    enter_does b i j new = ⊎_elim
        (λ here. inl (
          new,
          ap₂ (λ x y. Enter x y new) (sym here.0.0) (sym here.0.1),
          refl,
          cond-true (eqb l i && eqb r j) _ _ here.1
              ∙ ap₂ (λ x y. Some (worse kind (b.cells x y) new)) (sym here.0.0) (sym here.0.1),
        ))
        (λ there. inr (inr (
          λ x e k. there.0 (cc, cc),
          λ e k. cc,
          cond-false (eqb l i && eqb r j) _ _ there.1,
        )))
        (pair_or_other i j)

    strike_does : (b : Book K) (i j : ℕ) → Does b (Strike i j) accepted
    strike_does b i j = ⊎_elim
        (λ here. inr (inl (
          ap₂ (λ x y. Strike x y) (sym here.0.0) (sym here.0.1),
          refl,
          cond-true (eqb l i && eqb r j) _ _ here.1,
        )))
        (λ there. inr (inr (
          λ x e k. cc,
          λ e k. there.0 (cc, cc),
          cond-false (eqb l i && eqb r j) _ _ there.1,
        )))
        (pair_or_other i j)

    does : (b : Book K) (act : Act K) (v : Verdict) → Does b act v
    does b act not_allowed = inr (inr (λ x e k. cc, λ e k. cc, refl))
    does b act (refused f) = inr (inr (λ x e k. cc, λ e k. cc, refl))
    does b (Enter i j new) accepted = enter_does b i j new
    does b (Strike i j) accepted = strike_does b i j
    does b _ accepted = inr (inr (λ x e k. cc, λ e k. cc, refl))

    -- ---- Along the calls

    abbrev Stands : List (Exchange K) → Option K → Type 0
    Stands = IsWorstReading l r kind

    -- a call that does not strike the pair goes on with those since it was struck
    goes_on : (done : List (Exchange K)) (e : Exchange K) (cell cell' : Option K)
        → (IsStrike l r e → ⊥)
        → ((es : List (Exchange K)) → Worst es cell → Worst (es ++ e ∷ []) cell')
        → Stands done cell → Stands (done ++ e ∷ []) cell'
    goes_on done e cell cell' unstruck more w =
        let was = w.are_since in
        record {
          since = w.since ++ e ∷ [];
          are_since = record {
            before = was.before;
            splits = ap (λ es. es ++ e ∷ []) was.splits
                ∙ append_assoc was.before w.since (e ∷ []);
            begins = was.begins;
            unstruck = All-push (λ d. IsStrike l r d → ⊥) w.since e was.unstruck unstruck;
          };
          worst = more w.since w.worst;
        }

    -- and one that strikes it begins anew
    begins_anew : (done : List (Exchange K)) (e : Exchange K) → IsStrike l r e
        → Stands (done ++ e ∷ []) None
    begins_anew done e struck = record {
      since = [];
      are_since = record {
        before = done ++ e ∷ [];
        splits = sym (append-nil (done ++ e ∷ []));
        begins = inr (done, e, refl, struck);
        unstruck = tt;
      };
      worst = λ d x i k. omega (arith, i.1);
    }

    module _ (n : ℕ) where
      one_more : (b : Book K) (s : Settling K) (done : List (Exchange K)) (e : Exchange K)
          → IsRight kind n b s e → Stands done (b.cells l r)
          → Stands (done ++ e ∷ []) ((step kind n b (call_of e)).cells l r)
      one_more b s done e right w =
          let v = verdict_of e.reply in
          let old = b.cells l r in
          subst (λ v. Stands (done ++ e ∷ []) ((book_by kind v b e.act).cells l r))
          right.verdict_is
          (⊎_elim
          (λ enters. subst (Stands (done ++ e ∷ [])) (sym enters.3)
          (goes_on done e old (Some (worse kind old enters.0)) (λ k. cc (sym k.0 ∙ enters.1))
          (λ es h. reading_more es e enters.0 old (enters.1, enters.2) h) w))
          (λ more. ⊎_elim
          (λ strikes. subst (Stands (done ++ e ∷ [])) (sym strikes.2)
          (begins_anew done e (strikes.0, strikes.1)))
          (λ stays. subst (Stands (done ++ e ∷ [])) (sym stays.2)
          (goes_on done e old old (λ k. stays.1 k.0 k.1)
          (λ es h. other_call es e old (λ x k. stays.0 x k.0 k.1) h) w))
          more)
          (does b e.act v))

      along : (b : Book K) (s : Settling K) (done todo : List (Exchange K))
          → AllRight kind n b s todo → Stands done (b.cells l r)
          → Stands (done ++ todo) ((book_after kind n b todo).cells l r)
      along b s done [] right w =
          subst (λ es. Stands es (b.cells l r)) (sym (append-nil done)) w
      along b s done (e ∷ todo) right w =
          subst (λ es. Stands es ((book_after kind n b (e ∷ todo)).cells l r))
          (append_assoc done (e ∷ []) todo)
          (along (step kind n b (call_of e)) (settling_by kind n b s e.act e.reply)
          (done ++ e ∷ []) todo right.1 (one_more b s done e right.0 w))

      at_first : Stands [] None
      at_first = record {
        since = [];
        are_since = record { before = []; splits = refl; begins = inl refl; unstruck = tt };
        worst = λ d x i k. omega (arith, i.1);
      }

  -- what is promised of all calls is promised of the first of them
  right_before : (n : ℕ) (b : Book K) (s : Settling K) (done todo : List (Exchange K))
      → AllRight kind n b s (done ++ todo) → AllRight kind n b s done
  right_before n b s [] todo h = tt
  right_before n b s (e ∷ done) todo h = (
    h.0,
    right_before n (step kind n b (call_of e)) (settling_by kind n b s e.act e.reply) done todo h.1,
  )

  pub worst_readings_stand : (n : ℕ) (es : List (Exchange K)) → KeepsPromise kind n es
      → WorstReadingsStand kind n es
  worst_readings_stand n es keeps done todo splits l r =
      along l r n blank (fresh kind n) [] done (right_before n blank (fresh kind n) done todo
      (subst (KeepsPromise kind n) splits keeps)) (at_first l r n)
