-- One more turn of a search: the nearest reached right block is taken, and its left block is looked
-- at.
-- Idea (Dijkstra's): beyond their prices the distances only grow from turn to turn, since a step
-- from a taken right block along its left block never leads to a lesser one; that is what it means
-- that the prices go with the pairing. So what is taken keeps its distance for good.
use Rattle.std.proofs.Common.{◌≡◌, ℕ, ◌+◌, ◌<◌, ◌≤◌, true, false, ◌⊎◌, ◌+ℤ◌, ◌≤ℤ◌, sym, ap}
use Rattle.std.proofs.Common.{IfSome, ◌∙◌, subst, inl, inr, ⊎_elim, arith}
use Rattle.std.proofs.lemmas.Int.{ints}
use Rattle.std.proofs.lemmas.Bool.{cases_eq, cases_lt}
use Rattle.blockset.specs.Has.{has}
use Rattle.pairing.specs.Grid.{at}
use Rattle.assign.specs.Search.{Graph, Pairing, Kept, Start, Course, course, Grown}

-- what the left block l, of the taken right block a, does to the right block c
pub record Eased (g : Graph) (l a : ℕ) (s s' : Course) (c : ℕ) : Type 0 where
  pub change : ((s'.dist c ≡ s.dist c) × (s'.stage c ≡ s.stage c) × (s'.via c ≡ s.via c))
      ⊎ ((g.stands l c ≡ true) × (s.stage c < 2) × (s'.stage c ≡ 1) × (s'.via c ≡ l)
      × (s'.dist c +ℤ g.cost l a ≡ s.dist a +ℤ g.cost l c))
  pub less : 1 ≤ s.stage c → s'.dist c ≤ℤ s.dist c
  pub done : g.stands l c ≡ true → s.stage c < 2 → (s'.stage c ≡ 1)
      × ((s'.dist c +ℤ g.cost l a) ≤ℤ (s.dist a +ℤ g.cost l c))

module _ {g : Graph} {q : Pairing} (kept : Kept g q) (start : Start) where
  -- nothing is taken yet
  pub started : (s : Course) → ((c : ℕ) → c < g.size → s.stage c < 2)
      → ((c : ℕ) → c < g.size → start.offer c ≡ true → s.stage c ≡ 1)
      → ((c : ℕ) → c < g.size → s.stage c ≡ 1 → IfSome start.root (λ k. s.via c ≡ k)
      × (start.offer c ≡ true) × (s.dist c ≡ start.base c))
      → Grown g q start s 0 g.size
  started s few reached from = record {
    offered = λ c h e. let m = reached c h e in let w = from c h m in
        (omega arith, omega (arith, ints, w.2));
    relaxed = λ a c ha hc m. absurd (omega (arith, few a ha));
    ordered = λ a c ha hc m. absurd (omega (arith, few a ha));
    last = λ c h x. absurd (omega arith);
    held = λ c h m. absurd (omega (arith, few c h));
    source = λ c h m. inl (from c h (omega (arith, few c h)));
    turns = λ c h. omega (arith, few c h);
  }

  -- the nearest right block a is taken
  module _ {s : Course} {t : ℕ} (grown : Grown g q start s t g.size) (a : ℕ) (stage' : ℕ → ℕ)
      (ha : a < g.size) (ma : s.stage a ≡ 1)
      (least : (c : ℕ) → c < g.size → s.stage c ≡ 1
      → (s.dist a +ℤ q.price c) ≤ℤ (s.dist c +ℤ q.price a))
      (new : stage' a ≡ t + 2) (others : (c : ℕ) → (c ≡ a → ⊥) → stage' c ≡ s.stage c) where
    up : (c : ℕ) → 1 ≤ s.stage c → 1 ≤ stage' c
    up c m = ⊎_elim (λ (e : c ≡ a). let w : stage' c ≡ stage' a = ap stage' e in omega arith)
        (λ (e : c ≡ a → ⊥). omega (arith, others c e)) (cases_eq c a)

    still : (c : ℕ) → 2 ≤ s.stage c → stage' c ≡ s.stage c
    still c m = others c (λ e. let w : s.stage c ≡ s.stage a = ap s.stage e in omega arith)

    was : (c : ℕ) → 2 ≤ stage' c → (c ≡ a) ⊎ (2 ≤ s.stage c)
    was c m = ⊎_elim (λ (e : c ≡ a). inl e) (λ (e : c ≡ a → ⊥). inr (omega (arith, others c e)))
        (cases_eq c a)

    was_one : (c : ℕ) → stage' c ≡ 1 → s.stage c ≡ 1
    was_one c m = ⊎_elim (λ (e : c ≡ a). let w : stage' c ≡ stage' a = ap stage' e in
        absurd (omega arith)) (λ (e : c ≡ a → ⊥). omega (arith, others c e)) (cases_eq c a)

    was_reached : (c : ℕ) → 1 ≤ stage' c → 1 ≤ s.stage c
    was_reached c m = ⊎_elim (λ (e : c ≡ a). let w : s.stage c ≡ s.stage a = ap s.stage e in
        omega arith) (λ (e : c ≡ a → ⊥). omega (arith, others c e)) (cases_eq c a)

    pub took : Grown g q start (course s.dist s.via stage') (t + 1) a
    took = record {
      offered = λ c h e. let w = grown.offered c h e in (up c w.0, w.1);
      relaxed = λ b c hb hc m ne st. let w = grown.relaxed b c hb hc (omega (arith, others b ne))
          (λ e. omega arith) st in (up c w.0, w.1);
      ordered = λ b c hb hc m one.
          ⊎_elim
          (λ (e : b ≡ a). let x : s.dist b ≡ s.dist a = ap s.dist e in
          let y : q.price b ≡ q.price a = ap q.price e in
          omega (arith, ints, least c hc (was_one c one)))
          (λ (e : 2 ≤ s.stage b). grown.ordered b c hb hc e (was_one c one))
          (was b m);
      last = λ c hc hx m.
          ⊎_elim
          (λ (e : c ≡ a). let x : s.dist c ≡ s.dist a = ap s.dist e in
          let y : q.price c ≡ q.price a = ap q.price e in omega (arith, ints))
          (λ (e : 2 ≤ s.stage c). grown.ordered c a hc ha e ma)
          (was c m);
      held = λ c h m ne. grown.held c h (omega (arith, others c ne)) (λ e. omega arith);
      source = λ c h m.
          let p = at q.partners (s.via c) in
          ⊎_elim inl
          (λ f. inr (
            f.0,
            f.1,
            omega (arith, still p f.2, f.2),
            f.3,
            f.4,
            λ m'. ⊎_elim
                (λ (e : c ≡ a). let w : stage' c ≡ stage' a = ap stage' e in
                omega (arith, still p f.2, grown.turns p (kept.pairs.below (s.via c) f.0 f.1)))
                (λ (e : 2 ≤ s.stage c). omega (arith, still c e, still p f.2, f.5 e))
                (was c m'),
          ))
          (grown.source c h (was_reached c m));
      turns = λ c h. ⊎_elim (λ (e : c ≡ a). let w : stage' c ≡ stage' a = ap stage' e in
          omega arith) (λ (e : c ≡ a → ⊥). omega (arith, others c e, grown.turns c h))
          (cases_eq c a);
    }

  -- the left block of the taken right block a is looked at
  module _ {s s' : Course} {t a : ℕ} (grown : Grown g q start s t a) (ha : a < g.size)
      (ma : 2 ≤ s.stage a) (oa : has q.holders.held a ≡ true)
      (r : (c : ℕ) → c < g.size → Eased g (at q.holders.owner a) a s s' c) where
    abbrev l : ℕ
    l = at q.holders.owner a

    taken : (c : ℕ) → c < g.size → 2 ≤ s.stage c
        → (s'.dist c ≡ s.dist c) × (s'.stage c ≡ s.stage c) × (s'.via c ≡ s.via c)
    taken c h m = ⊎_elim (λ w. w) (λ w. absurd (omega (arith, w.1))) (r c h).change

    was_taken : (c : ℕ) → c < g.size → 2 ≤ s'.stage c → 2 ≤ s.stage c
    was_taken c h m = ⊎_elim (λ w. omega (arith, w.1)) (λ w. absurd (omega (arith, w.2)))
        (r c h).change

    stays : (c : ℕ) → c < g.size → 1 ≤ s.stage c → 1 ≤ s'.stage c
    stays c h m = ⊎_elim (λ w. omega (arith, w.1)) (λ w. omega (arith, w.2)) (r c h).change

    own : at q.partners l ≡ a
    own = kept.holding.owner a oa

    -- what the prices say of the left block of a
    fair : (c : ℕ) → c < g.size → g.stands l c ≡ true
        → (q.price c +ℤ g.cost l a) ≤ℤ (q.price a +ℤ g.cost l c)
    fair c h st =
        let x : q.price (at q.partners l) ≡ q.price a = ap q.price own in
        let y : g.cost l (at q.partners l) ≡ g.cost l a = ap (g.cost l) own in
        omega (
          arith,
          ints,
          kept.fair l c (omega (arith, kept.holding.high a oa, kept.pairs.len))
              (kept.holding.inside a oa) h st,
        )

    pub looked : Grown g q start s' t g.size
    looked = record {
      offered = λ c h e. let w = grown.offered c h e in
          (stays c h w.0, omega (arith, ints, w.1, (r c h).less w.0));
      relaxed = λ b c hb hc m _ st.
          let mb = was_taken b hb m in
          let tb = taken b hb mb in
          ⊎_elim
          (λ (e : b ≡ a).
          let st' : g.stands l c ≡ true = subst (λ (z : ℕ). g.stands (at q.holders.owner z) c ≡
          true) e st in
          let ta = taken a ha ma in
          subst (λ (z : ℕ). (1 ≤ s'.stage c)
          × ((s'.dist c +ℤ g.cost (at q.holders.owner z) z)
          ≤ℤ (s'.dist z +ℤ g.cost (at q.holders.owner z) c)))
          (sym e)
          (⊎_elim
          (λ (low : s.stage c < 2). let w = (r c hc).done st' low in
          (omega (arith, w.0), omega (arith, ints, w.1, ta.0)))
          (λ (high : 2 ≤ s.stage c). let tc = taken c hc high in (
            omega (arith, tc.1),
            omega (
              arith,
              ints,
              fair c hc st',
              grown.last c hc ha high,
              tc.0,
              ta.0,
            ),
          ))
          (cases_lt (s.stage c) 2)))
          (λ (e : b ≡ a → ⊥). let w = grown.relaxed b c hb hc mb e st in
          (stays c hc w.0, omega (arith, ints, w.1, tb.0, (r c hc).less w.0)))
          (cases_eq b a);
      ordered = λ b c hb hc m one.
          let mb = was_taken b hb m in
          let tb = taken b hb mb in
          ⊎_elim
          (λ w. omega (arith, ints, grown.ordered b c hb hc mb (sym w.1 ∙ one), w.0, tb.0))
          (λ w. omega (arith, ints, w.4, tb.0, grown.last b hb ha mb, fair c hc w.0))
          (r c hc).change;
      last = λ c h x. absurd (omega arith);
      held = λ c h m _. ⊎_elim (λ (e : c ≡ a). subst (λ (z : ℕ). has q.holders.held z ≡ true)
          (sym e) oa) (λ (e : c ≡ a → ⊥). grown.held c h (was_taken c h m) e) (cases_eq c a);
      source = λ c h m.
          ⊎_elim
          (λ w.
          ⊎_elim
          (λ f. inl (
            subst (λ (z : ℕ). IfSome start.root (λ k. z ≡ k)) (sym w.2) f.0,
            f.1,
            w.0 ∙ f.2,
          ))
          (λ f.
          let tp = taken (at q.partners (s.via c)) (kept.pairs.below (s.via c) f.0 f.1) f.2 in
          inr (subst (λ (z : ℕ). (z < g.size) × (q.out z ≡ false)
          × (2 ≤ s'.stage (at q.partners z)) × (g.stands z c ≡ true)
          × (s'.dist c +ℤ g.cost z (at q.partners z) ≡ s'.dist (at q.partners z) +ℤ g.cost z c)
          × (2 ≤ s'.stage c → s'.stage (at q.partners z) < s'.stage c)) (sym w.2) (
            f.0,
            f.1,
            omega (arith, tp.1, f.2),
            f.3,
            omega (arith, ints, f.4, w.0, tp.0),
            λ m'. omega (arith, tp.1, w.1, f.5 (omega (arith, w.1))),
          )))
          (grown.source c h (omega (arith, w.1))))
          (λ w.
          let ta = taken a ha ma in
          inr (subst (λ (z : ℕ). (z < g.size) × (q.out z ≡ false)
          × (2 ≤ s'.stage (at q.partners z)) × (g.stands z c ≡ true)
          × (s'.dist c +ℤ g.cost z (at q.partners z) ≡ s'.dist (at q.partners z) +ℤ g.cost z c)
          × (2 ≤ s'.stage c → s'.stage (at q.partners z) < s'.stage c)) (sym w.3)
          (subst (λ (z : ℕ). (l < g.size) × (q.out l ≡ false) × (2 ≤ s'.stage z)
          × (g.stands l c ≡ true)
          × (s'.dist c +ℤ g.cost l z ≡ s'.dist z +ℤ g.cost l c)
          × (2 ≤ s'.stage c → s'.stage z < s'.stage c)) (sym own) (
            omega (arith, kept.holding.high a oa, kept.pairs.len),
            kept.holding.inside a oa,
            omega (arith, ta.1),
            w.0,
            omega (arith, ints, w.4, ta.0),
            λ m'. absurd (omega (arith, w.2)),
          ))))
          (r c h).change;
      turns = λ c h. ⊎_elim (λ w. omega (arith, w.1, grown.turns c h))
          (λ w. omega (arith, w.2, grown.turns c h)) (r c h).change;
    }
