-- Which pairings are largest, which left blocks some largest pairing leaves out, and how many right
-- blocks they are short of.
-- Idea: let X be the left blocks reached from those left out, and Y the right blocks that stand
-- with any of X. If some block of Y is free, filling it pairs one left block more. If not, all of Y
-- is held within X, so X has just as many blocks more than Y as are left out. Every pairing leaves
-- at least so many of X out, since what it pairs of X takes different blocks of Y. So ours is
-- largest, and a pairing that leaves no more out than ours leaves only blocks of X out. And each
-- block of X can be left out: free its right block, and fill that.
use Rattle.std.proofs.Common.{◌≡◌, ℕ, zero, suc, ◌+◌, ◌-◌, ◌<◌, ◌≤◌, Bool, true, false, not, ◌&&◌}
use Rattle.std.proofs.Common.{◌||◌, eqb, leb, ◌⊎◌, ◌↔◌, List, replicate, Decides, sym, refl, ap}
use Rattle.std.proofs.Common.{◌∙◌, inl, inr, arith}
use Rattle.std.proofs.Math.Bool.{and_comm}
use Rattle.std.proofs.lemmas.List.{length-replicate}
use Rattle.std.proofs.lemmas.Bool.Decides.{Decides-like, same_from_decides}
use Rattle.std.proofs.lemmas.Bool.{cases_Bool, or_left, or_right, and_parts, and_from, eqb-true}
use Rattle.std.proofs.lemmas.Bool.{eq-eqb, ne_eqb, both_ways, true≢false, not-true, not_from_false}
use Rattle.std.proofs.lemmas.Bool.{leb-true, leb-false, le-leb}
use Rattle.blockset.specs.Sets.{members}
use Rattle.blockset.proofs.Members.{members_like, members_with, members_without, members_split}
use Rattle.blockset.proofs.Members.{members_none, members_no, inject_le, inject_below}
use Rattle.pairing.specs.Grid.{at, IsPerfect}
use Rattle.pairing.specs.Largest.{IsPartial, IsLargest, IsInCrowd, IsCrowdSet, around}
use Rattle.pairing.specs.Chains.{IsReached, free, onward, IsHeld, IsStuck, IsShut}
use Rattle.pairing.specs.Theorems.{LeavesOut, Hall, LargestIfStuck, ShortBy}
use Rattle.pairing.proofs.Members.{some_below, some_tells, some_two, pairs_and_out}
use Rattle.pairing.proofs.Closures.{Closure, closure, reached_all}
use Rattle.pairing.proofs.Filling.{fill}

-- ---- the bound from a set of left blocks that stand with few right blocks

module _ (n : ℕ) (stands : ℕ → ℕ → Bool) (X Y : ℕ → Bool) (shut : IsShut n stands X Y) (q : List ℕ)
    (G : ℕ → Bool) (g : IsPartial n stands q G) where
  kept : (l : ℕ) → (X l && not (G l)) ≡ true → (X l ≡ true) × (G l ≡ false)
  kept l t = let b = and_parts (X l) (not (G l)) t in (b.0, not-true (G l) b.1)

  -- what a pairing pairs of X takes different blocks of Y
  paired_le : members n (λ l. X l && not (G l)) ≤ members n Y
  paired_le = inject_le n n (λ l. X l && not (G l)) Y (λ l _. at q l)
      (λ l t h. let k = kept l t in
      (g.below l h k.1, shut l (at q l) h (g.below l h k.1) k.0 (g.standing l h k.1)))
      (λ l m t s h j e. g.once l m h j (kept l t).1 (kept m s).1 e)

  pub left_out_le : members n X ≤ members n Y + members n (λ l. X l && G l)
  left_out_le = omega (arith, members_split n X G, paired_le)

  pub out_of_set : members n (λ l. X l && G l) ≤ members n G
  out_of_set = omega (
    arith,
    members_split n G X,
    members_like n (λ l. X l && G l) (λ l. G l && X l)
        (λ l _. and_comm (G l) (X l)),
  )

pub leaves_out : (many few least : ℕ) → least ≡ many - few → LeavesOut many few least
leaves_out many few least is = record {
  is = is;
  bound = λ n stands X Y shut e f q G g.
      let a = left_out_le n stands X Y shut q G g in
      let b = out_of_set n stands X Y shut q G g in
      let c : least ≤ members n (λ l. X l && G l) = omega arith in
      (c, omega (arith, pairs_and_out n G));
}

-- a perfect pairing leaves nothing out
pub perfect_partial : (n : ℕ) (stands : ℕ → ℕ → Bool) (q : List ℕ) → IsPerfect n stands q
    → IsPartial n stands q (λ _. false)
perfect_partial n stands q h = record {
  len = h.len;
  below = λ l i _. h.below l i;
  standing =
      λ l i _. h.standing l i;
  once = λ l m i j _ _. h.once l m i j;
}

-- and a pairing that leaves nothing out is perfect
pub partial_perfect : (n : ℕ) (stands : ℕ → ℕ → Bool) (q : List ℕ) (out : ℕ → Bool)
    → IsPartial n stands q out → ((l : ℕ) → l < n → out l ≡ false) → IsPerfect n stands q
partial_perfect n stands q out h f = record {
  len = h.len;
  below = λ l i. h.below l i (f l i);
  standing = λ l i. h.standing l i (f l i);
  once = λ l m i j. h.once l m i j (f l i) (f m j);
}

-- so too few right blocks stand with X for a perfect pairing
too_few : (n : ℕ) (stands : ℕ → ℕ → Bool) (X Y : ℕ → Bool) → IsShut n stands X Y
    → members n Y < members n X → (q : List ℕ) → IsPerfect n stands q → ⊥
too_few n stands X Y shut less q h =
    let g = perfect_partial n stands q h in
    omega (
      arith,
      members_no n,
      left_out_le n stands X Y shut q (λ _. false) g,
      out_of_set n stands X Y shut q (λ _. false) g,
    )

-- ---- the left blocks that are reached

apart_by : (A : ℕ → Bool) (x y : ℕ) → A x ≡ false → A y ≡ true → x ≡ y → ⊥
apart_by A x y f t e = both_ways (A x) f (ap A e ∙ t)

pub reached_inside : (n : ℕ) (stands : ℕ → ℕ → Bool) (p : List ℕ) (out : ℕ → Bool) (l : ℕ)
    → IsReached n stands p out l → l < n
reached_inside n stands p out _ (free l i t) = i
reached_inside n stands p out _ (onward l m w i f t) = i

pub around_tells : (n : ℕ) (stands : ℕ → ℕ → Bool) (X : ℕ → Bool) (r : ℕ)
    → Decides (around n stands X r) ((l : ℕ) × (l < n) × (X l ≡ true) × (stands l r ≡ true))
around_tells n stands X r =
    let d = some_tells n (λ l. X l && stands l r) in (
      λ e. let w = d.0 e in let b = and_parts (X w.0) (stands w.0 r) w.2 in (w.0, w.1, b.0, b.1),
      λ w. d.1 (w.0, w.1, and_from _ _ w.2 w.3),
    )

module _ (n : ℕ) (stands : ℕ → ℕ → Bool) where
  fewest : (p : List ℕ) (out : ℕ → Bool) → IsLargest n stands p out → (q : List ℕ) (G : ℕ → Bool)
      → IsPartial n stands q G → members n out ≤ members n G
  fewest p out h q G g = omega (arith, h.most q G g, pairs_and_out n out, pairs_and_out n G)

  largest_from : (p : List ℕ) (out : ℕ → Bool) → IsPartial n stands p out
      → ((q : List ℕ) (G : ℕ → Bool) → IsPartial n stands q G → members n out ≤ members n G)
      → IsLargest n stands p out
  largest_from p out part few =
      record {
        part = part;
        most =
            λ q G g. omega (arith, few q G g, pairs_and_out n out, pairs_and_out n G);
      }

  -- some left block has r
  is_held : (p : List ℕ) (out : ℕ → Bool) (r : ℕ) → Bool
  is_held p out r = some_below n (λ x. not (out x) && eqb (at p x) r)

  held_tells : (p : List ℕ) (out : ℕ → Bool) (r : ℕ) → Decides (is_held p out r) (IsHeld n p out r)
  unfolding is_held
  held_tells p out r =
      let d = some_tells n (λ x. not (out x) && eqb (at p x) r) in (
        λ e. let w = d.0 e in let b = and_parts (not (out w.0)) (eqb (at p w.0) r) w.2 in
            (w.0, w.1, not-true (out w.0) b.0, eqb-true (at p w.0) r b.1),
        λ w. d.1 (w.0, w.1, and_from _ _ (not_from_false (out w.0) w.2) (eq-eqb (at p w.0) r w.3)),
      )

module _ (n : ℕ) (stands : ℕ → ℕ → Bool) (p : List ℕ) (out : ℕ → Bool)
    (part : IsPartial n stands p out) where
  -- a step from a left block to the one whose right block it stands with
  edge : ℕ → ℕ → Bool
  edge m x = not (out x) && stands m (at p x)

  edge_parts : (m x : ℕ) → edge m x ≡ true → (out x ≡ false) × (stands m (at p x) ≡ true)
  unfolding edge
  edge_parts m x e = let b = and_parts (not (out x)) (stands m (at p x)) e in
      (not-true (out x) b.0, b.1)

  edge_from : (m x : ℕ) → out x ≡ false → stands m (at p x) ≡ true → edge m x ≡ true
  unfolding edge
  edge_from m x f t = and_from (not (out x)) (stands m (at p x)) (not_from_false (out x) f) t

  -- what is reached, with a shorter way back from each
  found : (D : ℕ → Bool) × (rank : ℕ → ℕ) × Closure n out edge D rank
  found = closure n out edge

  D : ℕ → Bool
  D = found.0

  rank : ℕ → ℕ
  rank = found.1

  is : Closure n out edge D rank
  unfolding D rank
  is = found.2

  reached_in : (l : ℕ) → IsReached n stands p out l → D l ≡ true
  reached_in _ (free l i t) = is.has l i t
  reached_in _ (onward l m w i f t) = is.closed l m (reached_inside n stands p out l w) i
      (reached_in l w) (edge_from l m f t)

  in_reached : (l : ℕ) → l < n → D l ≡ true → IsReached n stands p out l
  in_reached l i d =
      reached_all n out edge D rank is (IsReached n stands p out) (λ y j s. free y j s)
      (λ x y i j w e. let b = edge_parts x y e in onward x y w j b.0 b.1) (suc (rank l)) l i
      (omega arith) d

  -- the way back, while the left blocks of F are left out
  back : (F : ℕ → Bool) (top : ℕ) → ((x : ℕ) → rank x < top → out x ≡ false → F x ≡ false)
      → (x : ℕ) → x < n → D x ≡ true → rank x < top
      → (out x ≡ true)
      ⊎ ((F x ≡ false) × ((m : ℕ) × (m < n) × (D m ≡ true) × (stands m (at p x) ≡ true)
      × (rank m < rank x)))
  back F top less x i d low = elim (is.back x i d) [
    | inl s ↦ inl s
    | inr w ↦ let b = edge_parts w.0 x w.3 in inr (less x low b.0, (w.0, w.1, w.2, b.1, w.4))
  ]

  -- the exchange along an augmenting path, from its end l and r on: one more pair, of a left block
  -- f that was left out
  pub augmented : (l r : ℕ) → IsReached n stands p out l → r < n → stands l r ≡ true
      → ((x : ℕ) → x < n → out x ≡ false → at p x ≡ r → ⊥)
      → (q : List ℕ) × (f : ℕ) × (f < n) × (out f ≡ true)
      × IsPartial n stands q (λ x. out x && not (eqb x f))
  augmented l r w j t unheld =
      fill n stands p out out D rank (suc (rank l)) (back out (suc (rank l)) (λ x _ f. f))
      (suc (rank l)) p r l
      (record {
        part = part;
        inside = j;
        free = unheld;
        taker = reached_inside n stands p out l w;
        wants = t;
        member = reached_in l w;
        under = omega arith;
        ahead = λ x _ _. refl;
      }) (omega arith)

  -- a reached left block is left out by a pairing that leaves as many out
  loosen : (l : ℕ) → l < n → D l ≡ true → (q : List ℕ) × (out' : ℕ → Bool)
      × IsPartial n stands q out' × (members n out' ≡ members n out) × (out' l ≡ true)
  loosen l i d =
      let F : ℕ → Bool = λ x. eqb x l || out x in
      let less : (x : ℕ) → rank x < rank l → out x ≡ false → F x ≡ false = λ x low f. let ne =
      ne_eqb x l (λ e. omega (arith, ap rank e)) in grind arith in
      elim (is.back l i d) [
        | inl t ↦ (p, out, part, refl, t)
        | inr w ↦
            let b = edge_parts w.0 l w.3 in
            let small : (x : ℕ) → F x ≡ false → (out x ≡ false) × (x ≡ l → ⊥) =
            λ x f. (
              grind arith,
              λ e. both_ways (F x) f
                  (or_left (eqb x l) (out x) (eq-eqb x l e)),
            ) in
            let q = fill n stands p out F D rank (rank l) (back F (rank l) less) (suc (rank w.0))
            p (at p l) w.0 (record {
              part = record {
                len = part.len;
                below = λ x j f. part.below x j (small x f).0;
                standing = λ x j f. part.standing x j (small x f).0;
                once = λ x y j k f e. part.once x y j k (small x f).0 (small y e).0;
              };
              inside = part.below l i b.0;
              free = λ x j f e. (small x f).1 (part.once x l j i (small x f).0 b.0 e);
              taker = w.1;
              wants = b.1;
              member = w.2;
              under = w.4;
              ahead = λ x _ _. refl;
            }) (omega arith) in
            let f = q.1 in
            let apart : l ≡ f → ⊥ = apart_by out l f b.0 q.3 in
            let up : members n F ≡ suc (members n out) = members_with n out F l i b.0
            (λ j. refl) in
            let down = members_without n F f q.2 (or_right (eqb f l) (out f) q.3) in (
              q.0,
              λ x. F x && not (eqb x f),
              q.4,
              omega arith,
              let e = eq-eqb l l refl in let s =
                  ne_eqb l f apart in grind arith,
            )
      ]

  -- ---- where no free right block is left

  module _ (stuck : IsStuck n stands p out) where
    Y : ℕ → Bool
    Y = around n stands D

    shut : IsShut n stands D Y
    unfolding Y
    shut l r i j d t = (around_tells n stands D r).1 (l, i, d, t)

    -- each block of Y is a reached left block's
    holder : (r : ℕ) → r < n → Y r ≡ true → (m : ℕ) × (m < n) × (out m ≡ false) × (at p m ≡ r)
        × (D m ≡ true)
    unfolding Y
    holder r j y =
        let w = (around_tells n stands D r).0 y in
        let h = stuck w.0 r (in_reached w.0 w.1 w.2) j w.3 in (
          h.0,
          h.1,
          h.2,
          h.3,
          is.closed w.0 h.0 w.1 h.1 w.2
              (edge_from w.0 h.0 h.2 (ap (stands w.0) h.3 ∙ w.3)),
        )

    held_le : members n Y ≤ members n (λ l. D l && not (out l))
    held_le = inject_below n n Y (λ l. D l && not (out l)) (λ r j y. (holder r j y).0)
        (λ r j y. let h = holder r j y in
        (h.1, and_from _ _ h.4 (not_from_false (out h.0) h.2)))
        (λ r s i j y z e. sym (holder r i y).3 ∙ ap (at p) e ∙ (holder s j z).3)

    out_in : (l : ℕ) → l < n → (D l && out l) ≡ out l
    out_in l i =
        elim (cases_Bool (out l)) [
          | inl t ↦ (let d = is.has l i t in grind arith)
          | inr f ↦
              grind arith
        ]

    short : members n D ≡ members n Y + members n out
    short = omega (
      arith,
      members_split n D out,
      members_like n out (λ l. D l && out l) out_in,
      held_le,
      left_out_le n stands D Y shut p out part,
    )

    most : (q : List ℕ) (G : ℕ → Bool) → IsPartial n stands q G → members n out ≤ members n G
    most q G g =
        omega (
          arith,
          short,
          left_out_le n stands D Y shut q G g,
          out_of_set n stands D Y shut q G
              g,
        )

    only_reached : (q : List ℕ) (G : ℕ → Bool) → IsPartial n stands q G
        → members n G ≤ members n out → (l : ℕ) → l < n → G l ≡ true → D l ≡ true
    only_reached q G g le l i t =
        let none = members_none n (λ l. G l && not (D l))
        (omega (
          arith,
          short,
          left_out_le n stands D Y shut q G g,
          members_split n G D,
          members_like n (λ l. D l && G l) (λ l. G l && D l) (λ l _. and_comm (G l) (D l)),
        )) l i
        in
        grind arith

  -- ---- where one is left, or not

  pub stuck_largest : IsStuck n stands p out → IsLargest n stands p out
  stuck_largest s = largest_from n stands p out part (most s)

  -- a chain that ends at r, which is free: a pairing that leaves one fewer out
  larger : (l r : ℕ) → IsReached n stands p out l → r < n → stands l r ≡ true
      → is_held n stands p out r ≡ false
      → (q : List ℕ) × (out' : ℕ → Bool) × IsPartial n stands q out'
      × (members n out ≡ suc (members n out'))
  larger l r w j t e =
      let v = augmented l r w j t
      (λ x k f s. both_ways _ e ((held_tells n stands p out r).1 (x, k, f, s))) in
      (v.0, λ x. out x && not (eqb x v.1), v.4, members_without n out v.1 v.2 v.3)

  pub largest_stuck : IsLargest n stands p out → IsStuck n stands p out
  largest_stuck h l r w j t =
      elim (cases_Bool (is_held n stands p out r)) [
        | inl e ↦ (held_tells n stands p out r).0 e
        | inr e ↦ let v = larger l r w j t e in
            absurd (omega (arith, v.3, fewest n stands p out h v.0 v.1 v.2))
      ]

  -- some chain ends at a free right block, or none does
  open_step : ℕ → ℕ → Bool
  open_step l r = (D l && stands l r) && not (is_held n stands p out r)

  better_or_stuck : ((q : List ℕ) × (out' : ℕ → Bool) × IsPartial n stands q out'
      × (members n out ≡ suc (members n out'))) ⊎ IsStuck n stands p out
  unfolding open_step
  better_or_stuck = elim (some_two n open_step) [
    | inl (l, r, i, j, e) ↦
        let a = and_parts (D l && stands l r) (not (is_held n stands p out r)) e in
        let b = and_parts (D l) (stands l r) a.0 in
        inl (larger l r (in_reached l i b.0) j b.1 (not-true _ a.1))
    | inr none ↦ inr (λ l r w j t. elim (cases_Bool (is_held n stands p out r)) [
      | inl h ↦ (held_tells n stands p out r).0 h
      | inr h ↦ absurd (both_ways _ (none l r (reached_inside n stands p out l w) j)
          (and_from _ _ (and_from _ _ (reached_in l w) t) (not_from_false _ h)))
    ])
  ]

-- ---- the theorems

module _ (n : ℕ) (stands : ℕ → ℕ → Bool) where
  -- augment as long as it goes
  enlarge : (k : ℕ) (p : List ℕ) (out : ℕ → Bool) → IsPartial n stands p out → members n out < k
      → (q : List ℕ) × (out' : ℕ → Bool) × IsLargest n stands q out'
  enlarge zero p out part low = absurd (omega arith)
  enlarge (suc k) p out part low = elim (better_or_stuck n stands p out part) [
    | inl w ↦ enlarge k w.0 w.1 w.2 (omega (arith, w.3))
    | inr s ↦ (p, out, stuck_largest n stands p out part s)
  ]

  -- nothing paired
  nothing : IsPartial n stands (replicate n 0) (λ _. true)
  nothing = record {
    len = length-replicate n 0;
    below = λ l i f. absurd (true≢false f);
    standing = λ l i f. absurd (true≢false f);
    once = λ l m i j f. absurd (true≢false f);
  }

  pub largest_exists : (p : List ℕ) × (out : ℕ → Bool) × IsLargest n stands p out
  largest_exists = enlarge (suc (members n (λ _. true))) (replicate n 0) (λ _. true) nothing
      (omega arith)

module _ (n : ℕ) (stands : ℕ → ℕ → Bool) (p : List ℕ) (out : ℕ → Bool)
    (h : IsLargest n stands p out) where
  stuck : IsStuck n stands p out
  stuck = largest_stuck n stands p out h.part h

  crowd_in : (l : ℕ) → IsInCrowd n stands l → D n stands p out h.part l ≡ true
  crowd_in l w = only_reached n stands p out h.part stuck w.pairing w.out w.largest.part
      (fewest n stands w.pairing w.out w.largest p out h.part) l w.inside w.left_out

  in_crowd : (l : ℕ) → l < n → D n stands p out h.part l ≡ true → IsInCrowd n stands l
  in_crowd l i d =
      let w = loosen n stands p out h.part l i d in
      record {
        pairing = w.0;
        out = w.1;
        largest = largest_from n stands w.0 w.1 w.2
            (λ q G g. omega (arith, w.3, fewest n stands p out h q G g));
        inside = i;
        left_out = w.4;
      }

  pub reached_crowd : (l : ℕ) → IsReached n stands p out l ↔ IsInCrowd n stands l
  reached_crowd l = (
    λ w. in_crowd l (reached_inside n stands p out l w) (reached_in n stands p out h.part l w),
    λ w. in_reached n stands p out h.part l w.inside (crowd_in l w),
  )

  module _ (X : ℕ → Bool) (crowd : IsCrowdSet n stands X) where
    reached : ℕ → Bool
    reached = D n stands p out h.part

    X_is : (l : ℕ) → l < n → X l ≡ reached l
    unfolding reached
    X_is l i = same_from_decides (X l) (reached l) (crowd l) (in_crowd l i, crowd_in l)

    around_is : (r : ℕ) → r < n → around n stands X r ≡ around n stands reached r
    around_is r j = same_from_decides (around n stands X r) (around n stands reached r)
        (around_tells n stands X r)
        (Decides-like _ (λ w. (w.0, w.1, X_is w.0 w.1 ∙ w.2, w.3))
        (λ w. (w.0, w.1, sym (X_is w.0 w.1) ∙ w.2, w.3)) (around_tells n stands reached r))

    crowd_short : members n X ≡ members n (around n stands X) + members n out
    unfolding Y reached
    crowd_short = omega (
      arith,
      short n stands p out h.part stuck,
      members_like n reached X X_is,
      members_like n (around n stands reached) (around n stands X) around_is,
    )

  none_out : members n out ≡ 0 ↔ ((q : List ℕ) × IsPerfect n stands q)
  none_out = (
    λ z. (p, partial_perfect n stands p out h.part (members_none n out z)),
    λ w. omega (
      arith,
      members_no n,
      fewest n stands p out h w.0 (λ _. false) (perfect_partial n stands w.0 w.1),
    ),
  )

pub largest_if_stuck : LargestIfStuck
largest_if_stuck = record {
  exists = largest_exists;
  are = λ n stands p out part.
      (stuck_largest n stands p out part, largest_stuck n stands p out part);
}

-- where every set of left blocks stands with enough right blocks, the reached ones do, so that a
-- largest pairing leaves none out
enough : (n : ℕ) (stands : ℕ → ℕ → Bool)
    → ((X : ℕ → Bool) → members n X ≤ members n (around n stands X)) → (p : List ℕ)
    × IsPerfect n stands p
unfolding Y
enough n stands all =
    let w = largest_exists n stands in
    let part = w.2.part in
    let s = short n stands w.0 w.1 part (stuck n stands w.0 w.1 w.2) in (
      w.0,
      partial_perfect n stands w.0 w.1 part
          (members_none n w.1 (omega (arith, s, all (D n stands w.0 w.1 part)))),
    )

pub hall : (many few : ℕ) → Hall many few (leb many few)
hall many few = record {
  is = (leb-true many few, le-leb many few);
  needed = λ n stands X Y shut e f no_room. too_few n stands X Y shut
      (omega (arith, leb-false many few no_room));
  enough = enough;
}

pub short_by : ShortBy
short_by n stands p out X h crowd =
    let s = crowd_short n stands p out h X crowd in
    (omega (arith, s), s, none_out n stands p out h)
