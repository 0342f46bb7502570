-- Which pairs occur.
-- Idea: a pair occurs if exchanging along a chain brings it about: from its right block back to the
-- one that its left block has. That is a theorem on chains, and the table of leads tells the
-- chains. Since the step from the right block of a left block to any one of its row is a chain too,
-- these are just the right blocks of its row that are in one class with its own: strongly connected
-- with it.
use Rattle.std.proofs.Common.{◌≡◌, ℕ, ◌+◌, ◌<◌, ◌≤◌, Bool, true, false, if◌then◌else◌, ◌&&◌, ◌⊎◌}
use Rattle.std.proofs.Common.{rules, List, length, ◌↔◌, IsTrue, ◌∙◌, subst, inl, inr}
use Rattle.std.proofs.Common.{arith}
use borrow.Rule.Slice.PartMut.{put_mid}
use Rattle.std.proofs.lemmas.List.{places}
use Rattle.std.proofs.lemmas.Bool.Decides.{same_from_decides}
use Rattle.std.proofs.lemmas.Bool.{cases_Bool, and_parts, and_from, cond-true}
use Rattle.std.proofs.lemmas.Bool.{cond-false}
use Rattle.blockset.specs.declared.BlockSet.{BlockSet}
use Rattle.pairing.specs.Grid.{at}
use Rattle.pairing.specs.Chains.{HasChain, here, step}
use Rattle.pairing.specs.Optima.{has_pair}
use Rattle.pairing.specs.Rows.{holds, IsPerfectOver, pairings}
use Rattle.pairing.proofs.Counting.{onto}
use Rattle.pairing.proofs.Sending.{sends_if_chain}
use Rattle.pairing.proofs.Listing.{in_perfects, has_tells}
use Rattle.matching.specs.Search.{AreLeads}
use Rattle.matching.proofs.Closing.{joined}

-- ---- the class of a right block

-- the set has with a right block below n each one that chains lead to from it and back
abbrev pub IsClass : ℕ → List BlockSet → (ℕ → Bool) → Type 0
IsClass n led class = (i j : ℕ) → i < n → j < n → class i ≡ true
    → class j ≡ (holds led i j && holds led j i)

-- what is noted at a right block below n is its class, or nothing
abbrev pub AreClasses : ℕ → List BlockSet → List BlockSet → Type 0
AreClasses n led classes = (i : ℕ) → i < n
    → ((a : ℕ) → holds classes i a ≡ false)
    ⊎ ((j : ℕ) → j < n → holds classes i j ≡ (holds led i j && holds led j i))

-- a class is noted
pub classes_more : (n : ℕ) (led before after : List BlockSet) (class : ℕ → Bool)
    → IsClass n led class → AreClasses n led before
    → ((i j : ℕ) → holds after i j ≡ (if class i then class j else holds before i j))
    → AreClasses n led after
classes_more n led before after class c old is i a = elim (cases_Bool (class i)) [
  | inl t ↦ inr (λ j b. is i j ∙ cond-true (class i) _ _ t ∙ c i j a b t)
  | inr f ↦
      let stays : (j : ℕ) → holds after i j ≡ holds before i j =
      λ j. is i j ∙ cond-false (class i) _ _ f in
      elim (old i a) [ inl e ↦ inl (λ j. stays j ∙ e j) | inr e ↦ inr (λ j b. stays j ∙ e j b) ]
]

module _ (rows : List BlockSet) {p : List ℕ} (h : IsPerfectOver rows p) (led : List BlockSet)
    (leads : AreLeads rows p led) where
  abbrev Leads : ℕ → ℕ → Type 0
  Leads i j = HasChain (length rows) 0 (holds rows) p i j

  tells : (i j : ℕ) → i < length rows → j < length rows → IsTrue (holds led i j) ↔ Leads i j
  tells i j a b =
      let o = onto (length rows) (holds rows) p h i a in
      subst (λ x. (IsTrue (holds led x j) ↔ Leads x j)) o.2 (leads o.0 j o.1 b)

  lead_on : (i m j : ℕ) → i < length rows → m < length rows → j < length rows
      → holds led i m ≡ true → holds led m j ≡ true → holds led i j ≡ true
  lead_on i m j a b c t u =
      (tells i j a c).1 (joined ((tells i m a b).0 t) ((tells m j b c).0 u))

  -- that of one right block is a class, and has it
  module _ (own : ℕ) (low : own < length rows) (class : ℕ → Bool)
      (is : (j : ℕ) → class j ≡ (holds led own j && holds led j own)) where
    pub is_class : IsClass (length rows) led class
    is_class i j a b t =
        let d = is i in
        let e = is j in
        let from_i = lead_on i own j a low b in
        let from_j = lead_on j own i b low a in
        let to_j = lead_on own i j low a b in
        let to_own = lead_on j i own b a low in
        grind arith

    pub in_class : class own ≡ true
    in_class = let t = (tells own own low low).1 here in is own ∙ and_from _ _ t t

  -- the pair of l and r occurs exactly if r is in l's row and a chain leads from r to the right
  -- block that l has
  pair_occurs : (l r : ℕ) → l < length rows → r < length rows
      → (holds rows l r && holds led r (at p l)) ≡ has_pair l r (pairings rows)
  pair_occurs l r i j =
      let d = tells r (at p l) j (h.below l i) in
      let s = sends_if_chain (length rows) 0 (holds rows) p h l r (omega arith) i j in
      same_from_decides (holds rows l r && holds led r (at p l)) (has_pair l r (pairings rows)) (
        λ x.
            let a = and_parts (holds rows l r) (holds led r (at p l)) x in
            let q = s.0 (a.0, d.0 a.1) in
            (q.0, (in_perfects (length rows) (holds rows) q.0).1 q.1, q.3),
        λ x.
            let q =
            s.1 (
              x.0,
              (in_perfects (length rows) (holds rows) x.0).0 x.1,
              (λ k z. absurd (omega arith)),
              x.2,
            ) in and_from _ _ q.0 (d.1 q.1),
      ) (has_tells l r (pairings rows))

  -- what a left block has in turn is what its row has of the class of its right block
  pub class_occurs : (l r : ℕ) → l < length rows → r < length rows → (class : ℕ → Bool)
      → ((j : ℕ) → j < length rows → class j ≡ (holds led (at p l) j && holds led j (at p l)))
      → (holds rows l r && class r) ≡ has_pair l r (pairings rows)
  class_occurs l r i j class c =
      let e = c r j in
      let f = λ (u : holds rows l r ≡ true). (leads l r i j).1 (step l r (omega arith) i here u) in
      let occurs = pair_occurs l r i j in
      grind arith

-- ---- a row of the table is written

module _ (a k : ℕ) (xs ys : List ℕ) (short : a ≤ length xs) where
  pub put_before : (j : ℕ) → j < a → at (put_mid a k xs ys) j ≡ at xs j
  put_before j less = search (rules, places)

  pub put_inside : (j : ℕ) → j < length ys → at (put_mid a k xs ys) (a + j) ≡ at ys j
  put_inside j less = search (rules, places)
