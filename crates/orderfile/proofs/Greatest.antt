-- What pairs state of two blocks is the greatest cost that they name for them.
-- Idea: the greater of two costs is one of them, and both are at most it. So along the pairs, from
-- the last one to the first, the greater of a pair's cost and of the greatest behind it is the
-- greatest of all of them.
use Rattle.std.proofs.Common.{◌≡◌, ℕ, zero, suc, ◌<◌, ◌≤◌, Bool, true, false, ◌⊎◌, List, [], ◌∷◌}
use Rattle.std.proofs.Common.{length, ℤ, Some, None, Option, Contains, slice_index_or, unsigned_abs}
use Rattle.std.proofs.Common.{if◌then◌else◌, sym, refl, ap, ◌∙◌, subst, inl, inr, ⊎_elim, arith}
use Rattle.std.proofs.lemmas.Bool.{cases_Bool, cases_cond, true≢false}
use Rattle.std.proofs.lemmas.Int.{ints, clamps}
use Rattle.std.specs.Prelude.{◌≤ℤ◌, int_lt}
use Rattle.std.specs.Int.{int_max}
use Rattle.std.specs.Int.Signed.{≤ℤ_refl}
use Rattle.cost.specs.declared.TheConstants.{COST_LIMIT}
use Rattle.orderfile.specs.declared.record.StatedPair.{StatedPair}
use Rattle.orderfile.specs.Format.{PairFits}
use Rattle.orderfile.specs.Loading.{names_blocks, greater, stated_cost, IsGreatestNamed}
use Rattle.orderfile.specs.Loading.{StateGreatest}

-- ---- The greater of two costs, of which each may be missing

pub greater_none : (a : Option ℤ) → greater a None ≡ a
greater_none None = refl
greater_none (Some x) = refl

pub greater_assoc : (a b c : Option ℤ) → greater (greater a b) c ≡ greater a (greater b c)
greater_assoc None b c = refl
greater_assoc (Some x) None c = refl
greater_assoc (Some x) (Some y) None = refl
greater_assoc (Some x) (Some y) (Some z) = ap Some (omega (arith, ints, clamps))

-- it is one of them
greater_one : (a b : Option ℤ) (z : ℤ) → greater a b ≡ Some z → (a ≡ Some z) ⊎ (b ≡ Some z)
greater_one None b z e = inr e
greater_one (Some x) None z e = inl e
greater_one (Some x) (Some y) z e =
    let same : z ≡ int_max x y = cc in
    ⊎_elim (λ first. inl (ap Some (sym first))) (λ second. inr (ap Some (sym second)))
    (cases_cond (int_lt y x) x y z same)

-- within the limit, if there is one
abbrev pub IsSmall : Option ℤ → Type 0
IsSmall a = (z : ℤ) → a ≡ Some z → unsigned_abs z ≤ COST_LIMIT

pub greater_small : (a b : Option ℤ) → IsSmall a → IsSmall b → IsSmall (greater a b)
greater_small a b first second z e = ⊎_elim (first z) (second z) (greater_one a b z e)

-- ---- What one pair names

-- for left block l and right block r
abbrev pub named : ℕ → ℕ → StatedPair → Option ℤ
named l r p = if names_blocks l r p then Some p.cost else None

named_if : {n : ℕ} {p : StatedPair} → PairFits n p → (here : Bool)
    → IsSmall (if here then Some p.cost else None)
named_if {p = p} fits true z e =
    let same : p.cost ≡ z = cc in subst (λ x. unsigned_abs x ≤ COST_LIMIT) same fits.cost_within
named_if fits false z e = cc

pub named_small : {n : ℕ} {p : StatedPair} → PairFits n p → (l r : ℕ) → IsSmall (named l r p)
named_small {p = p} fits l r = named_if fits (names_blocks l r p)

-- ---- The greatest that pairs name

-- a pair before others
module _ (l r : ℕ) (p : StatedPair) (ps : List StatedPair) where
  first_of_them : Contains (p ∷ ps) p
  first_of_them = (zero, omega arith, refl)

  behind_it : (q : StatedPair) → Contains ps q → Contains (p ∷ ps) q
  behind_it q i = (suc i.0, omega (arith, i.1), i.2)

  first_or_behind : (q : StatedPair) (k : ℕ) → k < length (p ∷ ps)
      → slice_index_or (p ∷ ps) k q ≡ q → (p ≡ q) ⊎ Contains ps q
  first_or_behind q zero h e = inl e
  first_or_behind q (suc k) h e = inr (k, omega (arith, h), e)

  -- it is of the two blocks
  names_more : (rest : Option ℤ) → names_blocks l r p ≡ true → IsGreatestNamed l r ps rest
      → IsGreatestNamed l r (p ∷ ps) (greater (Some p.cost) rest)
  names_more None yes' h = (
    (p, first_of_them, yes', refl),
    λ q i named. ⊎_elim
        (λ same. subst (λ x. x.cost ≤ℤ p.cost) same (≤ℤ_refl p.cost))
        (λ behind. absurd (true≢false (sym named ∙ h q behind)))
        (first_or_behind q i.0 i.1 i.2),
  )
  names_more (Some cost) yes' h = (
    ⊎_elim (λ e. (p, first_of_them, yes', sym e))
        (λ e. (h.0.0, behind_it h.0.0 h.0.1, h.0.2, h.0.3 ∙ sym e))
        (cases_cond (int_lt cost p.cost) p.cost cost (int_max p.cost cost) refl),
    λ q i named. ⊎_elim
        (λ same. subst (λ x. x.cost ≤ℤ int_max p.cost cost) same (omega (arith, ints, clamps)))
        (λ behind. let least = h.1 q behind named in omega (arith, ints, clamps))
        (first_or_behind q i.0 i.1 i.2),
  )

  -- or of others
  others_more : (rest : Option ℤ) → names_blocks l r p ≡ false → IsGreatestNamed l r ps rest
      → IsGreatestNamed l r (p ∷ ps) rest
  others_more None no' h = λ q i. ⊎_elim
      (λ same. subst (λ x. names_blocks l r x ≡ false) same no') (h q)
      (first_or_behind q i.0 i.1 i.2)
  others_more (Some cost) no' h = (
    (h.0.0, behind_it h.0.0 h.0.1, h.0.2, h.0.3),
    λ q i named. ⊎_elim
        (λ same. absurd (true≢false (sym named
        ∙ subst (λ x. names_blocks l r x ≡ false) same no')))
        (λ behind. h.1 q behind named)
        (first_or_behind q i.0 i.1 i.2),
  )

pub states_greatest : StateGreatest
states_greatest [] l r = λ p i. absurd (omega (arith, i.1))
states_greatest (p ∷ ps) l r =
    let rest = stated_cost ps l r in
    let behind = states_greatest ps l r in
    ⊎_elim (λ yes'. rw yes' (names_more l r p ps rest yes' behind))
    (λ no'. rw no' (others_more l r p ps rest no' behind))
    (cases_Bool (names_blocks l r p))
