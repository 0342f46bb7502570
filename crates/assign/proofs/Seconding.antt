-- The nearest right block of those that were looked at so far, and the nearest of the others.
-- Idea: none that was looked at but the best is nearer than the second. A new one is not nearer
-- than that either; or it becomes the second; or it becomes the best, and the best the second.
use Rattle.std.proofs.Common.{◌≡◌, ℕ, Bool, true, false, not, ◌&&◌, eqb, ℤ, ◌-ℤ◌, ◌≤ℤ◌, ◌<ℤ◌}
use Rattle.std.proofs.Common.{sym, refl, ap, subst, ⊎_elim, arith}
use Rattle.std.proofs.lemmas.Int.{ints}
use Rattle.std.proofs.lemmas.Bool.{cases_eq, cases_Bool, both_ways, and_from, not_from_false}
use Rattle.std.proofs.lemmas.Bool.{ne_eqb}
use Rattle.blockset.proofs.Removing.{still_in, gone, out_of}
use Rattle.matching.specs.Exchange.{without}
use Rattle.assign.specs.Offers.{Nearest}

module _ (set : ℕ → Bool) (v d : ℕ → ℤ) where
  -- the right blocks of rest are still to come; key and key' are those of the best and the second
  pub record Seconding (rest : ℕ → Bool) (best : ℕ) (key : ℤ) (other : ℕ) (key' : ℤ) : Type 0 where
    pub part : (c : ℕ) → rest c ≡ true → set c ≡ true
    pub member : set best ≡ true
    pub member' : set other ≡ true
    pub past : rest best ≡ false
    pub past' : rest other ≡ false
    pub apart : other ≡ best → ⊥
    pub is : key ≡ d best -ℤ v best
    pub is' : key' ≡ d other -ℤ v other
    pub order : key ≤ℤ key'
    pub least : (c : ℕ) → set c ≡ true → rest c ≡ false → (c ≡ best → ⊥) → key' ≤ℤ (d c -ℤ v c)

  -- two were taken out of the set, and none of the others was looked at
  module _ (part rest : ℕ → Bool) (a b : ℕ) (first : (j : ℕ) → part j ≡ (set j && not (eqb j a)))
      (second : (j : ℕ) → rest j ≡ (part j && not (eqb j b))) (member : set a ≡ true)
      (member' : part b ≡ true) (key key' : ℤ) (is : key ≡ d a -ℤ v a) (is' : key' ≡ d b -ℤ v b)
    where
      of_set : (c : ℕ) → rest c ≡ true → (set c ≡ true) × (c ≡ a → ⊥)
      of_set c t = still_in set part a first c (still_in part rest b second c t).0

      taken : rest a ≡ false
      taken = ⊎_elim (λ (t : rest a ≡ true). absurd ((of_set a t).1 refl))
          (λ (f : rest a ≡ false). f) (cases_Bool (rest a))

      one_of : (c : ℕ) → set c ≡ true → rest c ≡ false → (c ≡ a → ⊥) → c ≡ b
      one_of c s f ne = ⊎_elim (λ (e : c ≡ b). e)
          (λ (no : c ≡ b → ⊥). absurd
          (both_ways (set c) (gone set part a first c (gone part rest b second c f no) ne) s))
          (cases_eq c b)

      pub seconding_first : key ≤ℤ key' → Seconding rest a key b key'
      seconding_first le = record {
        part = λ c t. (of_set c t).0;
        member = member;
        member' = (still_in set part a first b member').0;
        past = taken;
        past' = out_of part rest b second;
        apart = (still_in set part a first b member').1;
        is = is;
        is' = is';
        order = le;
        least = λ c s f ne. let e = one_of c s f ne in
            let x : d c ≡ d b = ap d e in let y : v c ≡ v b = ap v e in omega (arith, ints);
      }

      pub seconding_second : key' ≤ℤ key → Seconding rest b key' a key
      seconding_second le = record {
        part = λ c t. (of_set c t).0;
        member = (still_in set part a first b member').0;
        member' = member;
        past = out_of part rest b second;
        past' = taken;
        apart = λ e. (still_in set part a first b member').1 (sym e);
        is = is';
        is' = is;
        order = le;
        least = λ c s f ne. ⊎_elim
            (λ (e : c ≡ a). let x : d c ≡ d a = ap d e in let y : v c ≡ v a = ap v e in
            omega (arith, ints))
            (λ (no : c ≡ a → ⊥). absurd (ne (one_of c s f no))) (cases_eq c a);
      }

  module _ (rest rest' : ℕ → Bool) (c : ℕ) (removed : (j : ℕ) → rest' j ≡ (rest j && not (eqb j c)))
      (in_rest : rest c ≡ true) (best : ℕ) (key : ℤ) (other : ℕ) (key' : ℤ)
      (h : Seconding rest best key other key') where
    still_past : (j : ℕ) → rest j ≡ false → rest' j ≡ false
    still_past j f = ⊎_elim
        (λ (t : rest' j ≡ true). absurd
        (both_ways (rest j) f (still_in rest rest' c removed j t).0))
        (λ (z : rest' j ≡ false). z) (cases_Bool (rest' j))

    new : (j : ℕ) → rest j ≡ false → c ≡ j → ⊥
    new j f e = both_ways (rest j) f (subst (λ (z : ℕ). rest z ≡ true) e in_rest)

    part' : (j : ℕ) → rest' j ≡ true → set j ≡ true
    part' j t = h.part j (still_in rest rest' c removed j t).0

    pub seconding_keep : key' ≤ℤ (d c -ℤ v c) → Seconding rest' best key other key'
    seconding_keep le = record {
      part = part';
      member = h.member;
      member' = h.member';
      past = still_past best h.past;
      past' = still_past other h.past';
      apart = h.apart;
      is = h.is;
      is' = h.is';
      order = h.order;
      least = λ j s f ne. ⊎_elim
          (λ (e : j ≡ c). let x : d j ≡ d c = ap d e in let y : v j ≡ v c = ap v e in
          omega (arith, ints))
          (λ (no : j ≡ c → ⊥). h.least j s (gone rest rest' c removed j f no) ne)
          (cases_eq j c);
    }

    module _ (k : ℤ) (k-is : k ≡ d c -ℤ v c) where
      -- c is the second
      pub seconding_next : k <ℤ key' → key ≤ℤ k → Seconding rest' best key c k
      seconding_next less le = record {
        part = part';
        member = h.member;
        member' = h.part c in_rest;
        past = still_past best h.past;
        past' = out_of rest rest' c removed;
        apart = new best h.past;
        is = h.is;
        is' = k-is;
        order = le;
        least = λ j s f ne. ⊎_elim
            (λ (e : j ≡ c). let x : d j ≡ d c = ap d e in let y : v j ≡ v c = ap v e in
            omega (arith, ints))
            (λ (no : j ≡ c → ⊥). omega
            (arith, ints, h.least j s (gone rest rest' c removed j f no) ne))
            (cases_eq j c);
      }

      -- c is the best
      pub seconding_best : k ≤ℤ key → Seconding rest' c k best key
      seconding_best le = record {
        part = part';
        member = h.part c in_rest;
        member' = h.member;
        past = out_of rest rest' c removed;
        past' = still_past best h.past;
        apart = λ e. new best h.past (sym e);
        is = k-is;
        is' = h.is;
        order = le;
        least = λ j s f ne. ⊎_elim
            (λ (e : j ≡ best).
            let x : d j ≡ d best = ap d e in let y : v j ≡ v best = ap v e in
            omega (arith, ints, h.is))
            (λ (no : j ≡ best → ⊥). omega
            (arith, ints, h.order, h.least j s (gone rest rest' c removed j f ne) no))
            (cases_eq j best);
      }

  module _ (rest : ℕ → Bool) (none : (c : ℕ) → rest c ≡ false) (best : ℕ) (key : ℤ) (other : ℕ)
      (key' : ℤ) (h : Seconding rest best key other key') where
    pub seconded_best : Nearest set v d best
    seconded_best = record {
      member = h.member;
      least = λ c s. ⊎_elim
          (λ (e : c ≡ best). let x : d c ≡ d best = ap d e in let y : v c ≡ v best = ap v e in
          omega (arith, ints))
          (λ (ne : c ≡ best → ⊥). omega (arith, ints, h.is, h.order, h.least c s (none c) ne))
          (cases_eq c best);
    }

    pub seconded_next : Nearest (without set best) v d other
    seconded_next = record {
      member = and_from (set other) (not (eqb other best)) h.member'
          (not_from_false (eqb other best) (ne_eqb other best h.apart));
      least = λ c s. let w = still_in set (without set best) best (λ _. refl) c s in
          omega (arith, ints, h.is', h.least c w.0 (none c) w.1);
    }
