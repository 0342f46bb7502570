-- Lines that are appended one after another.
-- Idea: texts that are made of equal pieces are equal; and what is appended where there was memory
-- for it is there.
use Rattle.std.proofs.Common.{◌≡◌, ℕ, zero, suc, ◌<◌, cond, List, ◌++◌, Ok, Err, Result, OnOk}
use Rattle.std.proofs.Common.{◌+◌, refl, ap, ◌∙◌, add-one, append_assoc, arith}
use Rattle.std.specs.Result.{is_ok}
use Rattle.refusal_words.specs.Lines.{up_to}

pub up_same : (k : ℕ) (f g : ℕ → List ℕ) → ((i : ℕ) → i < k → f i ≡ g i) → up_to k f ≡ up_to k g
up_same zero f g e = refl
up_same (suc k) f g e = ap (λ t. t ++ f k) (up_same k f g (λ i h. e i (omega arith)))
    ∙ ap (λ t. up_to k g ++ t) (e k (omega arith))

-- a text that was appended to, where there was memory for it, is what it was to become
pub written : {E : Type 0} (r : Result (Unit {0}) E) (text text' added whole : List ℕ)
    → text' ≡ cond (is_ok r) (text ++ added) text → (text' ≡ text ++ added → text' ≡ whole)
    → OnOk r (text' ≡ whole)
written (Ok x) text text' added whole e f = f e
written (Err x) text text' added whole e f = tt

-- a text that was appended to twice, the second time where there was memory for it
pub appended : {E : Type 0} (r : Result (Unit {0}) E) (old first second text text' : List ℕ)
    → text ≡ old ++ first → OnOk r (text' ≡ text ++ second)
    → OnOk r (text' ≡ old ++ (first ++ second))
appended (Ok x) old first second text text' e h =
    h ∙ ap (λ t. t ++ second) e ∙ append_assoc old first second
appended (Err x) old first second text text' e h = tt

-- a text of pieces has one more, and a text between a first and a last line is whole
module _ (old text text' : List ℕ) where
  pub up_to_more : (k : ℕ) (f : ℕ → List ℕ) → text ≡ old ++ up_to k f → text' ≡ text ++ f k
      → text' ≡ old ++ up_to (k + 1) f
  up_to_more k f e e' =
      rw add-one (e' ∙ ap (λ t. t ++ f k) e ∙ append_assoc old (up_to k f) (f k))

  pub enclosed : (head body last : List ℕ) → text ≡ (old ++ head) ++ body → text' ≡ text ++ last
      → text' ≡ old ++ (head ++ (body ++ last))
  enclosed head body last e e' = e' ∙ ap (λ t. t ++ last) e
      ∙ append_assoc (old ++ head) body last ∙ append_assoc old head (body ++ last)
