-- A walk hands out a list in turn, and goes on by one answer.
-- Idea: by recursion, a walk follows the list: a pairing where one is left, else `End`. That is
-- what taking the first answers of the list with `End` for ever behind it comes to, so the short
-- form follows by an induction over the walk.
use Rattle.std.proofs.Common.{◌≡◌, ℕ, zero, suc, ◌≤◌, true, List, [], ◌∷◌, ◌++◌, length, take, map}
use Rattle.std.proofs.Common.{replicate, Some, None, Option, sym, refl, ap, ap₂, arith}
use Rattle.matching.specs.Answers.{IsNth}
use Rattle.session.specs.Promise.{HandsOut, has_ended, pairings_of}

-- the pairings of the list in turn, and `End` exactly from when none is left
abbrev pub InTurn : List (List ℕ) → List (Option (List ℕ)) → Type 0
InTurn pairings [] = Unit {0}
InTurn (p ∷ pairings) (Some q ∷ walk) = (q ≡ p) × InTurn pairings walk
InTurn [] (None ∷ walk) = InTurn [] walk
InTurn (p ∷ pairings) (None ∷ walk) = ⊥
InTurn [] (Some q ∷ walk) = ⊥

-- on to the next pairing of the list
pub goes_on : (ps : List (List ℕ)) (walk : List (Option (List ℕ))) (p : List ℕ) → InTurn ps walk
    → IsNth ps (length walk) p → InTurn ps (walk ++ Some p ∷ [])
goes_on [] walk p h i = absurd (omega (arith, i.0))
goes_on (q ∷ ps) [] p h i = (sym i.1, tt)
goes_on (q ∷ ps) (None ∷ walk) p h i = absurd h
goes_on (q ∷ ps) (Some x ∷ walk) p h i =
    (h.0, goes_on ps walk p h.1 (omega (arith, i.0), i.1))

-- none is left
pub ends : (ps : List (List ℕ)) (walk : List (Option (List ℕ))) → InTurn ps walk
    → length ps ≤ length walk → InTurn ps (walk ++ None ∷ [])
ends [] [] h i = tt
ends [] (None ∷ walk) h i = ends [] walk h (omega arith)
ends [] (Some x ∷ walk) h i = absurd h
ends (q ∷ ps) [] h i = absurd (omega (arith, i))
ends (q ∷ ps) (None ∷ walk) h i = absurd h
ends (q ∷ ps) (Some x ∷ walk) h i = (h.0, ends ps walk h.1 (omega (arith, i)))

-- a walk that was carried to its end handed out the whole list
pub ended_whole : (ps : List (List ℕ)) (walk : List (Option (List ℕ))) → InTurn ps walk
    → has_ended walk ≡ true → pairings_of walk ≡ ps
ended_whole [] [] h e = refl
ended_whole [] (None ∷ walk) h e = none_more walk h
  where
    none_more : (walk : List (Option (List ℕ))) → InTurn [] walk → pairings_of walk ≡ []
    none_more [] h = refl
    none_more (None ∷ walk) h = none_more walk h
    none_more (Some x ∷ walk) h = absurd h
ended_whole [] (Some x ∷ walk) h e = absurd h
ended_whole (q ∷ ps) [] h e = cc
ended_whole (q ∷ ps) (None ∷ walk) h e = absurd h
ended_whole (q ∷ ps) (Some x ∷ walk) h e = ap₂ (λ y ys. y ∷ ys) h.0 (ended_whole ps walk h.1 e)

taken : (ps : List (List ℕ)) (walk : List (Option (List ℕ))) (k : ℕ) → length walk ≤ k
    → InTurn ps walk → walk ≡ take (length walk) (map Some ps ++ replicate k None)
taken ps [] k i h = refl
taken (p ∷ ps) (Some q ∷ walk) k i h =
    ap₂ (λ y ys. y ∷ ys) (ap Some h.0) (taken ps walk k (omega arith) h.1)
taken [] (None ∷ walk) zero i h = absurd (omega arith)
taken [] (None ∷ walk) (suc k) i h =
    ap (λ ys. None ∷ ys) (taken [] walk k (omega arith) h)
taken (p ∷ ps) (None ∷ walk) k i h = absurd h
taken [] (Some q ∷ walk) k i h = absurd h

pub hands_out : (ps : List (List ℕ)) (walk : List (Option (List ℕ))) → InTurn ps walk
    → HandsOut ps walk
hands_out ps walk h = taken ps walk (length walk) (omega arith) h
