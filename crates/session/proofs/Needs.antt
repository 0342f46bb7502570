-- The checks of the book are those that a call of the sheet makes by its needs.
-- Idea: each check refuses exactly where the need of the same place is not met, so the first check
-- that holds is that of the first need that is not met. A need that follows from those before it is
-- none of the book's.
use Rattle.std.proofs.Common.{◌≡◌, Bool, not, List, [], ◌∷◌, Some, None, sym, refl, ap, ◌∙◌, inl}
use Rattle.std.proofs.Common.{inr, ◌⊎◌}
use Rattle.std.specs.Bool.{Decides}
use Rattle.std.proofs.lemmas.Bool.{cond-true, cond-false}
use Rattle.std.proofs.lemmas.Bool.Decides.{Decides-not}
use Rattle.sheet.specs.declared.fault.Cause.{Cause}
use Rattle.sheet.specs.declared.fault.Fault.{Fault}
use Rattle.sheet.specs.Needs.{Needs, need, nothing, AreMet, IsFirstUnmet}
use Rattle.sheet.specs.Refusals.{fault}
use Rattle.session.specs.Book.{refusal_by}

-- each check decides the need at its place, and refuses for its cause; a need without a check is
-- met
abbrev pub Mirror : List (Bool × Cause) → Needs → Type 0
Mirror [] nothing = Unit {0}
Mirror (c ∷ cs) nothing = ⊥
Mirror [] (need Need cause more) = Need × Mirror [] more
Mirror (c ∷ cs) (need Need cause more) =
    (Decides c.0 Need × (c.1 ≡ cause) × (Need → Mirror cs more)) ⊎ (Need × Mirror (c ∷ cs) more)

pub refuses : (cs : List (Bool × Cause)) (needs : Needs) (f : Fault) → Mirror cs needs
    → IsFirstUnmet needs f → refusal_by cs ≡ Some f
refuses [] nothing f m u = absurd u
refuses (c ∷ cs) nothing f m u = absurd m
refuses [] (need Need cause more) f m (inl u) = absurd (u.0 m.0)
refuses [] (need Need cause more) f m (inr u) = refuses [] more f m.1 u.1
refuses (c ∷ cs) (need Need cause more) f (inl m) (inl u) =
    cond-true (not c.0) (Some (fault c.1 0)) (refusal_by cs)
    ((Decides-not {P = Need} c.0 m.0).1 u.0) ∙ ap (λ k. Some (fault k 0)) m.1 ∙ ap Some (sym u.1)
refuses (c ∷ cs) (need Need cause more) f (inl m) (inr u) =
    cond-false (not c.0) (Some (fault c.1 0)) (refusal_by cs)
    (ap not (m.0.1 u.0)) ∙ refuses cs more f (m.2 u.0) u.1
refuses (c ∷ cs) (need Need cause more) f (inr m) (inl u) = absurd (u.0 m.0)
refuses (c ∷ cs) (need Need cause more) f (inr m) (inr u) = refuses (c ∷ cs) more f m.1 u.1

pub passes : (cs : List (Bool × Cause)) (needs : Needs) → Mirror cs needs → AreMet needs
    → refusal_by cs ≡ None
passes [] nothing m u = refl
passes (c ∷ cs) nothing m u = absurd m
passes [] (need Need cause more) m u = passes [] more m.1 u.1
passes (c ∷ cs) (need Need cause more) (inl m) u =
    cond-false (not c.0) (Some (fault c.1 0)) (refusal_by cs)
    (ap not (m.0.1 u.0)) ∙ passes cs more (m.2 u.0) u.1
passes (c ∷ cs) (need Need cause more) (inr m) u = passes (c ∷ cs) more m.1 u.1
