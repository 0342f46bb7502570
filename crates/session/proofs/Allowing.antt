-- A state has the calls that the code tells apart there, and no other.
-- Idea: by cases of what a call asks for, and of the state.
use Rattle.std.proofs.Common.{◌≡◌, ℕ, true, false, refl}
use Rattle.session.specs.declared.call.Act.{Act}
use Rattle.session.specs.declared.call.Act.TheVariants.{Enter, Strike, Read, Settle, Quote, Total}
use Rattle.session.specs.declared.call.Act.TheVariants.{Marks, Start, Next, Close, Reopen}
use Rattle.session.specs.Book.{Phase, opened, settled, walking, same_phase, allows}

-- the test that two states are one tells that they are
pub phase_told : (p q : Phase) → same_phase p q ≡ true → p ≡ q
phase_told opened opened e = refl
phase_told settled settled e = refl
phase_told walking walking e = refl
phase_told _ _ e = cc

pub open_allows : {K : Type 0} (act : Act K)
    → ((l r : ℕ) (c : K) → act ≡ Enter l r c → ⊥)
    → ((l r : ℕ) → act ≡ Strike l r → ⊥)
    → ((l r : ℕ) → act ≡ Read l r → ⊥)
    → (act ≡ Settle → ⊥)
    → allows opened act ≡ false
open_allows (Enter l r c) not_enter _ _ _ = absurd (not_enter l r c refl)
open_allows (Strike l r) _ not_strike _ _ = absurd (not_strike l r refl)
open_allows (Read l r) _ _ not_read _ = absurd (not_read l r refl)
open_allows Settle _ _ _ not_settle = absurd (not_settle refl)
open_allows _ _ _ _ _ = refl

pub settled_allows : {K : Type 0} (act : Act K)
    → ((l r : ℕ) → act ≡ Quote l r → ⊥)
    → (act ≡ Total → ⊥)
    → (act ≡ Marks → ⊥)
    → (act ≡ Start → ⊥)
    → (act ≡ Reopen → ⊥)
    → allows settled act ≡ false
settled_allows (Quote l r) not_quote _ _ _ _ = absurd (not_quote l r refl)
settled_allows Total _ not_total _ _ _ = absurd (not_total refl)
settled_allows Marks _ _ not_marks _ _ = absurd (not_marks refl)
settled_allows Start _ _ _ not_start _ = absurd (not_start refl)
settled_allows Reopen _ _ _ _ not_reopen = absurd (not_reopen refl)
settled_allows _ _ _ _ _ _ = refl

pub walk_allows : {K : Type 0} (act : Act K)
    → (act ≡ Next → ⊥)
    → (act ≡ Close → ⊥)
    → allows walking act ≡ false
walk_allows Next not_next _ = absurd (not_next refl)
walk_allows Close _ not_close = absurd (not_close refl)
walk_allows _ _ _ = refl
