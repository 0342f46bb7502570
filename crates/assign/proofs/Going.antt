-- What the steps of the row reduction leave of the first one.
-- Idea: the first step carries a bid out if there is one; after it right blocks stay held, and no
-- price rises.
use Rattle.std.proofs.Common.{◌≡◌, ℕ, Bool, true, false, not, ◌&&◌, List}
use Rattle.std.proofs.Common.{sym, ap, ◌∙◌, subst, ⊎_elim, arith, inl, inr}
use Rattle.std.specs.Prelude.{MatchBool}
use Rattle.std.proofs.lemmas.Int.{ints}
use Rattle.std.specs.Int.Signed.{≤ℤ_refl}
use Rattle.std.proofs.Math.Bool.{and-true}
use Rattle.cost.specs.declared.Cost.{Ghosts}
use Rattle.blockset.specs.declared.BlockSet.{BlockSet}
use Rattle.blockset.specs.Has.{has, IsEmpty, IsLeast}
use Rattle.pairing.specs.Grid.{at}
use Rattle.assign.specs.Weighed.{weight_at}
use Rattle.assign.specs.Pairs.{SoFar}
use Rattle.assign.specs.Bids.{HasNoBid, IsReduced, HasGoneOn, HasHadTurn, HasHadFirstTurn}

pub same_goes_on : {K : Type 0} (kind : Ghosts K) (now : SoFar K) → HasGoneOn kind now now
same_goes_on kind now =
    record { held = λ _ t. t; falls = λ c. ≤ℤ_refl (weight_at kind now.right c) }

pub goes_further : {K : Type 0} {kind : Ghosts K} {s s' s'' : SoFar K} → HasGoneOn kind s s'
    → HasGoneOn kind s' s'' → HasGoneOn kind s s''
goes_further one two = record {
  held = λ c t. two.held c (one.held c t);
  falls = λ c. omega (arith, ints, one.falls c, two.falls c);
}

-- two least ones are the same
least_once : (s : BlockSet) (l m : ℕ) → IsLeast s l → IsLeast s m → l ≡ m
least_once s l m a b = grind arith

-- where none is set aside, the rest is all
module _ (out aside rest : BlockSet)
    (is : (j : ℕ) → has rest j ≡ (has out j && not (has aside j))) (none : IsEmpty aside) where
  same : (j : ℕ) → has rest j ≡ has out j
  same j = is j ∙ ap (λ z. has out j && not z) (none j) ∙ and-true (has out j)

  pub least_of_all : (l : ℕ) → IsLeast rest l → IsLeast out l
  least_of_all l least = (
    least.0,
    sym (same l) ∙ least.1,
    λ j h. sym (same j) ∙ least.2 j h,
  )

  pub none_of_all : IsEmpty rest → IsEmpty out
  none_of_all empty j = sym (same j) ∙ empty j

module _ {K : Type 0} (kind : Ghosts K) (rows : List BlockSet) (costs : List K) where
  pub turn_stays : (out : BlockSet) (s s' s'' : SoFar K) → HasHadFirstTurn kind rows costs out s s'
      → HasGoneOn kind s' s'' → HasHadFirstTurn kind rows costs out s s''
  turn_stays out s s' s'' first on l least = ⊎_elim inl
      (λ b. inr (b.0, b.1, b.2, on.held b.0 b.3, omega (arith, ints, on.falls b.0, b.4)))
      (first l least)

  -- the turn of the left block that is left out first
  pub first_turn : (out : BlockSet) (s s' : SoFar K) (l : ℕ) → IsLeast out l
      → (s'.out l ≡ false → has s'.holders.held (at s'.partners l) ≡ true) → (Same : Type 0)
      → (did : Bool)
      → MatchBool did (IsReduced kind rows costs l s s') (HasNoBid kind rows costs s l × Same)
      → HasHadFirstTurn kind rows costs out s s'
  first_turn out s s' l least taken Same did step m also =
      subst (λ z. HasHadTurn kind rows costs z s s') (least_once out l m least also)
      (turn did step)
    where
      turn : (did : Bool)
          → MatchBool did (IsReduced kind rows costs l s s') (HasNoBid kind rows costs s l × Same)
          → HasHadTurn kind rows costs l s s'
      turn true done = inr (
        done.block,
        weight_at kind s'.right done.block,
        done.bid,
        ap (has s'.holders.held) (sym done.seated.gets) ∙ taken done.seated.paired,
        ≤ℤ_refl (weight_at kind s'.right done.block),
      )
      turn false none = inl none.0
