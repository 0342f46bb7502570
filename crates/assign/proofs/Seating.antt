-- A left block takes a right block from whoever has it.
-- Idea: a right block has one left block at most. So only that one is left out now, no other left
-- block has the right block, and the new left block, which was left out, had none.
use Rattle.std.proofs.Common.{◌≡◌, ℕ, ◌<◌, Bool, true, false, not, ◌&&◌, ◌||◌, eqb, List, length}
use Rattle.std.proofs.Common.{arith}
use Rattle.std.proofs.lemmas.Bool.Decides.{nat_tests}
use Rattle.blockset.specs.Has.{has}
use Rattle.pairing.specs.Grid.{at}
use Rattle.matching.specs.declared.chains.Holders.{Holders}
use Rattle.matching.specs.Exchange.{AreHolders}

-- a block that a set with c in it does not have is not c, and was not there before
pub not_inserted : (C D : ℕ → Bool) (c : ℕ) → ((j : ℕ) → D j ≡ (eqb j c || C j)) → (j : ℕ)
    → D j ≡ false → (C j ≡ false) × (j ≡ c → ⊥)
not_inserted C D c is j f = (grind (arith, nat_tests, is j), λ e. grind (arith, nat_tests, is j))

-- left block l, which is left out, gets right block c, and the left block that had it is left out
module _ {out : ℕ → Bool} {p : List ℕ} {o : Holders} (told : AreHolders 0 p out o)
    (l c : ℕ) (room : l < length p) (left_out : out l ≡ true) (mine : has o.held c ≡ true)
    (out' : ℕ → Bool)
    (ousted : (j : ℕ) → out' j ≡ (eqb j (at o.owner c) || (out j && not (eqb j l)))) (p' : List ℕ)
    (long : length p' ≡ length p) (gets : at p' l ≡ c)
    (others : (m : ℕ) → (m ≡ l → ⊥) → at p' m ≡ at p m) (o' : Holders)
    (inserted : (j : ℕ) → has o'.held j ≡ (eqb j c || has o.held j)) (new : at o'.owner c ≡ l)
    (rest : (j : ℕ) → (j ≡ c → ⊥) → at o'.owner j ≡ at o.owner j) where
  pub seated_told : AreHolders 0 p' out' o'
  seated_told = record {
    all = λ m _ h f. grind (arith, nat_tests);
    low = λ j _. omega arith;
    high = λ j t. grind (arith, nat_tests);
    inside = λ j t. grind (arith, nat_tests, ousted (at o'.owner j), told.owner c);
    owner = λ j t. grind (arith, nat_tests, others (at o.owner j));
  }
