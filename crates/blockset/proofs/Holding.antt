-- Membership against the bits of the set's number.
-- Idea: below 64 both say the same, and from 64 on a number of 64 bits has no bit, as a set has no
-- block.
use Rattle.std.proofs.Common.{◌≡◌, ℕ, ◌^◌, ◌<◌, Bool, true, false, ◌&&◌, ltb, sym}
use Rattle.std.proofs.Common.{ap, ◌∙◌, inl, inr}
use Rattle.std.proofs.lemmas.Bool.{cases_lt, lt-ltb, le-ltb, ltb-true, and_parts}
use Rattle.blockset.specs.declared.TheConstants.{SET_WIDTH}
use Rattle.blockset.specs.Sets.{bit}
use Rattle.blockset.specs.Has.{has}
use Rattle.blockset.specs.declared.BlockSet.{BlockSet}
use Rattle.blockset.proofs.Bits.{bit_past}

pub has-bit : (s : BlockSet) (j : ℕ) → s.0 < 2 ^ 64 → has s j ≡ bit s.0 j
unfolding has
has-bit s j h = elim (cases_lt j SET_WIDTH) [
  | inl l ↦ ap (λ b. b && bit s.0 j) (lt-ltb j SET_WIDTH l)
  | inr l ↦ ap (λ b. b && bit s.0 j) (le-ltb j SET_WIDTH l) ∙ sym (bit_past SET_WIDTH s.0 j h l)
]

-- what is in a set is a block
pub has_block : (s : BlockSet) (j : ℕ) → has s j ≡ true → j < SET_WIDTH
unfolding has
has_block s j t = ltb-true j SET_WIDTH (and_parts (ltb j SET_WIDTH) (bit s.0 j) t).0

-- what an operation does bit by bit it does block by block
pub by_bits : (f : Bool → Bool → Bool) (a b m : ℕ) → f false false ≡ false
    → ((i : ℕ) → i < SET_WIDTH → bit m i ≡ f (bit a i) (bit b i)) → (j : ℕ)
    → (ltb j SET_WIDTH && bit m j) ≡ f (ltb j SET_WIDTH && bit a j) (ltb j SET_WIDTH && bit b j)
by_bits f a b m none each j = elim (cases_lt j SET_WIDTH) [
  | inl l ↦ rw (lt-ltb j SET_WIDTH l) (each j l)
  | inr l ↦ rw (le-ltb j SET_WIDTH l) (sym none)
]
