-- The number's bits without the block's own; where there is no such bit, the number is not in the
-- set.
use Rattle.std.proofs.Common.{◌≡◌, ℕ, ◌-◌, ◌^◌, ◌<◌, ◌≤◌, Bool, true, false, not, ◌&&◌, eqb, ltb}
use Rattle.std.proofs.Common.{refl, ap, ◌∙◌, inl, inr, arith}
use lib.Bits.{bit_and}
use lib.Pow.{pow-lt}
use Rattle.std.proofs.lemmas.Nat.{one_shl}
use Rattle.std.proofs.lemmas.Bool.{cases_Bool}
use Rattle.std.proofs.lemmas.Bool.Decides.{nat_tests}
use Rattle.blockset.specs.declared.TheConstants.{SET_WIDTH}
use Rattle.blockset.specs.Sets.{bit}
use Rattle.blockset.specs.Has.{has}
use Rattle.blockset.specs.declared.BlockSet.{BlockSet}
use Rattle.blockset.proofs.Bits.{bit-minus, bit-pow}
use Rattle.blockset.proofs.Holding.{has_block, by_bits}
use Rattle.blockset.proofs.BlockSet.remove.Goals as goal

-- a test need not be asked twice
asked_once : (t a b : Bool) → ((t && a) && not (t && b)) ≡ ((t && a) && not b)
asked_once true a b = refl
asked_once false a b = refl

pub returns-then-block-lt-SET_WIDTH : goal.returns-then-block-lt-SET_WIDTH
unfolding has
returns-then-block-lt-SET_WIDTH c j =
    let a = c.args.self.now.0 in
    let i = c.args.block in
    let inside = c.if-block-lt-SET_WIDTH.true in
    ap (λ m. ltb j SET_WIDTH && bit (bit_and a (2 ^ 64 - 1 - m)) j) (one_shl i SET_WIDTH inside)
    ∙ by_bits (λ x y. x && not y) a (2 ^ i) _ refl
    (λ k h. bit-minus 64 a (2 ^ i) k (pow-lt inside) h) j
    ∙ asked_once (ltb j SET_WIDTH) (bit a j) (bit (2 ^ i) j)
    ∙ ap (λ x. (ltb j SET_WIDTH && bit a j) && not x) (bit-pow i j)

no_block : (s : BlockSet) (i j : ℕ) → SET_WIDTH ≤ i → has s j ≡ (has s j && not (eqb j i))
no_block s i j h = elim (cases_Bool (has s j)) [
  | inl t ↦ let low : j < SET_WIDTH = has_block s j t in let e : eqb j i ≡ false =
      grind (arith, nat_tests) in grind arith
  | inr f ↦ grind arith
]

pub returns-else-block-lt-SET_WIDTH : goal.returns-else-block-lt-SET_WIDTH
returns-else-block-lt-SET_WIDTH c j =
    no_block c.args.self.now c.args.block j c.if-block-lt-SET_WIDTH.false
