-- The number's bits and the block's own bit where it is wanted, and no bit where it is not.
use Rattle.std.proofs.Common.{◌≡◌, ℕ, ◌<◌, ◌*◌, ◌%◌, ◌^◌, Bool, true, false, ◌&&◌, ◌||◌, eqb, ltb}
use Rattle.std.proofs.Common.{ap, ◌∙◌, refl, zero-mul, arith}
use Rattle.std.proofs.Math.Bool.{or_comm}
use mir.Val.{bool_byte}
use Rattle.std.proofs.lemmas.Bool.Decides.{nat_tests}
use Rattle.std.proofs.lemmas.Nat.{one_shl}
use Rattle.blockset.specs.declared.TheConstants.{SET_WIDTH}
use Rattle.blockset.specs.Sets.{bit}
use Rattle.blockset.specs.Has.{has}
use Rattle.blockset.proofs.Bits.{bit-or, bit-pow, bit-zero}
use Rattle.blockset.proofs.BlockSet.insert_if.Goals as goal

-- a block below 64 needs no bound of its own
inside : (j block : ℕ) (wanted held : Bool) → block < SET_WIDTH
    → (ltb j SET_WIDTH && ((wanted && eqb j block) || held))
    ≡ ((wanted && eqb j block) || (ltb j SET_WIDTH && held))
inside j block wanted held h = grind (arith, nat_tests)

-- the bits of the number that is put in
bit_wanted : (wanted : Bool) (number block j : ℕ) → block < SET_WIDTH → number ≡ bool_byte wanted
    → bit (number * 2 ^ block % 2 ^ 64) j ≡ (wanted && eqb j block)
bit_wanted true number block j h e =
    ap (λ x. bit (x * 2 ^ block % 2 ^ 64) j) e ∙ ap (λ m. bit m j) (one_shl block SET_WIDTH h)
    ∙ bit-pow block j
bit_wanted false number block j h e =
    let none : number * 2 ^ block % 2 ^ 64 ≡ 0 = rw (e, zero-mul) refl in
    ap (λ m. bit m j) none ∙ bit-zero j

pub returns : goal.returns
unfolding has
returns c j =
    let a = c.args.self.now.0 in
    let wanted = c.args.wanted in
    let block = c.args.block in
    let own = c.from.result * 2 ^ block % 2 ^ 64 in
    ap (λ x. ltb j SET_WIDTH && x)
    (bit-or a own j
    ∙ ap (λ x. bit a j || x) (bit_wanted wanted c.from.result block j c.requires c.from.ensures)
    ∙ or_comm (bit a j) (wanted && eqb j block))
    ∙ inside j block wanted (bit a j) c.requires
