-- A pairing at the front of a buffer of bytes.
-- Idea: the right blocks of a perfect pairing of at most 64 blocks a plane are bytes, and what is
-- written to the front leaves the bytes behind it where they are.
use Rattle.std.proofs.Common.{◌≡◌, ℕ, ◌<◌, ◌≤◌, Bool, List, ◌++◌, length, get_or, take, drop}
use Rattle.std.proofs.Common.{ap, ◌∙◌, subst, arith}
use Rattle.std.proofs.lemmas.List.{get_or_default, take_at, drop_at, length-append, length-drop}
use Rattle.blockset.specs.declared.TheConstants.{MOST_BLOCKS}
use Rattle.pairing.specs.Grid.{IsPerfect}

pub are_bytes : (n : ℕ) (stands : ℕ → ℕ → Bool) (p : List ℕ) → n ≤ MOST_BLOCKS
    → IsPerfect n stands p → (k d : ℕ) → k < length p → get_or p k d < 256
are_bytes n stands p few h k d hk =
    let below = h.below k (omega (arith, hk, h.len)) in
    subst (λ b. b < 256) (get_or_default p k 0 d hk) (omega (arith, below, few))

module _ (n : ℕ) (q out out' : List ℕ) (long : length q ≡ n)
    (e : out' ≡ q ++ drop (length q) out) where
  pub front : take n out' ≡ q
  front = ap (take n) e ∙ take_at q (drop (length q) out) n long

  pub behind : drop n out' ≡ drop n out
  behind = ap (drop n) e ∙ drop_at q (drop (length q) out) n long ∙ ap (λ k. drop k out) long

  pub as_long : n ≤ length out → length out' ≡ length out
  as_long room = ap length e ∙ length-append q (drop (length q) out)
      ∙ omega (arith, long, room, length-drop (length q) out)
