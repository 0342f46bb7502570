-- What the answers of a kind do to columns that are made of two parts.
-- Idea: two lists whose first parts are equally long are gone through side by side, so each part
-- meets its own counterpart; the proofs are inductions over the first parts.
use Rattle.std.specs.Prelude.{◌≡◌, ◌≢◌, ℕ, ◌&&◌, ◌||◌, List, [], ◌∷◌, ◌++◌}
use Rattle.std.specs.Prelude.{length, ℤ, refl}
use Rattle.std.specs.declared.cmp.Ordering.TheVariants.{Less, Equal, Greater}
use Rattle.std.specs.declared.cmp.Ordering.{Ordering}
use Rattle.std.proofs.Common.{sym, ap, ◌∙◌, arith}
use Rattle.std.specs.Ordering.{ordering_then, is_lt, is_eq}
use Rattle.cost.specs.Columns.{AreWithin, columnwise, lex}
use Rattle.cost.specs.Kind.{KindLaws}
use Rattle.cost.proofs.Order.{headed, headed_then}

-- two values of one kind have equally many columns
pub same_length : {K : Type 0} {columns : ℕ} {meaning : K → List ℤ} {zero : K}
    → KindLaws columns meaning zero → (x y : K) → length (meaning x) ≡ length (meaning y)
same_length laws x y = laws.column_count x ∙ sym (laws.column_count y)

pub columnwise-append : (f : ℤ → ℤ → ℤ) (a c b d : List ℤ) → length a ≡ length c
    → columnwise f (a ++ b) (c ++ d) ≡ columnwise f a c ++ columnwise f b d
columnwise-append f [] [] b d e = refl
columnwise-append f [] (y ∷ c) b d e = absurd (omega arith)
columnwise-append f (x ∷ a) [] b d e = absurd (omega arith)
columnwise-append f (x ∷ a) (y ∷ c) b d e =
    ap (λ t. f x y ∷ t) (columnwise-append f a c b d (omega arith))

pub lex-append : (a c b d : List ℤ) → length a ≡ length c → lex (a ++ b) (c ++ d) ≡ ordering_then
    (lex a c) (lex b d)
lex-append [] [] b d e = refl
lex-append [] (y ∷ c) b d e = absurd (omega arith)
lex-append (x ∷ a) [] b d e = absurd (omega arith)
lex-append (x ∷ a) (y ∷ c) b d e =
    ap (headed x y) (lex-append a c b d (omega arith)) ∙ headed_then x y (lex a c) (lex b d)

pub then_keeps : (o p : Ordering) → (o ≢ Equal) → ordering_then o p ≡ o
then_keeps Less p h = refl
then_keeps Equal p h = absurd (h refl)
then_keeps Greater p h = refl

-- all columns are within a limit just where those of both parts are
pub within_parts : (k : ℕ) (a b : List ℤ) → AreWithin k (a ++ b) → AreWithin k a × AreWithin k b
within_parts k [] b h = (tt, h)
within_parts k (x ∷ a) b h = let rest = within_parts k a b h.1 in ((h.0, rest.0), rest.1)

-- by which side of an order is asked for: the second one counts where the first one is Equal
pub then_less : (o p : Ordering) → is_lt (ordering_then o p) ≡ (is_lt o || (is_eq o && is_lt p))
then_less Less p = refl
then_less Equal p = refl
then_less Greater p = refl
