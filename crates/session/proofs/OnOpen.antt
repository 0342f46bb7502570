-- The calls that enter, strike and read a pair: what comes of them is right by the book, and the
-- tables go on with it.
-- Idea: the sheet's needs are the book's, since the tables hold what the book says; a call that
-- meets them was handed the sheet's own tables.
use Rattle.std.proofs.Common.{◌≡◌, ℕ, Bool, true, false, length, set, get_or, Some, None, Option}
use Rattle.std.proofs.Common.{sym, refl, ap, ◌∙◌, subst, inl, inr}
use Rattle.std.specs.Prelude.{⊤}
use Rattle.std.specs.Bool.{Decides}
use Rattle.cost.specs.declared.Cost.{Ghosts}
use Rattle.cost.specs.declared.TheConstants.{COST_LIMIT}
use Rattle.cost.specs.Columns.{AreWithin}
use Rattle.cost.specs.Readings.{worse}
use Rattle.cost.proofs.Exact.{within_tells}
use Rattle.pairing.specs.Places.{place_of}
use Rattle.tables.specs.PairTables.{HavePlaces, byte_of, says_stands, says_disturbed, cell}
use Rattle.tables.specs.PairTables.{costs_entered, standing_entered, costs_struck}
use Rattle.tables.specs.PairTables.{standing_struck}
use Rattle.tables.proofs.Cells.{place_below}
use Rattle.tables.proofs.Entering.{worse_small}
use Rattle.sheet.specs.Pairs.{AreBlocks, PairTablesAre, enter_needs, strike_needs}
use Rattle.session.specs.declared.call.Act.TheVariants.{Enter, Strike, Read}
use Rattle.session.specs.Book.{Book, opened, with_cell, stands_in, needs}
use Rattle.session.specs.Exchange.{Reply}
use Rattle.session.specs.Lists.{TableLists, lengths, rests_on, the_costs, the_standing}
use Rattle.session.specs.Promise.{Settling}
use Rattle.session.specs.Program.{SheetAt, IsAnswered, cost_in, byte_in}
use Rattle.session.proofs.Held.{Keeps, GoesOn, SameIn, each}
use Rattle.session.proofs.Cells.{stands_alike, cell_is, written_shows}
use Rattle.session.proofs.Fits.{pairs_fit, blocks_decided}
use Rattle.session.proofs.Judging.{goes_on_by}
use Rattle.session.proofs.Needs.{Mirror}
use Rattle.session.proofs.Resting.{OneCall, n, here, allowed, own_shows, still}

-- a call that leaves the pair tables as they were
pub kept_pairs : {K : Type 0} (x x' : TableLists K)
    → PairTablesAre x.costs x.standing x'.costs x'.standing → SameIn (rests_on opened) x' x
kept_pairs x x' is the_costs rests = is.costs_are
kept_pairs x x' is the_standing rests = is.standing_are
kept_pairs x x' is _ rests = cc

module _ {K : Type 0} {kind : Ghosts K} {swaps : Bool} {b : Book K} {s : Settling K}
    (m : OneCall kind swaps opened b s) (l r : ℕ) where
  -- a call that writes at the place of a pair what its new cell says
  writes : (new : Option K) → HavePlaces (n m) (length m.x.costs) (length m.x.standing)
      → AreBlocks (n m) l r
      → (says_stands (byte_in new) ≡ true
      → AreWithin COST_LIMIT (kind.meaning (cost_in kind.zero new)))
      → PairTablesAre (set m.x.costs (place_of (n m) l r) (cost_in kind.zero new))
      (set m.x.standing (place_of (n m) l r) (byte_in new)) m.x'.costs m.x'.standing
      → Keeps kind (n m) (record b { cells = with_cell b.cells l r new }) s (here m) m.own'
  writes new have are small is = record {
    phase_is = m.keeps.phase_is;
    size_is = m.keeps.size_is;
    shows = rw (
      (m.hands the_costs).kept have.costs,
      is.costs_are,
      (m.hands the_standing).kept have.standing,
      is.standing_are,
    )
        (written_shows kind (n m) b.cells m.x.costs m.x.standing (own_shows m have) l r
        are.left_below are.right_below new small);
    walks = m.keeps.walks;
    beyond = tt;
  }

  -- ---- What the sheet's own tables say of the pair

  module _ (have : HavePlaces (n m) (length m.x.costs) (length m.x.standing))
      (are : AreBlocks (n m) l r) where
    calm : says_disturbed (byte_of (n m) m.x.standing l r) ≡ false
    calm = (own_shows m have).pair_tables.in_order.bytes (place_of (n m) l r)
        (place_below (n m) l r are.left_below are.right_below)

    cell_shown : cell kind.zero (n m) m.x.costs m.x.standing l r ≡ b.cells l r
    cell_shown = each kind (n m) b.cells m.x.costs m.x.standing (own_shows m have) l r
        are.left_below are.right_below

    small_then : (reading : K) → AreWithin COST_LIMIT (kind.meaning reading)
        → AreWithin COST_LIMIT (kind.meaning (worse kind (b.cells l r) reading))
    small_then reading small =
        subst (λ c. AreWithin COST_LIMIT (kind.meaning (worse kind c reading))) cell_shown
        (worse_small kind (n m) m.x.costs m.x.standing have
        (own_shows m have).pair_tables.in_order l r are.left_below are.right_below reading small)

  -- ---- Enter

  pub enters : (cost : K) (o : Reply (Unit {0})) (state : SheetAt)
      → IsAnswered kind (here m) (Enter l r cost) o m.x m.x' state
      → GoesOn kind (n m) b s (Enter l r cost) (lengths m.x) o state m.own'
  enters cost o state h =
      goes_on_by kind (n m) b s (Enter l r cost) (lengths m.x) o (here m) m.own'
      (enter_needs kind (n m) m.x.costs m.x.standing l r cost) (λ u. u) h.0 state h.1
      (λ _. PairTablesAre (costs_entered kind (n m) l r cost m.x.costs m.x.standing)
      (standing_entered (n m) l r m.x.standing) m.x'.costs m.x'.standing)
      (PairTablesAre m.x.costs m.x.standing m.x'.costs m.x'.standing) h.2 h.4
      (allowed m (Enter l r cost) refl)
      (inl (
        pairs_fit (n m) m.x,
        refl,
        λ have. inl (
          blocks_decided (n m) l r,
          refl,
          λ are.
              inl (within_tells COST_LIMIT (kind.meaning cost), refl, λ fits. (calm have are, tt)),
        ),
      ))
      (λ e. cc, (λ e. cc, (λ e. cc, tt)))
      (λ u met is. (
        tt,
        writes (Some (worse kind (b.cells l r) cost)) met.0 met.1.0
            (λ _. small_then met.0 met.1.0 cost met.1.1.0)
            (subst (λ c. PairTablesAre (set m.x.costs (place_of (n m) l r) (worse kind c cost))
            (standing_entered (n m) l r m.x.standing) m.x'.costs m.x'.standing)
            (cell_shown met.0 met.1.0) is),
      ))
      (λ is. still m (kept_pairs m.x m.x' is))

  -- ---- Strike and read

  module _ (have : HavePlaces (n m) (length m.x.costs) (length m.x.standing))
      (are : AreBlocks (n m) l r) where
    stands_is : says_stands (byte_of (n m) m.x.standing l r) ≡ stands_in b.cells l r
    stands_is = stands_alike kind (n m) b m.x.costs m.x.standing (own_shows m have) l r
        are.left_below are.right_below

    stands_decided : Decides (stands_in b.cells l r)
        (says_stands (byte_of (n m) m.x.standing l r) ≡ true)
    stands_decided = (λ e. stands_is ∙ e, λ e. sym stands_is ∙ e)

  strike_mirror : Mirror (needs kind (n m) b.cells (lengths m.x) (Strike l r))
      (strike_needs kind (n m) m.x.costs m.x.standing l r)
  strike_mirror =
      inl (
        pairs_fit (n m) m.x,
        refl,
        λ have. inl (
          blocks_decided (n m) l r,
          refl,
          λ are.
              inr (calm have are, inl (stands_decided have are, refl, λ stands. tt)),
        ),
      )

  pub strikes : (o : Reply (Unit {0})) (state : SheetAt)
      → IsAnswered kind (here m) (Strike l r) o m.x m.x' state
      → GoesOn kind (n m) b s (Strike l r) (lengths m.x) o state m.own'
  strikes o state h =
      goes_on_by kind (n m) b s (Strike l r) (lengths m.x) o (here m) m.own'
      (strike_needs kind (n m) m.x.costs m.x.standing l r) (λ u. u) h.0 state h.1
      (λ _. PairTablesAre (costs_struck kind.zero (n m) l r m.x.costs)
      (standing_struck (n m) l r m.x.standing) m.x'.costs m.x'.standing)
      (PairTablesAre m.x.costs m.x.standing m.x'.costs m.x'.standing) h.2 h.4
      (allowed m (Strike l r) refl) strike_mirror (λ e. cc, (λ e. cc, (λ e. cc, tt)))
      (λ u met is. (tt, writes None met.0 met.1.0 (λ (e : false ≡ true). cc) is))
      (λ is. still m (kept_pairs m.x m.x' is))

  pub reads : (o : Reply K) (state : SheetAt)
      → IsAnswered kind (here m) (Read l r) o m.x m.x' state
      → GoesOn kind (n m) b s (Read l r) (lengths m.x) o state m.own'
  reads o state h =
      let same = still m (kept_pairs m.x m.x' (record {
        costs_are = ap (λ y. y.costs) h.3;
        standing_are = ap (λ y. y.standing) h.3;
      })) in
      goes_on_by kind (n m) b s (Read l r) (lengths m.x) o (here m) m.own'
      (strike_needs kind (n m) m.x.costs m.x.standing l r) (λ c. c) h.0 state h.1
      (λ cost. cost ≡ get_or m.x.costs (place_of (n m) l r) kind.zero) ⊤ h.2 h.4
      (allowed m (Read l r) refl) strike_mirror (λ e. cc, (λ e. cc, (λ e. cc, tt)))
      (λ cost met is. (
        cell_is kind (n m) b m.x.costs m.x.standing (own_shows m met.0) l r met.1.0.left_below
            met.1.0.right_below met.1.1.1.0 ∙ ap Some (sym is),
        same,
      ))
      (λ _. same)
