-- The call that settles: what comes of it is right by the book, and the tables go on with it.
-- Idea: where the lengths are right, the tables' grid is the book's inside, so the two have the
-- same perfect and optimum pairings, the same greatest prices and the same crowd set.
use Rattle.std.proofs.Common.{◌≡◌, ◌≢◌, ℕ, Bool, List, length, Some, None, Ok}
use Rattle.std.proofs.Common.{Err, Option, Result, sym, refl, ap, ◌∙◌, subst, inl, inr, ⊎_elim, ltb}
use Rattle.std.specs.Prelude.{MatchOption}
use Rattle.std.specs.Bool.{Decides}
use Rattle.cost.specs.declared.Cost.{Ghosts}
use Rattle.pairing.specs.Grid.{Grid, IsPerfectIn}
use Rattle.pairing.specs.Largest.{HasNoPerfect}
use Rattle.pairing.specs.Optima.{optima}
use Rattle.pairing.specs.Theorems.{AreAlikeInside}
use Rattle.pairing.proofs.Listing.{perfects_are}
use Rattle.matching.specs.Answers.{IsNth}
use Rattle.matching.specs.declared.augmenting.Shortfall.{Shortfall}
use Rattle.tables.specs.Lent.{grid, HasLengths}
use Rattle.tables.specs.Together.{HoldTogether}
use Rattle.sheet.specs.declared.fault.Cause.TheVariants.{TableLength, NoPerfectPairing}
use Rattle.sheet.specs.declared.fault.Cause.{Cause}
use Rattle.sheet.specs.declared.fault.Fault.{Fault}
use Rattle.sheet.specs.declared.fault.Refusal.{Refusal}
use Rattle.sheet.specs.Refusals.{fault}
use Rattle.sheet.specs.Settling.{settle_needs, Settles, IsSettled, IsUnsettled, Explains}
use Rattle.sheet.specs.Size.{Sheet, size_of}
use Rattle.session.specs.declared.call.Act.TheVariants.{Settle}
use Rattle.session.specs.Book.{Book, opened, settled, stands_in, has_perfect, needs}
use Rattle.session.specs.Exchange.{Settlement, Reply}
use Rattle.session.specs.Lists.{lengths, lent_of, the_costs, the_standing, the_partners, the_left}
use Rattle.session.specs.Lists.{the_right}
use Rattle.session.specs.Promise.{Settling, IsSettlement, settling_of}
use Rattle.session.specs.Program.{SheetAt, state_at, IsAnswered, reply_of, settlement_in}
use Rattle.session.specs.Program.{state_after}
use Rattle.session.proofs.Cells.{alike}
use Rattle.session.proofs.Fits.{fits}
use Rattle.session.proofs.Held.{Shows, Keeps, GoesOn, lent_is, shows_same}
use Rattle.session.proofs.Judging.{refused_next, accepted_next}
use Rattle.session.proofs.Needs.{Mirror, refuses, passes}
use Rattle.session.proofs.OnOpen.{kept_pairs}
use Rattle.session.proofs.Resting.{OneCall, n, here, book, lent_to, allowed, own_shows, still}

-- some pairing is perfect exactly if the list of them has one
pub perfect_decided : (g : Grid)
    → Decides (has_perfect g.size g.stands) ((p : List ℕ) × IsPerfectIn g p)
perfect_decided g = (perfects_are g.size g.stands).some

module _ {K : Type 0} {kind : Ghosts K} {swaps : Bool} {b : Book K} {s : Settling K}
    (m : OneCall kind swaps opened b s) where
  -- where the lengths are right, the call is handed the sheet's own pair tables
  shown : HasLengths (lent_to m) → Shows kind (n m) b.cells m.x.costs m.x.standing
  shown h = own_shows m
      (record { costs = h.room.costs_long; standing = h.room.standing_long })

  same : HasLengths (lent_to m) → AreAlikeInside (grid kind (lent_to m)) (book m)
  same h = alike kind (n m) b m.x.costs m.x.standing (shown h)

  -- the book tests for a perfect pairing of the tables' grid
  paired : HasLengths (lent_to m) → Decides (has_perfect (n m) (stands_in b.cells))
      ((p : List ℕ) × IsPerfectIn (grid kind (lent_to m)) p)
  paired h = subst (λ ps. Decides (ltb 0 (length ps))
      ((p : List ℕ) × IsPerfectIn (grid kind (lent_to m)) p)) (same h).perfects
      (perfect_decided (grid kind (lent_to m)))

  abbrev checks : List (Bool × Cause)
  checks = needs kind (n m) b.cells (lengths m.x) Settle

  mirror : Mirror checks (settle_needs kind (lent_to m))
  mirror = inl (
    fits (n m) m.x,
    refl,
    λ h. inr (
      (shown h).pair_tables.in_order,
      inl (paired h, refl, λ p. tt),
    ),
  )

  module _ (costs_stay : m.x'.costs ≡ m.x.costs) (standing_stays : m.x'.standing ≡ m.x.standing)
    where
      -- ---- Settled
      module _ (sheet' : Sheet)
          (is : IsSettled kind m.sheet sheet' (lent_to m) (lent_of (n m) m.x')) where
        long : HasLengths (lent_to m)
        long = is.met.0

        own_new : lent_of (n m) m.own' ≡ lent_of (n m) m.x'
        own_new = lent_is (n m) m.x' m.own' ((m.hands the_costs).kept long.room.costs_long)
            ((m.hands the_standing).kept long.room.standing_long)
            ((m.hands the_partners).kept long.partners_long)
            ((m.hands the_left).kept long.room.left_long)
            ((m.hands the_right).kept long.room.right_long)

        new_shown : Shows kind (n m) b.cells m.x'.costs m.x'.standing
        new_shown = shows_same kind (n m) m.x m.x' b.cells costs_stay standing_stays (shown long)

        new_same : AreAlikeInside (grid kind (lent_of (n m) m.x')) (book m)
        new_same = alike kind (n m) b m.x'.costs m.x'.standing new_shown

        first : IsNth (optima (book m)) 0 m.x'.partners
        first = subst (λ ps. IsNth ps 0 m.x'.partners) new_same.optima is.tables.first

        settlement : IsSettlement kind (n m) (book m) (settlement_in m.x')
        settlement = record {
          first = first;
          partners_long = is.together.perfect.len;
          greatest = (new_same.greatest _ _ m.x'.partners is.together.perfect).0
              is.tables.prices.greatest;
          left_long = is.together.left_prices.long;
          right_long = is.together.right_prices.long;
          left_near = is.tables.prices.left_near;
          right_near = is.tables.prices.right_near;
        }

        after : Keeps kind (n m) (record b { phase = settled })
            (settling_of kind (n m) (book m) (settlement_in m.x')) (state_at settled sheet') m.own'
        after = record {
          phase_is = refl;
          size_is = ap size_of is.same;
          shows = shows_same kind (n m) m.x' m.own' b.cells (ap (λ l. l.costs) own_new)
              (ap (λ l. l.standing) own_new) new_shown;
          walks = record { walks = (tt, tt); marks = tt };
          beyond = record {
            grid_is = refl;
            left_is = ap (λ l. l.left) own_new;
            right_is = ap (λ l. l.right) own_new;
            first = subst (IsNth (optima (book m)) 0) (sym (ap (λ l. l.partners) own_new)) first;
            together = subst (HoldTogether kind) (sym own_new) is.together;
          };
        }

      -- ---- Not settled
      module _ (r : Refusal Sheet)
          (is : IsUnsettled kind m.sheet r (lent_to m) (lent_of (n m) m.x')) where
        long_if_unpaired : r.fault ≡ fault NoPerfectPairing 0 → HasLengths (lent_to m)
        long_if_unpaired e = ⊎_elim
            (λ u. let c : TableLength ≡ NoPerfectPairing =
            ap (λ (f : Fault). f.cause) (sym u.1 ∙ e) in
            absurd (let z : ⊥ = cc in z))
            (λ u. u.0) is.unmet

        explains : (w : Option Shortfall) → Explains kind (lent_to m) r.fault w
            → MatchOption w (r.fault ≢ fault NoPerfectPairing 0)
            (λ k. (r.fault ≡ fault NoPerfectPairing 0)
            × HasNoPerfect (n m) (stands_in b.cells) k.crowd k.short)
        explains None e = e
        explains (Some k) e =
            (e.0, ((same (long_if_unpaired e.0)).unpaired k.crowd k.short).0 e.1)

      settles_by : (a : Result Sheet (Refusal Sheet)) (o : Reply (Settlement K))
          → o ≡ reply_of (settlement_in m.x') a
          → Settles kind m.sheet (lent_to m) (lent_of (n m) m.x') a
          → GoesOn kind (n m) b s Settle (lengths m.x) o (state_after settled opened a) m.own'
      settles_by (Ok sheet') o eo is =
          accepted_next kind (n m) b s Settle (lengths m.x) o (state_at settled sheet') m.own'
          (settlement_in m.x') eo (allowed m Settle refl)
          (passes checks (settle_needs kind (lent_to m)) mirror is.met) (settlement sheet' is)
          (after sheet' is)
      settles_by (Err r) o eo is =
          refused_next kind (n m) b s Settle (lengths m.x) o (state_at opened r.state) m.own'
          r.fault r.shortfall eo (allowed m Settle refl)
          (refuses checks (settle_needs kind (lent_to m)) r.fault mirror is.unmet)
          (explains r is r.shortfall is.explained)
          (subst (λ (k : Sheet). Keeps kind (n m) b s (state_at opened k) m.own') (sym is.same)
          (still m (kept_pairs m.x m.x'
          (record { costs_are = costs_stay; standing_are = standing_stays }))))

  pub settles : (o : Reply (Settlement K)) (state : SheetAt)
      → IsAnswered kind (here m) Settle o m.x m.x' state
      → GoesOn kind (n m) b s Settle (lengths m.x) o state m.own'
  settles o state h =
      subst (λ st. GoesOn kind (n m) b s Settle (lengths m.x) o st m.own') (sym h.4)
      (settles_by (ap (λ y. y.costs) h.3) (ap (λ y. y.standing) h.3) h.0 o h.1 h.2)
