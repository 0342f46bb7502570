-- The calls on a settled sheet: what comes of them is right by the book, and the tables go on with
-- it.
-- Idea: the needs of each call but the one that the tables hold together are the book's, and that
-- one is met where the lengths are right.
use Rattle.std.proofs.Common.{◌≡◌, ◌≢◌, ℕ, Bool, List, [], ◌∷◌, length, Some, None, Ok, Err, Option}
use Rattle.std.proofs.Common.{Result, sym, refl, ap, ◌∙◌, subst, inl, inr, arith}
use Rattle.std.specs.Prelude.{MatchOption, ⊤}
use Rattle.cost.specs.declared.Cost.{Ghosts}
use Rattle.cost.specs.Columns.{plus, minus}
use Rattle.pairing.specs.Grid.{Grid, total}
use Rattle.pairing.specs.Largest.{HasNoPerfect}
use Rattle.pairing.specs.Optima.{optima}
use Rattle.pairing.specs.Places.{places_of}
use Rattle.matching.specs.Answers.{IsNth, AreMarksOf}
use Rattle.matching.specs.declared.augmenting.Shortfall.{Shortfall}
use Rattle.tables.specs.Lent.{grid, HasLengths}
use Rattle.tables.specs.PairTables.{byte_of, says_stands, cell}
use Rattle.tables.specs.Said.{columns_at}
use Rattle.sheet.specs.declared.fault.Cause.TheVariants.{NoPerfectPairing}
use Rattle.sheet.specs.declared.fault.Fault.{Fault}
use Rattle.sheet.specs.declared.fault.Refusal.{Refusal}
use Rattle.sheet.specs.Refusals.{fault}
use Rattle.sheet.specs.Pairs.{AreBlocks}
use Rattle.sheet.specs.Size.{Sheet, size_of}
use Rattle.sheet.specs.Walking.{quote_needs, IsQuote, total_needs, marks_needs, AreMarks}
use Rattle.sheet.specs.Walking.{start_needs, Starts, IsStarted}
use Rattle.session.specs.declared.call.Act.TheVariants.{Quote, Total, Marks, Start, Reopen}
use Rattle.session.specs.Book.{Book, opened, settled, walking, stands_in, needs}
use Rattle.session.specs.Exchange.{Reply}
use Rattle.session.specs.Lists.{lengths, rests_on, the_walk}
use Rattle.session.specs.Promise.{Settling, IsQuoted}
use Rattle.session.specs.Program.{SheetAt, state_at, IsAnswered, reply_of, state_after}
use Rattle.session.proofs.Cells.{alike, stands_alike}
use Rattle.session.proofs.Fits.{fits, fits_with, blocks_decided}
use Rattle.session.proofs.Held.{Keeps, GoesOn, IsReady, SameIn, each}
use Rattle.session.proofs.Judging.{goes_on_by, refused_next, accepted_next, never_six}
use Rattle.session.proofs.Needs.{Mirror, refuses, passes}
use Rattle.session.proofs.Resting.{OneCall, n, here, book, lent_to, allowed, still, marks_alone}
use Rattle.session.proofs.Resting.{walk_alone}
use Rattle.session.proofs.Resting as rest
use Rattle.session.proofs.Walks.{goes_on}

module _ {K : Type 0} {kind : Ghosts K} {swaps : Bool} {b : Book K} {s : Settling K}
    (m : OneCall kind swaps settled b s) where
  ready : IsReady kind (n m) (book m) s m.own
  ready = m.keeps.beyond

  optima_are : HasLengths (lent_to m) → optima (grid kind (lent_to m)) ≡ optima (book m)
  optima_are = rest.optima_are m (λ table e. e) ready

  -- a call that leaves all tables
  all_stay : m.x' ≡ m.x → Keeps kind (n m) b s (here m) m.own'
  all_stay e = still m (marks_alone m.x m.x' (e ∙ ap (λ y. record m.x { marks = y.marks }) (sym e)))

  -- ---- Quote

  module _ (l r : ℕ) where
    stands_is : HasLengths (lent_to m) → AreBlocks (n m) l r
        → says_stands (byte_of (n m) m.x.standing l r) ≡ stands_in b.cells l r
    stands_is h are =
        ap (λ t. says_stands (byte_of t.size t.standing l r))
        (rest.own_lent m (λ table e. e) ready h)
        ∙ stands_alike kind (n m) b m.own.costs m.own.standing m.keeps.shows l r are.left_below
        are.right_below

    quote_mirror : Mirror (needs kind (n m) b.cells (lengths m.x) (Quote l r))
        (quote_needs kind (lent_to m) l r)
    quote_mirror = inl (
      fits (n m) m.x,
      refl,
      λ h.
          inr (
            rest.together m (λ table e. e) ready h,
            inl (
              blocks_decided (n m) l r,
              refl,
              λ are.
                  inl ((λ e. stands_is h are ∙ e, λ e. sym (stands_is h are) ∙ e), refl, λ e. tt),
            ),
          ),
    )

    quoted : (q : K × K) → HasLengths (lent_to m) → AreBlocks (n m) l r
        → IsQuote kind (lent_to m) l r q
        → IsQuoted kind (n m) (b.cells l r) s.settlement l r q
    quoted q h are is =
        let own = rest.own_lent m (λ table e. e) ready h in
        record {
          cost = sym (each kind (n m) b.cells m.own.costs m.own.standing m.keeps.shows l r
              are.left_below are.right_below)
              ∙ ap (λ t. cell kind.zero t.size t.costs t.standing l r) (sym own) ∙ is.cost;
          slack = is.slack
              ∙ ap (λ t. minus (kind.meaning q.0) (plus (columns_at kind t.left l)
              (columns_at kind t.right r))) own
              ∙ ap (λ xs. minus (kind.meaning q.0) (plus (columns_at kind xs l)
              (columns_at kind m.own.right r))) ready.left_is
              ∙ ap (λ xs. minus (kind.meaning q.0) (plus (columns_at kind s.settlement.left l)
              (columns_at kind xs r))) ready.right_is;
        }

    pub quotes : (o : Reply (K × K)) (state : SheetAt)
        → IsAnswered kind (here m) (Quote l r) o m.x m.x' state
        → GoesOn kind (n m) b s (Quote l r) (lengths m.x) o state m.own'
    quotes o state h =
        goes_on_by kind (n m) b s (Quote l r) (lengths m.x) o (here m) m.own'
        (quote_needs kind (lent_to m) l r) (λ q. q) h.0 state h.1 (IsQuote kind (lent_to m) l r) ⊤
        h.2 h.4 (allowed m (Quote l r) refl) quote_mirror (λ e. cc, (λ e. cc, (λ e. cc, tt)))
        (λ q met is. (quoted q met.0 met.1.1.0 is, all_stay h.3)) (λ _. all_stay h.3)

  -- ---- Total

  pub totals : (o : Reply K) (state : SheetAt)
      → IsAnswered kind (here m) Total o m.x m.x' state
      → GoesOn kind (n m) b s Total (lengths m.x) o state m.own'
  totals o state h =
      goes_on_by kind (n m) b s Total (lengths m.x) o (here m) m.own'
      (total_needs kind (lent_to m)) (λ sum. sum) h.0 state h.1
      (λ sum. kind.meaning sum ≡ total (grid kind (lent_to m)) m.x.partners) ⊤ h.2 h.4
      (allowed m Total refl)
      (inl (fits (n m) m.x, refl, λ long. (rest.together m (λ table e. e) ready long, tt)))
      (λ e. cc, tt)
      (λ sum met is. (
        is ∙ ap (λ t. total (grid kind t) t.partners) (rest.own_lent m (λ table e. e) ready met.0)
            ∙ (alike kind (n m) b m.own.costs m.own.standing m.keeps.shows).totals m.own.partners
            ready.together.perfect
            ∙ ap (λ p. total (book m) p) (sym ready.first.1),
        all_stay h.3,
      )) (λ _. all_stay h.3)

  -- ---- Marks

  pub marks : (o : Reply (List ℕ)) (state : SheetAt)
      → IsAnswered kind (here m) Marks o m.x m.x' state
      → GoesOn kind (n m) b s Marks (lengths m.x) o state m.own'
  marks o state h =
      let same = marks_alone m.x m.x' h.3 in
      let marked = λ (long : HasLengths (lent_to m)) (is : AreMarks kind (lent_to m) m.x'.marks).
      subst (λ ps. AreMarksOf (n m) ps m.x'.marks) (optima_are long) is.marks in
      goes_on_by kind (n m) b s Marks (lengths m.x) o (here m) m.own'
      (marks_needs kind (lent_to m) (length m.x.marks)) (λ u. m.x'.marks) h.0 state h.1
      (λ u. AreMarks kind (lent_to m) m.x'.marks) (m.x'.marks ≡ m.x.marks) h.2 h.4
      (allowed m Marks refl)
      (inl (
        fits_with (n m) m.x (length m.x.marks) (places_of (n m)),
        refl,
        λ long.
            (rest.together m (λ table e. e) ready long.0, tt),
      )) (λ e. cc, tt)
      (λ u met is. (
        record { long = is.long; marks = marked met.0.0 is },
        record {
          phase_is = m.keeps.phase_is;
          size_is = m.keeps.size_is;
          shows = (still m same).shows;
          walks = record {
            walks = m.keeps.walks.walks;
            marks = (
              subst (λ (g : Grid). AreMarksOf (n m) (optima g) m.x'.marks) (sym ready.grid_is)
                  (marked met.0.0 is),
              m.keeps.walks.marks,
            );
          };
          beyond = rest.still_ready m (λ table e. e) same ready
              (record s { marks = m.x'.marks ∷ s.marks }) refl refl;
        },
      )) (λ _. still m same)

  -- ---- Start

  module _ (same : SameIn (rests_on settled) m.x' m.x) where
    start_mirror : Mirror (needs kind (n m) b.cells (lengths m.x) Start)
        (start_needs kind (lent_to m) (length m.x.walk))
    start_mirror = inl (
      fits_with (n m) m.x (length m.x.walk) (n m),
      refl,
      λ long.
          (rest.together m (λ table e. e) ready long.0, tt),
    )

    after : (walk : Sheet) → IsStarted kind (lent_to m) m.sheet walk m.x.walk m.x'.walk
        → Keeps kind (n m) (record b { phase = walking })
        (record s { walk = Some m.x'.walk ∷ []; earlier = s.walk ∷ s.earlier })
        (state_at walking walk) m.own'
    after walk is =
        let first = subst (λ ps. IsNth ps 0 m.x'.walk) (optima_are is.met.0.0) is.first in
        record {
          phase_is = refl;
          size_is = ap size_of is.same;
          shows = (still m same).shows;
          walks = record {
            walks = (
              goes_on (optima s.grid) [] m.x'.walk tt
                  (subst (λ (g : Grid). IsNth (optima g) 0 m.x'.walk) (sym ready.grid_is) first),
              m.keeps.walks.walks,
            );
            marks = m.keeps.walks.marks;
          };
          beyond = (
            rest.still_ready m (λ table e. e) same ready
                (record s { walk = Some m.x'.walk ∷ []; earlier = s.walk ∷ s.earlier }) refl refl,
            record {
              place = 0;
              is = subst (IsNth (optima (book m)) 0) (sym ((m.hands the_walk).kept is.met.0.1))
                  first;
              as_far = omega (arith, first.0);
            },
          );
        }

    unexplained : (f : Fault) (w : Option Shortfall) → w ≡ None
        → f ≢ fault NoPerfectPairing 0
        → MatchOption w (f ≢ fault NoPerfectPairing 0)
        (λ k. (f ≡ fault NoPerfectPairing 0)
        × HasNoPerfect (n m) (stands_in b.cells) k.crowd k.short)
    unexplained f w e h = rw e h

    starts_by : (a : Result Sheet (Refusal Sheet)) (o : Reply (List ℕ))
        → o ≡ reply_of m.x'.walk a → Starts kind (lent_to m) m.sheet m.x.walk m.x'.walk a
        → GoesOn kind (n m) b s Start (lengths m.x) o (state_after walking settled a) m.own'
    starts_by (Ok walk) o eo is =
        accepted_next kind (n m) b s Start (lengths m.x) o (state_at walking walk) m.own' m.x'.walk
        eo (allowed m Start refl)
        (passes (needs kind (n m) b.cells (lengths m.x) Start)
        (start_needs kind (lent_to m) (length m.x.walk)) start_mirror is.met) tt
        (after walk is)
    starts_by (Err r) o eo is =
        let checks = needs kind (n m) b.cells (lengths m.x) Start in
        let q = refuses checks (start_needs kind (lent_to m) (length m.x.walk)) r.fault start_mirror
        is.unmet in
        refused_next kind (n m) b s Start (lengths m.x) o (state_at settled r.state) m.own' r.fault
        r.shortfall eo (allowed m Start refl) q
        (unexplained r.fault r.shortfall is.unexplained (never_six checks r.fault (λ e. cc, tt) q))
        (subst (λ (k : Sheet). Keeps kind (n m) b s (state_at settled k) m.own') (sym is.same)
        (still m same))

  pub starts : (o : Reply (List ℕ)) (state : SheetAt)
      → IsAnswered kind (here m) Start o m.x m.x' state
      → GoesOn kind (n m) b s Start (lengths m.x) o state m.own'
  starts o state h =
      subst (λ st. GoesOn kind (n m) b s Start (lengths m.x) o st m.own') (sym h.4)
      (starts_by (walk_alone m.x m.x' h.3) h.0 o h.1 h.2)

  -- ---- Reopen

  pub reopens : (o : Reply (Unit {0})) (state : SheetAt)
      → IsAnswered kind (here m) Reopen o m.x m.x' state
      → GoesOn kind (n m) b s Reopen (lengths m.x) o state m.own'
  reopens o state h =
      subst (λ st. GoesOn kind (n m) b s Reopen (lengths m.x) o st m.own') (sym h.2)
      (accepted_next kind (n m) b s Reopen (lengths m.x) o (state_at opened m.sheet) m.own' tt h.0
      (allowed m Reopen refl) refl tt (record {
        phase_is = refl;
        size_is = m.keeps.size_is;
        shows = (all_stay h.1).shows;
        walks = m.keeps.walks;
        beyond = tt;
      }))
