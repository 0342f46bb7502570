-- The calls on a walk: what comes of them is right by the book, and the tables go on with it.
-- Idea: the walk list is the pairing that was handed out last, which stands at one place of the
-- list of all optimum pairings; so the sheet's step from it is the walk's own next answer.
use Rattle.std.proofs.Common.{◌≡◌, ℕ, ◌+◌, ◌≤◌, Bool, List, [], ◌∷◌, ◌++◌, length, Some, None}
use Rattle.std.proofs.Common.{Option, sym, refl, ap, ◌∙◌, subst, inl, ⊎_elim, arith}
use Rattle.std.proofs.lemmas.Bool.{cases_order}
use Rattle.std.proofs.lemmas.List.{length-append}
use Rattle.cost.specs.declared.Cost.{Ghosts}
use Rattle.pairing.specs.Grid.{Grid, IsOptimum}
use Rattle.pairing.specs.Optima.{optima}
use Rattle.pairing.proofs.Listing.{optima_are}
use Rattle.matching.specs.Answers.{IsNth}
use Rattle.matching.specs.declared.stepping.Step.{Step}
use Rattle.matching.specs.declared.stepping.Step.TheVariants.{Next as Onward, End}
use Rattle.matching.proofs.Nth.{nth_optimum}
use Rattle.tables.specs.Lent.{grid, HasLengths}
use Rattle.sheet.specs.Walking.{next_needs, IsStep}
use Rattle.session.specs.declared.call.Act.TheVariants.{Next, Close}
use Rattle.session.specs.Book.{Book, settled, walking}
use Rattle.session.specs.Exchange.{Reply}
use Rattle.session.specs.Lists.{lengths, rests_on, the_walk}
use Rattle.session.specs.Promise.{Settling}
use Rattle.session.specs.Program.{SheetAt, state_at, IsAnswered, pairing_by}
use Rattle.session.proofs.Fits.{fits_with}
use Rattle.session.proofs.Held.{AtPlace, HasWalksInTurn, IsReady, Keeps, GoesOn, SameIn}
use Rattle.session.proofs.Judging.{goes_on_by, accepted_next}
use Rattle.session.proofs.Resting.{OneCall, n, here, book, lent_to, allowed, is_own, still, stay}
use Rattle.session.proofs.Resting.{on_walk, walk_alone}
use Rattle.session.proofs.Resting as rest
use Rattle.session.proofs.Walks.{goes_on, ends}

-- a place of the list is told by what stands there
same_place : (g : Grid) (i j : ℕ) (p : List ℕ) → IsNth (optima g) i p → IsNth (optima g) j p
    → i ≡ j
same_place g i j p a b = ⊎_elim (λ e. e)
    (λ differ. absurd (⊎_elim
    (λ less. (optima_are g).list.distinct i j [] less b.0 (a.1 ∙ sym b.1))
    (λ more. (optima_are g).list.distinct j i [] more a.0 (b.1 ∙ sym a.1)) differ))
    (cases_order i j)

module _ {K : Type 0} {kind : Ghosts K} {swaps : Bool} {b : Book K} {s : Settling K}
    (m : OneCall kind swaps walking b s) where
  ready : IsReady kind (n m) (book m) s m.own
  ready = m.keeps.beyond.0

  at : AtPlace (optima (book m)) m.own.walk s.walk
  at = m.keeps.beyond.1

  own_optima : HasLengths (lent_to m) → optima (grid kind (lent_to m)) ≡ optima (book m)
  own_optima = rest.optima_are m on_walk ready

  -- ---- Next

  module _ (same : SameIn (rests_on settled) m.x' m.x) where
    -- a walk that has told so much, and whose list is at its place
    keeps_at : (s' : Settling K) → s'.grid ≡ s.grid → s'.settlement ≡ s.settlement
        → HasWalksInTurn kind (n m) s' → AtPlace (optima (book m)) m.own'.walk s'.walk
        → Keeps kind (n m) b s' (here m) m.own'
    keeps_at s' eg ew walks at' = record {
      phase_is = m.keeps.phase_is;
      size_is = m.keeps.size_is;
      shows = rest.still_shows m on_walk same;
      walks = walks;
      beyond = (rest.still_ready m on_walk same ready s' eg ew, at');
    }

    own_stays : m.x'.walk ≡ m.x.walk → m.own'.walk ≡ m.own.walk
    own_stays e = (m.hands the_walk).stays refl e

    module _ (long : HasLengths (lent_to m) × (length m.x.walk ≡ n m)) where
      own_list : m.x.walk ≡ m.own.walk
      own_list = is_own m the_walk refl long.1

      -- the list is an optimum pairing of the tables' grid
      list_optimum : IsOptimum (grid kind (lent_to m)) m.x.walk
      list_optimum = nth_optimum (grid kind (lent_to m)) at.place m.x.walk
          (subst (λ list. IsNth (optima (grid kind (lent_to m))) at.place list) (sym own_list)
          (subst (λ ps. IsNth ps at.place m.own.walk) (sym (own_optima long.0)) at.is))

      -- a step is one from the place of the last pairing
      module _ (i : ℕ) (before : IsNth (optima (grid kind (lent_to m))) i m.x.walk) where
        own_before : IsNth (optima (book m)) i m.own.walk
        own_before = subst (IsNth (optima (book m)) i) own_list
            (subst (λ ps. IsNth ps i m.x.walk) (own_optima long.0) before)

        place_is : at.place ≡ i
        place_is = same_place (book m) at.place i m.own.walk at.is own_before

        went_on : IsNth (optima (grid kind (lent_to m))) (i + 1) m.x'.walk
            → Keeps kind (n m) b (record s { walk = s.walk ++ Some m.x'.walk ∷ [] }) (here m)
            m.own'
        went_on behind =
            let next : IsNth (optima (book m)) (i + 1) m.x'.walk =
            subst (λ ps. IsNth ps (i + 1) m.x'.walk) (own_optima long.0) behind in
            let far : i + 1 ≡ length s.walk = omega (arith, at.as_far, place_is, next.0) in
            keeps_at (record s { walk = s.walk ++ Some m.x'.walk ∷ [] }) refl refl (record {
              walks = (
                goes_on (optima s.grid) s.walk m.x'.walk m.keeps.walks.walks.0
                    (subst (λ k. IsNth (optima s.grid) k m.x'.walk) far
                    (subst (λ (g : Grid). IsNth (optima g) (i + 1) m.x'.walk)
                    (sym ready.grid_is) next)),
                m.keeps.walks.walks.1,
              );
              marks = m.keeps.walks.marks;
            }) (record {
              place = i + 1;
              is = subst (IsNth (optima (book m)) (i + 1))
                  (sym ((m.hands the_walk).kept long.1)) next;
              as_far = omega (arith, far, next.0, length-append s.walk (Some m.x'.walk ∷ []));
            })

        at_end : i + 1 ≡ length (optima (grid kind (lent_to m))) → m.x'.walk ≡ m.x.walk
            → Keeps kind (n m) b (record s { walk = s.walk ++ None ∷ [] }) (here m) m.own'
        at_end last stays =
            let last' : i + 1 ≡ length (optima (book m)) =
            last ∙ ap length (own_optima long.0) in
            let all : length (optima (book m)) ≤ length s.walk =
            omega (arith, at.as_far, place_is, last') in
            let sizes : length (optima s.grid) ≡ length (optima (book m)) =
            ap (λ (g : Grid). length (optima g)) ready.grid_is in
            keeps_at (record s { walk = s.walk ++ None ∷ [] }) refl refl (record {
              walks = (
                ends (optima s.grid) s.walk m.keeps.walks.walks.0 (omega (arith, all, sizes)),
                m.keeps.walks.walks.1,
              );
              marks = m.keeps.walks.marks;
            }) (record {
              place = i;
              is = subst (IsNth (optima (book m)) i) (sym (own_stays stays)) own_before;
              as_far = omega (arith, all, last', length-append s.walk (None ∷ []));
            })

    stepped : (step : Step) → HasLengths (lent_to m) × (length m.x.walk ≡ n m)
        → IsStep kind (lent_to m) m.x.walk m.x'.walk step
        → Keeps kind (n m) b (record s { walk = s.walk ++ pairing_by m.x'.walk step ∷ [] })
        (here m) m.own'
    stepped Onward long is = went_on long is.follows.0 is.follows.1 is.follows.2
    stepped End long is = at_end long is.follows.0 is.follows.1 is.follows.2 is.follows.3

  pub steps : (o : Reply (Option (List ℕ))) (state : SheetAt)
      → IsAnswered kind (here m) Next o m.x m.x' state
      → GoesOn kind (n m) b s Next (lengths m.x) o state m.own'
  steps o state h =
      let same = walk_alone m.x m.x' h.3 in
      goes_on_by kind (n m) b s Next (lengths m.x) o (here m) m.own'
      (next_needs kind (lent_to m) m.x.walk) (pairing_by m.x'.walk) h.0 state h.1
      (IsStep kind (lent_to m) m.x.walk m.x'.walk) (m.x'.walk ≡ m.x.walk) h.2 h.4
      (allowed m Next refl)
      (inl (
        fits_with (n m) m.x (length m.x.walk) (n m),
        refl,
        λ long.
            ((rest.together m on_walk ready long.0, list_optimum same long), tt),
      )) (λ e. cc, tt)
      (λ step met is. (tt, stepped same step met.0 is))
      (λ e. keeps_at same s refl refl m.keeps.walks
      (subst (λ list. AtPlace (optima (book m)) list s.walk) (sym (own_stays same e)) at))

  -- ---- Close

  pub closes : (o : Reply (Unit {0})) (state : SheetAt)
      → IsAnswered kind (here m) Close o m.x m.x' state
      → GoesOn kind (n m) b s Close (lengths m.x) o state m.own'
  closes o state h =
      let same = walk_alone m.x m.x' (h.1 ∙ ap (λ y. record m.x { walk = y.walk }) (sym h.1)) in
      subst (λ st. GoesOn kind (n m) b s Close (lengths m.x) o st m.own') (sym h.2)
      (accepted_next kind (n m) b s Close (lengths m.x) o (state_at settled m.sheet) m.own' tt h.0
      (allowed m Close refl) refl tt (record {
        phase_is = refl;
        size_is = m.keeps.size_is;
        shows = rest.still_shows m on_walk same;
        walks = m.keeps.walks;
        beyond = rest.still_ready m on_walk same ready s refl refl;
      }))
