-- From what is told of the loaded tables to what a host is told of the sheet that his file states.
-- Idea: a file states one order only, and the grid in the loaded tables is the same inside as the
-- grid that the order states.
use Rattle.std.proofs.Common.{◌≡◌, ℕ, ◌<◌, ◌≤◌, List, ◌++◌, length, take, drop, Ok, Err, Result}
use Rattle.std.proofs.Common.{refl, sym, ap, ◌∙◌, subst, inl, inr, ⊎_elim, arith}
use Rattle.cost.specs.declared.plain_kind.Plain.{Plain}
use Rattle.pairing.specs.Grid.{IsPerfectIn}
use Rattle.pairing.specs.Optima.{optima}
use Rattle.matching.specs.Answers.{IsNth, Follows}
use Rattle.matching.specs.declared.stepping.Step.{Step}
use Rattle.matching.specs.declared.stepping.Step.TheVariants.{Next}
use Rattle.sheet.specs.Needs.{IsFirstUnmet, Responds}
use Rattle.sheet.specs.Refusals.{fault}
use Rattle.sheet.specs.Size.{Sheet, size_of}
use Rattle.sheet.specs.declared.fault.Cause.TheVariants.{NoPerfectPairing, ShortBuffer}
use Rattle.sheet.specs.declared.fault.Fault.{Fault}
use Rattle.orderfile.specs.Faults.{FirstFault}
use Rattle.orderfile.specs.Format.{StatedOrder, States}
use Rattle.orderfile.specs.Loading.{HasOneVerdict, stated_grid, plain_kind, plain_grid}
use Rattle.orderfile.specs.Loading.{LoadsOrder, Loads}
use Rattle.orderfile.proofs.LoadedGrid.{loaded_ok, loaded_alike, loaded_optima, loaded_perfect}
use Rattle.tables.specs.PairTables.{HavePlaces}
use Rattle.tables.specs.Lent.{lent}
use Rattle.sheet.specs.Settling.{settle_needs, IsSettled}
use Rattle.chost.specs.Answers.{call_needs, IsWritten, StepsOn, AnswersHost}
use Rattle.chost.specs.Answers.{HasRoomFor}
use Rattle.chost.specs.declared.answering.HostCall.{HostCall}
use Rattle.chost.specs.declared.answering.HostCall.TheVariants.{First, After}
use Rattle.chost.proofs.Buffers.{front, behind, as_long}

module _ (call : HostCall) (file out : List ℕ)
    (verdict : HasOneVerdict (States file) (FirstFault file)) where
  -- a file with a fault
  pub answers_faulty : (f : Fault) → FirstFault file f → AnswersHost call file out (Err f) out
  answers_faulty f h = record {
    verdict = verdict;
    faulty = λ f' h'. (ap Err (verdict.one_fault f f' h h'), refl);
    states = λ o s. absurd (verdict.not_both o f s h);
  }

  -- a file that states a sheet
  pub answers_stated : (o : StatedOrder) → States file o
      → (answer : Result Step Fault) (out' : List ℕ)
      → Responds (call_needs (stated_grid o) out call) answer
      (IsWritten (stated_grid o) out call out') (out' ≡ out)
      → AnswersHost call file out answer out'
  answers_stated o s answer out' h = record {
    verdict = verdict;
    faulty = λ f f'. absurd (verdict.not_both o f s f');
    states = λ o' s'. subst (λ (k : StatedOrder). Responds (call_needs (stated_grid k) out call)
        answer
        (IsWritten (stated_grid k) out call out') (out' ≡ out)) (verdict.one_order o o' s s') h;
  }

-- the buffer is too short
pub short_buffer : (o : StatedOrder) (out : List ℕ) → length out < o.size → (call : HostCall)
    → IsFirstUnmet (call_needs (stated_grid o) out call) (fault ShortBuffer 0)
short_buffer o out short First = inl ((λ room. absurd (omega (arith, short, room))), refl)
short_buffer o out short After = inl ((λ room. absurd (omega (arith, short, room))), refl)

module _ (o : StatedOrder) (r : Result Sheet Fault) (costs : List Plain) (standing : List ℕ)
    (accepted : LoadsOrder o r costs standing) (out : List ℕ) (room : o.size ≤ length out) where
  stands_there : (p : List ℕ) × IsPerfectIn (stated_grid o) p
      → (p : List ℕ) × IsPerfectIn (plain_grid o.size costs standing) p
  stands_there h = (h.0, (loaded_perfect o r costs standing accepted h.0).1 h.1)

  -- no pairing is perfect
  pub unpaired : (call : HostCall)
      → ((p : List ℕ) × IsPerfectIn (plain_grid o.size costs standing) p → ⊥)
      → IsFirstUnmet (call_needs (stated_grid o) out call) (fault NoPerfectPairing 0)
  unpaired First none = inr (room, inl ((λ h. none (stands_there h)), refl))
  unpaired After none = inr (room, inl ((λ h. none (stands_there h)), refl))

  paired : (p : List ℕ) × IsPerfectIn (plain_grid o.size costs standing) p
      → (p : List ℕ) × IsPerfectIn (stated_grid o) p
  paired h = (h.0, (loaded_perfect o r costs standing accepted h.0).0 h.1)

  -- the first of all optimum pairings was written
  pub first_written : (partners out' : List ℕ)
      → (p : List ℕ) × IsPerfectIn (plain_grid o.size costs standing) p
      → IsNth (optima (plain_grid o.size costs standing)) 0 partners
      → length partners ≡ o.size → out' ≡ partners ++ drop (length partners) out
      → Responds (call_needs (stated_grid o) out First) (Ok Next)
      (IsWritten (stated_grid o) out First out') (out' ≡ out)
  first_written partners out' some first long wrote = (
    (room, (paired some, tt)),
    record {
      written = (
        refl,
        subst (λ p. IsNth (optima (stated_grid o)) 0 p)
            (sym (front o.size partners out out' long wrote))
            (subst (λ ps. IsNth ps 0 partners) (loaded_optima o r costs standing accepted) first),
      );
      behind = behind o.size partners out out' long wrote;
      long = as_long o.size partners out out' long wrote room;
    },
  )

  -- the one that follows was written, or there is none
  pub next_written : (out' : List ℕ) (answer : Result Step Fault)
      → (p : List ℕ) × IsPerfectIn (plain_grid o.size costs standing) p
      → StepsOn (plain_grid o.size costs standing) out answer out'
      → Responds (call_needs (stated_grid o) out After) answer
      (IsWritten (stated_grid o) out After out') (out' ≡ out)
  next_written out' (Ok step) some h = (
    (
      room,
      (
        paired some,
        (
          ((loaded_alike o r costs standing accepted).optimum (take o.size out)).0 h.0,
          tt,
        ),
      ),
    ),
    record {
      written = subst (λ ps. Follows ps (take o.size out) (take o.size out') step)
          (loaded_optima o r costs standing accepted) h.1.written;
      behind = h.1.behind;
      long = h.1.long;
    },
  )
  next_written out' (Err f) some h = (
    inr (
      room,
      inr (
        paired some,
        inl (
          (λ best. h.0
              (((loaded_alike o r costs standing accepted).optimum (take o.size out)).1 best)),
          h.1,
        ),
      ),
    ),
    h.2,
  )

-- ---- In tables with room for the sheet that the file states

module _ {file : List ℕ} {costs₀ costs : List Plain} {standing₀ standing : List ℕ} {sheet : Sheet}
    (loaded : Loads (States file) (FirstFault file) costs₀ standing₀ (Ok sheet) costs standing)
    (call : HostCall)
    (out partners list : List ℕ) (left right : List Plain)
    (rooms : (o : StatedOrder) → States file o
    → HasRoomFor o.size (length costs₀) (length standing₀)
    (length partners) (length left) (length right) (length list) (length out)) where
  stated : (o : StatedOrder) × States file o
      × HavePlaces o.size (length costs₀) (length standing₀) × (sheet.size ≡ o.size)
      × LoadsOrder o (Ok sheet) costs standing
  stated = loaded_ok loaded

  pub list_fits : length list ≡ size_of sheet
  list_fits = (rooms stated.0 stated.1).list_long ∙ sym stated.3

  pub out_fits : size_of sheet ≤ length out
  out_fits = subst (λ k. k ≤ length out) (sym stated.3) (rooms stated.0 stated.1).out_room

  -- settling is refused only where no pairing is perfect
  pub settle_refused : (f : Fault)
      → IsFirstUnmet (settle_needs plain_kind (lent (size_of sheet) costs standing partners left
      right)) f → AnswersHost call file out (Err f) out
  settle_refused f unmet =
      let o = stated.0 in
      let have = rooms o stated.1 in
      let tables = stated.4.pair_tables in
      let at_o = subst (λ n. IsFirstUnmet (settle_needs plain_kind (lent n costs standing partners
      left right)) f) stated.3 unmet in
      answers_stated call file out loaded.verdict o stated.1 (Err f) out (⊎_elim
      (λ no'. absurd (no'.0 (record {
        room = record {
          costs_long = tables.costs_long;
          standing_long = tables.standing_long;
          left_long = have.left_long;
          right_long = have.right_long;
        };
        partners_long = have.partners_long;
      })))
      (λ yes'. ⊎_elim (λ no'. absurd (no'.0 tables.in_order))
      (λ yes''. ⊎_elim
      (λ no'. (
        subst (IsFirstUnmet (call_needs (stated_grid o) out call)) (sym no'.1)
            (unpaired o (Ok sheet) costs standing stated.4 out have.out_room call no'.0),
        refl,
      ))
      (λ more. absurd more.1) yes''.1)
      yes'.1)
      at_o)

  -- it wrote the first of all optimum pairings
  module _ (settled : Sheet) (partners' : List ℕ) (left' right' : List Plain)
      (done : IsSettled plain_kind sheet settled (lent (size_of sheet) costs standing partners left
      right) (lent (size_of sheet) costs standing partners' left' right')) where
    some : (p : List ℕ) × IsPerfectIn (plain_grid stated.0.size costs standing) p
    some = subst (λ n. (p : List ℕ) × IsPerfectIn (plain_grid n costs standing) p) stated.3
        done.met.1.1.0

    pub partners_fit : length partners' ≤ length out
    partners_fit = subst (λ k. k ≤ length out) (sym done.together.perfect.len) out_fits

    pub first_answered : (out' : List ℕ) → out' ≡ partners' ++ drop (length partners') out
        → AnswersHost First file out (Ok Next) out'
    first_answered out' wrote =
        let o = stated.0 in
        answers_stated First file out loaded.verdict o stated.1 (Ok Next) out'
        (first_written o (Ok sheet) costs standing stated.4 out (rooms o stated.1).out_room
        partners' out' some
        (subst (λ n. IsNth (optima (plain_grid n costs standing)) 0 partners') stated.3
        done.tables.first)
        (done.together.perfect.len ∙ stated.3) wrote)

    pub next_answered : (answer : Result Step Fault) (out' : List ℕ)
        → StepsOn (plain_grid (size_of settled) costs standing) out answer out'
        → AnswersHost After file out answer out'
    next_answered answer out' h =
        let o = stated.0 in
        let same : size_of settled ≡ o.size = ap size_of done.same ∙ stated.3 in
        answers_stated After file out loaded.verdict o stated.1 answer out'
        (next_written o (Ok sheet) costs standing stated.4 out (rooms o stated.1).out_room out'
        answer some
        (subst (λ n. StepsOn (plain_grid n costs standing) out answer out') same h))
