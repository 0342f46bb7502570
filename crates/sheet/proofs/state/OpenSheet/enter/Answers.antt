-- The pair's two places are written, where its reading is within the limit and its byte is not
-- disturbed.
use Rattle.std.proofs.Common.{◌≡◌, true, false, slice_index, ap, sym, ◌∙◌, inl, inr, refl}
use Rattle.std.proofs.lemmas.Bool.{false≢true}
use Rattle.cost.proofs.Exact.{within_tells}
use Rattle.cost.specs.declared.TheConstants.{COST_LIMIT}
use Rattle.cost.specs.Readings.{worse}
use Rattle.pairing.specs.Places.{place_of}
use Rattle.tables.specs.PairTables.{says_disturbed, byte_of, cell, costs_entered, standing_entered}
use Rattle.tables.proofs.Cells.{written}
use Rattle.sheet.specs.Size.{size_of}
use Rattle.sheet.proofs.state.OpenSheet.enter.Given.{Over}
use Rattle.sheet.proofs.state.OpenSheet.enter.Goals as goal
use Rattle.sheet.proofs.state.OpenSheet.enter.Goals.{After-enter_pair}

pub returns-then-not-within-clause-call : goal.returns-then-not-within-clause-call
returns-then-not-within-clause-call g c =
    let found = c.in_ok-at.ensures.answers.0 in
    let test = within_tells COST_LIMIT (g.K.Cost.meaning c.args.reading) in (
      inr (
        found.0,
        inr (
          found.1.0,
          inl (
            λ fits. false≢true (c.if-not-within.ensures ∙ test.1 fits),
            c.at.ensures,
          ),
        ),
      ),
      record { costs_are = refl; standing_are = refl },
    )

pub returns-then-disturbed-clause-call : goal.returns-then-disturbed-clause-call
returns-then-disturbed-clause-call g c =
    let found = c.in_ok-at.ensures.answers in
    let fits = (within_tells COST_LIMIT (g.K.Cost.meaning c.args.reading)).0
    (sym c.if-not-within.ensures) in
    let here : says_disturbed (byte_of (size_of c.args.self.now) c.args.standing.now c.args.left
    c.args.right) ≡ true = ap (λ p. says_disturbed (slice_index c.args.standing.now p))
    (sym found.1) ∙ sym c.if-disturbed.ensures in (
      inr (
        found.0.0,
        inr (
          found.0.1.0,
          inr (
            fits,
            inl (λ calm. false≢true (sym calm ∙ here), c.at-then-disturbed.ensures),
          ),
        ),
      ),
      record { costs_are = refl; standing_are = refl },
    )

pub enter_pair-requires-clause-within : goal.enter_pair-requires-clause-within
enter_pair-requires-clause-within g c =
    (within_tells COST_LIMIT (g.K.Cost.meaning c.args.reading)).0 (sym c.if-not-within.ensures)

-- both tables are written, by the sheet's size
wrote : (g : Over) (c : After-enter_pair g)
    → (c.enter_pair.new.costs ≡ costs_entered g.K.Cost (size_of c.args.self.now) c.args.left
    c.args.right c.args.reading c.args.costs.now c.args.standing.now)
    × (c.enter_pair.new.standing
    ≡ standing_entered (size_of c.args.self.now) c.args.left c.args.right c.args.standing.now)
wrote g c = (
  c.enter_pair.ensures.costs
      ∙ ap (λ s. costs_entered g.K.Cost (size_of s) c.args.left c.args.right c.args.reading
      c.args.costs.now c.args.standing.now) c.self.view_is,
  c.enter_pair.ensures.standing
      ∙ ap (λ s. standing_entered (size_of s) c.args.left c.args.right c.args.standing.now)
      c.self.view_is,
)

pub returns-clause-call : goal.returns-clause-call
returns-clause-call g c =
    let found = c.in_ok-at.ensures.answers in
    let fits = (within_tells COST_LIMIT (g.K.Cost.meaning c.args.reading)).0
    (sym c.if-not-within.ensures) in
    let calm : says_disturbed (byte_of (size_of c.args.self.now) c.args.standing.now c.args.left
    c.args.right) ≡ false = ap (λ p. says_disturbed (slice_index c.args.standing.now p))
    (sym found.1) ∙ sym c.if-disturbed.ensures in
    let now = wrote g (goal.at.returns-clause-call g c).After-enter_pair in (
      (found.0.0, (found.0.1.0, (fits, (calm, tt)))),
      record { costs_are = now.0; standing_are = now.1 },
    )

pub returns-clause-cells : goal.returns-clause-cells
returns-clause-cells g c =
    let found = c.in_ok-at.ensures.answers in
    let are = found.0.1.0 in
    let n = size_of c.args.self.now in
    let now = wrote g (goal.at.returns-clause-cells g c).After-enter_pair in
    rw (now.0, now.1)
    (written g.K.Cost.zero n c.args.costs.now c.args.standing.now c.args.left
    c.args.right found.0.0 are.left_below are.right_below 1
    (worse g.K.Cost (cell g.K.Cost.zero n c.args.costs.now c.args.standing.now c.args.left
    c.args.right) c.args.reading) (place_of n c.args.left c.args.right) refl)
