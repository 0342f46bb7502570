-- What is sound holds together just where the partners are a pairing over the tight rows.
use Rattle.std.proofs.Common.{IfNone, sym, subst, rules}
use Rattle.std.proofs.lemmas.Bool.Decides.{not_from_Decides}
use Rattle.pairing.specs.Rows.{IsPerfectOver}
use Rattle.tables.specs.Together.{HoldTogether}
use Rattle.walk.proofs.Judging.{sound_if_together, paired_if_together, certified}
use Rattle.walk.proofs.certificate.certify_fitting.Goals as goal

pub returns-in_err-rows-clause-apart : goal.returns-in_err-rows-clause-apart
returns-in_err-rows-clause-apart g c =
    let t = c.args.tables.now in
    let apart : HoldTogether g.K.Cost t → ⊥ = λ h. c.in_err-rows.ensures.unsound
    (sound_if_together g.K.Cost t h) in
    subst (λ o. IfNone o (HoldTogether g.K.Cost t → ⊥)) (sym c.from_residual.ensures) apart

pub returns-then-pairs_each_row-clause-certified : goal.returns-then-pairs_each_row-clause-certified
returns-then-pairs_each_row-clause-certified g c =
    let t = c.args.tables.now in
    let made = c.in_ok-rows.ensures in
    let paired : IsPerfectOver c.in_ok-rows.rows t.partners = search rules in
    certified g.K.Cost t c.in_ok-rows.rows made.tight g.met.K.Cost.laws.column_count
    (c.are_priced.ensures.0 c.if-not-are_priced.false) made.sound paired

pub returns-else-pairs_each_row-clause-apart : goal.returns-else-pairs_each_row-clause-apart
returns-else-pairs_each_row-clause-apart g c h =
    let paired : IsPerfectOver c.in_ok-rows.rows c.args.tables.now.partners =
    paired_if_together g.K.Cost c.args.tables.now c.in_ok-rows.rows c.in_ok-rows.ensures.tight h in
    not_from_Decides c.pairs_each_row.result c.pairs_each_row.ensures c.if-pairs_each_row.false
    (search rules)
