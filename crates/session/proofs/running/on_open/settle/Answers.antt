-- A settle is a step of a program.
-- Idea: the call reads the two pair tables, and leaves the partners and the prices as its contract
-- says.
use Rattle.std.proofs.Common.{◌≡◌, inl, refl}
use Rattle.session.specs.declared.answer.Answer.TheVariants.{Settled}
use Rattle.session.specs.declared.call.Act.TheVariants.{Settle}
use Rattle.session.specs.declared.state.State.TheVariants.{Open}
use Rattle.session.specs.Exchange.{Settlement}
use Rattle.session.specs.Lists.{TableLists}
use Rattle.session.specs.Program.{reply_of}
use Rattle.session.specs.Runs.{tables_of}
use Rattle.session.proofs.Handing.{cut, settlement_parts, was_made}
use Rattle.session.proofs.Saying.{says_change}
use Rattle.session.proofs.running.on_open.settle.Goals as goal

pub returns : goal.returns
returns g c =
    let o = c.settle-outcome in
    let answer = c.after_settle-state.result.1 in
    let partners = c.copy_from_slice.new.self in
    let left = c.copy_from_slice-2.new.self in
    let right = c.copy_from_slice-3.new.self in
    let seen : TableLists g.row.K.Denot = record (tables_of c.args.tables.now) {
      costs = c.as_slice.result.now;
      standing = c.as_slice-2.result.now;
      partners = c.as_mut_slice.result.now;
      left = c.as_mut_slice-2.result.now;
      right = c.as_mut_slice-3.result.now;
    } in
    let settlement : Settlement g.row.K.Denot = record {
      partners = o.new.partners;
      left = o.new.left;
      right = o.new.right;
    } in
    let x = cut c.args.h seen in
    was_made g.K.Cost (Open c.args.sheet) (tables_of c.args.tables.now) Settle c.args.h
    (reply_of settlement o.result) answer c.after_settle-state.result.0 x
    (record x { partners = o.new.partners; left = o.new.left; right = o.new.right }) _
    c.requires.right
    (settlement_parts c.args.h c.args.tables.now seen (cc) c.requires.lent o.new.partners
    o.new.left o.new.right o.auto.partners o.auto.left o.auto.right)
    (says_change Settle answer settlement o.result (λ sheet. answer ≡ Settled partners left right)
    (λ sheet h. (
      partners,
      left,
      right,
      h,
      c.copy_from_slice.ensures.items,
      c.copy_from_slice-2.ensures.items,
      c.copy_from_slice-3.ensures.items,
    ))
    c.after_settle-state.ensures.answer)
    (inl (refl, (o.result, refl, o.ensures, refl, c.after_settle-state.ensures.state)))
