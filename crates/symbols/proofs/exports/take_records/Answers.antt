use Rattle.std.proofs.Common.{refl, sym, ap, ◌∙◌, arith}
use Rattle.std.specs.Prelude.{is_ok}
use Rattle.records.proofs.ErrorLaws.{handed_on}
use Rattle.symbols.proofs.ExportLaws.{taking_none, taking_stop, taking_more, taking_over, taking_text}
use Rattle.symbols.proofs.exports.take_records.Goals as goal

pub loop-i-init : goal.loop-i-init
loop-i-init c = taking_none c.args.roots.now c.args.records.now c.args.text.now (omega arith)

pub returns-in_err-at-clause-value : goal.returns-in_err-at-clause-value
returns-in_err-at-clause-value c =
    handed_on _ c.in_err-at.field-0.0 c.from_residual.ensures.1
    ∙ taking_stop c.args.roots.now c.args.records.now c.args.text.now c.loop-i.text c.loop-i.at c.loop-i.i c.loop-i.invariant (omega arith) _ c.in_err-at.field-0.0
    (sym c.take_record.ensures.value ∙ c.in_err-at.was) _

pub loop-i-preserved : goal.loop-i-preserved
loop-i-preserved c =
    let t = c.loop-i.invariant in
    taking_more c.args.roots.now c.args.records.now c.args.text.now c.loop-i.text c.loop-i.at c.loop-i.i t (omega arith) _ c.in_ok-at.at
    (sym c.take_record.ensures.value ∙ c.in_ok-at.was) refl c.told-roots c.take_record.new.text c.take_record.auto.text (omega (arith, t.small, t.room, c.requires))
    (c.take_record.ensures.text_after (ap is_ok c.in_ok-at.was))

pub returns-clause-value : goal.returns-clause-value
returns-clause-value c =
    taking_over c.args.roots.now c.args.records.now c.args.text.now c.loop-i.text c.loop-i.at c.loop-i.i c.loop-i.invariant (omega arith)

pub returns-clause-records_taken : goal.returns-clause-records_taken
returns-clause-records_taken c =
    λ q. taking_text c.args.roots.now c.args.records.now c.args.text.now c.loop-i.text c.loop-i.at c.loop-i.i c.loop-i.invariant (omega arith)
