use Rattle.std.proofs.Common.{sym, ◌∙◌, arith}
use Rattle.spreads.proofs.BoxTest.{passed_none, passed_more, passed_stop, passed_done, not_fit, is_box, no_box}
use Rattle.spreads.proofs.Folds.{fold_none, fold_more, fold_done}
use Rattle.spreads.proofs.OneGroups.{one_group}
use Rattle.spreads.proofs.boxes.box_at.Goals as goal

pub loop-i-init : goal.loop-i-init
loop-i-init c = record { fit = passed_none; added = fold_none c.none-kinds.ensures }

pub returns-then-not-fits_box : goal.returns-then-not-fits_box
returns-then-not-fits_box c =
    not_fit (one_group c.args.group.now) c.requires c.args.low c.args.high c.leg-expiry.ensures
    (passed_stop c.loop-i.invariant.fit (omega arith) c.leg-leg.ensures (sym c.fits_box.ensures ∙ c.if-not-fits_box.true))

pub loop-i-preserved : goal.loop-i-preserved
loop-i-preserved c =
    record {
      fit = passed_more c.loop-i.invariant.fit (omega arith) c.leg-leg.ensures (sym c.fits_box.ensures ∙ c.if-not-fits_box.false);
      added = fold_more c.loop-i.invariant.added (omega arith) c.leg-leg.ensures c.with_leg-kinds.ensures;
    }

pub returns-then-low-high : goal.returns-then-low-high
returns-then-low-high c =
    is_box (one_group c.args.group.now) c.requires c.args.low c.args.high c.leg-expiry.ensures (passed_done c.loop-i.invariant.fit (omega arith))
    (fold_done c.loop-i.invariant.added (omega arith)) c.even.ensures c.number.ensures c.if-low-high.true

pub returns : goal.returns
returns c =
    no_box (one_group c.args.group.now) c.requires c.args.low c.args.high c.leg-expiry.ensures (passed_done c.loop-i.invariant.fit (omega arith))
    (fold_done c.loop-i.invariant.added (omega arith)) c.even.ensures c.if-low-high.false
