use Rattle.std.specs.Prelude.{pos}
use Rattle.std.proofs.Common.{◌+◌, ◌<◌, length, ap, ◌∙◌, arith, w64}
use lib.ListN.{length-set}
use mir.Facts.{to_z_pos}
use Rattle.records.specs.Tables.{legs_of}
use Rattle.records.proofs.ErrorLaws.{handed_on}
use Rattle.spreads.proofs.BoxBounds.{margin_small}
use Rattle.spreads.proofs.WorkLaws.{work_next, checked_work}
use Rattle.spreads.proofs.PricingLaws.{asked_for, asked_refused, pricing_none, pricing_room, pricing_more, pricing_stop, pricing_done}
use Rattle.spreads.proofs.calls.price_each.Goals as goal

pub loop-k-init : goal.loop-k-init
loop-k-init c = record { long = c.told-margins; pricing = pricing_none _ _ _ }

pub returns-in_err-worked : goal.returns-in_err-worked
returns-in_err-worked c =
    rw (handed_on _ c.in_err-worked.field-0.0 c.from_residual.ensures.1)
    (pricing_stop c.loop-k.invariant.pricing (omega arith) (asked_refused _ _ c.price_group.ensures c.in_err-worked.was))

pub overflow_cast-margins : goal.overflow_cast-margins
overflow_cast-margins c =
    let s = c.args.links.now in
    omega (arith, (asked_for _ _ c.price_group.ensures c.in_ok-worked.was).1, margin_small _ s.placement.checked (c.loop-k.k + 1))

pub bounds-margins-k : goal.bounds-margins-k
bounds-margins-k c = omega (arith, pricing_room _ _ (asked_for _ _ c.price_group.ensures c.in_ok-worked.was).0)

-- the work so far and that of this group
pub overflow_add-values : goal.overflow_add-values
overflow_add-values c =
    let s = c.args.links.now in
    omega (
      arith,
      c.loop-k.invariant.pricing.worked,
      (asked_for _ _ c.price_group.ensures c.in_ok-worked.was).2,
      work_next (legs_of s.placement.bytes.now) c.loop-k.k,
      checked_work s.placement.bytes.now s.placement.checked (c.loop-k.k + 1),
    )

pub loop-k-preserved : goal.loop-k-preserved
loop-k-preserved c =
    let e = asked_for _ _ c.price_group.ensures c.in_ok-worked.was in
    let s = c.args.links.now in
    let room : c.loop-k.k < length c.loop-k.margins = omega (arith, c.loop-k.invariant.long, pricing_room _ _ e.0) in
    record {
      long = rw length-set c.loop-k.invariant.long;
      pricing =
          pricing_more c.loop-k.invariant.pricing (omega arith) room e.0
          (to_z_pos w64 (omega (arith, e.1, margin_small _ s.placement.checked (c.loop-k.k + 1))) ∙ ap pos e.1) (ap (λ v. c.loop-k.values + v) e.2);
    }

pub returns : goal.returns
returns c = pricing_done c.loop-k.invariant.pricing (omega arith)
