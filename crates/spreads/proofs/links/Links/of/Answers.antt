use Rattle.std.proofs.Common.{◌≡◌, ◌+◌, ◌-◌, refl, arith}
use Rattle.spreads.proofs.LinkLaws.{table_records, group_fits, link_none, link_more}
use Rattle.spreads.proofs.links.Links.of.Goals as goal

pub loop-i-init : goal.loop-i-init
loop-i-init c = link_none _ c.args.placement.now.checked

pub bounds-next-head : goal.bounds-next-head
bounds-next-head c = omega (arith, group_fits _ c.args.placement.now.checked (c.loop-i.i - 1) (omega arith) c.leg_at.ensures)

pub bounds-next-i : goal.bounds-next-i
bounds-next-i c = omega (arith, table_records _ c.args.placement.now.checked)

pub loop-i-preserved : goal.loop-i-preserved
loop-i-preserved c =
    let e : c.loop-i.i ≡ c.loop-i.i - 1 + 1 = omega arith in
    link_more _ c.args.placement.now.checked (rw e at c.loop-i.invariant) (omega arith) c.leg_at.ensures refl

pub invariant_of-result : goal.invariant_of-result
invariant_of-result c = let e : c.loop-i.i ≡ 0 = omega arith in record { linked = rw e at c.loop-i.invariant }

pub bounds-next-head-in-loop-i : goal.bounds-next-head-in-loop-i
bounds-next-head-in-loop-i c = omega (arith, group_fits _ c.args.placement.now.checked (c.loop-i.i - 1) (omega arith) c.leg_at.ensures)
