use Rattle.std.proofs.Common.{refl, arith}
use Rattle.spreads.proofs.LinkLaws.{find_none, find_past, find_more, find_done}
use Rattle.spreads.proofs.links.Links.find_members.Goals as goal

pub loop-at-init : goal.loop-at-init
loop-at-init c = let s = c.args.self.now in find_none _ _ _ _ s.placement.checked s.linked (omega arith) c.first_place-at.ensures

pub loop-at-preserved : goal.loop-at-preserved
loop-at-preserved c = find_more c.loop-at.invariant c.loop-at-test.true refl refl refl

pub loop-at-smaller : goal.loop-at-smaller
loop-at-smaller c = omega (arith, find_past c.loop-at.invariant c.loop-at-test.true)

pub returns : goal.returns
returns c = find_done c.loop-at.invariant c.loop-at-test.false
