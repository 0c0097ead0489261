use Rattle.std.proofs.Common.{◌∙◌}
use Rattle.spreads.proofs.Naming.{pair_no_leg, pair_leg, facts_leg}
use Rattle.spreads.proofs.pointing.broken_leg.Goals as goal

pub returns-in_err-later : goal.returns-in_err-later
returns-in_err-later c =
    let g = c.args.group.now in
    c.from_residual.ensures ∙ pair_no_leg g.placement.now g.members.now _ c.if-number-eq10.true c.requires c.in_err-later.was

pub returns-then-number-eq10 : goal.returns-then-number-eq10
returns-then-number-eq10 c =
    let g = c.args.group.now in
    pair_leg g.placement.now g.members.now _ c.if-number-eq10.true c.requires c.in_ok-later.was

pub returns : goal.returns
returns c =
    let g = c.args.group.now in
    facts_leg g.placement.now g.members.now _ record { checked = g.checked; number = g.number; members = g.members_of } c.if-number-eq10.false c.first_breaking.ensures
