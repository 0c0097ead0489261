use Rattle.std.specs.Prelude.{Err}
use Rattle.std.proofs.Common.{ap}
use Rattle.spreads.proofs.Naming.{none_refused, refused_breaks, refused_placed}
use Rattle.spreads.proofs.rule.group_fault.Goals as goal

pub place_of-requires-clause-breaks : goal.place_of-requires-clause-breaks
place_of-requires-clause-breaks c =
    let g = c.args.group.now in
    refused_breaks _ _ _ g.checked g.members_of c.gather-facts.ensures c.find_doubled-pair.ensures c.is_some.ensures c.first_broken.ensures c.in-Err.is

pub returns-in-Err : goal.returns-in-Err
returns-in-Err c =
    let g = c.args.group.now in
    refused_placed _ _ _ g.checked g.members_of c.gather-facts.ensures c.find_doubled-pair.ensures c.is_some.ensures c.first_broken.ensures c.in-Err.is c.place_of.ensures (ap Err c.refused.ensures)

pub returns-in-Ok : goal.returns-in-Ok
returns-in-Ok c =
    let g = c.args.group.now in
    none_refused _ _ _ g.checked g.members_of c.gather-facts.ensures c.find_doubled-pair.ensures c.is_some.ensures c.first_broken.ensures c.in-Ok.is
