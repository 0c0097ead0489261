use Rattle.std.proofs.Common.{arith}
use Rattle.spreads.proofs.MemberLaws.{length_at, members_many}
use Rattle.spreads.proofs.ApartLaws.{apart_nothing}
use Rattle.spreads.proofs.pairs.find_doubled.Goals as goal

pub returns-then-len-strikes : goal.returns-then-len-strikes
returns-then-len-strikes c = let g = c.args.group.now in apart_nothing _ (omega (arith, length_at g.placement.now g.members.now))

pub search_doubled-requires-2-clause-room : goal.search_doubled-requires-2-clause-room
search_doubled-requires-2-clause-room c = let g = c.args.group.now in members_many record { checked = g.checked; number = g.number; members = g.members_of }
