use Rattle.std.proofs.Common.{◌≡◌, ◌<◌, length, true, sym, ◌∙◌, arith}
use Rattle.spreads.specs.Steps.Pointing.{points_at_leg, place_of}
use Rattle.spreads.proofs.MemberLaws.{members_many}
use Rattle.spreads.proofs.Naming.{leg_there, leg_short, leg_place}
use Rattle.spreads.proofs.pointing.place_of.Goals as goal

pub returns-then-not-points_at_leg : goal.returns-then-not-points_at_leg
unfolding place_of
returns-then-not-points_at_leg c = rw (sym c.points_at_leg.ensures ∙ c.if-not-points_at_leg.true)

short : (c : goal.In-Some) → c.in-Some.leg < length c.args.group.now.members.now
short c =
    let points : points_at_leg c.args.number ≡ true = sym c.points_at_leg.ensures ∙ c.if-not-points_at_leg.false in
    leg_short _ _ _ c.requires.breaks points c.broken_leg.ensures c.in-Some.is

pub offset_bounds-group-leg : goal.offset_bounds-group-leg
offset_bounds-group-leg c =
    let g = c.args.group.now in
    omega (arith, short c, members_many record { checked = g.checked; number = g.number; members = g.members_of })

pub bounds-group-leg : goal.bounds-group-leg
bounds-group-leg c = omega (arith, short c)

pub returns-in-Some : goal.returns-in-Some
returns-in-Some c =
    let points : points_at_leg c.args.number ≡ true = sym c.points_at_leg.ensures ∙ c.if-not-points_at_leg.false in
    leg_place _ _ _ c.requires.breaks points c.broken_leg.ensures c.in-Some.is _ c.args.group.now.members_of

pub returns-in-None : goal.returns-in-None
returns-in-None c =
    let points : points_at_leg c.args.number ≡ true = sym c.points_at_leg.ensures ∙ c.if-not-points_at_leg.false in
    absurd (leg_there _ _ _ c.requires.breaks points c.broken_leg.ensures c.in-None.is)
