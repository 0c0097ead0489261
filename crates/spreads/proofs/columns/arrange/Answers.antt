use Rattle.std.proofs.Common.{◌≡◌, ◌+◌, ◌∙◌, length, arith}
use Rattle.spreads.specs.Steps.Columns.{strike_of, units_for, class_of}
use Rattle.spreads.specs.Steps.Group.{legs_in}
use Rattle.spreads.specs.declared.members.Group.{Group}
use Rattle.spreads.proofs.MemberLaws.{length_at, members_ranges, members_many}
use Rattle.spreads.proofs.ColumnLaws.{classes_all, column_of_lem}
use Rattle.spreads.proofs.OneGroups.{one_group}
use Rattle.spreads.proofs.columns.arrange.Goals as goal

-- every leg is of one class
every_leg : (group : Group)
    → length (class_of 1 1 (legs_in group)) + length (class_of 1 2 (legs_in group)) + length (class_of 2 1 (legs_in group)) + length (class_of 2 2 (legs_in group)) ≡ length group.members.now
every_leg group = classes_all (legs_in group) (members_ranges (one_group group)) ∙ length_at group.placement.now group.members.now

pub collect-long_calls-requires-clause-few : goal.collect-long_calls-requires-clause-few
collect-long_calls-requires-clause-few c = omega (arith, every_leg c.args.group.now, members_many (one_group c.args.group.now))

pub collect-long_calls-requires-clause-strikes_room : goal.collect-long_calls-requires-clause-strikes_room
collect-long_calls-requires-clause-strikes_room c = omega (arith, every_leg c.args.group.now, c.requires.strikes_room)

pub collect-long_calls-requires-clause-units_room : goal.collect-long_calls-requires-clause-units_room
collect-long_calls-requires-clause-units_room c = omega (arith, every_leg c.args.group.now, c.requires.units_room)

pub collect-longs-requires-clause-few : goal.collect-longs-requires-clause-few
collect-longs-requires-clause-few c = omega (arith, every_leg c.args.group.now, members_many (one_group c.args.group.now), c.collect-long_calls.ensures.value)

pub collect-longs-requires-clause-strikes_room : goal.collect-longs-requires-clause-strikes_room
collect-longs-requires-clause-strikes_room c = omega (arith, every_leg c.args.group.now, c.requires.strikes_room, c.collect-long_calls.ensures.value, c.collect-long_calls.ensures.strikes_placed.0)

pub collect-longs-requires-clause-units_room : goal.collect-longs-requires-clause-units_room
collect-longs-requires-clause-units_room c = omega (arith, every_leg c.args.group.now, c.requires.units_room, c.collect-long_calls.ensures.value, c.collect-long_calls.ensures.units_placed.0)

pub collect-shorts-requires-clause-few : goal.collect-shorts-requires-clause-few
collect-shorts-requires-clause-few c = omega (arith, every_leg c.args.group.now, members_many (one_group c.args.group.now), c.collect-long_calls.ensures.value, c.collect-longs.ensures.value)

pub collect-shorts-requires-clause-strikes_room : goal.collect-shorts-requires-clause-strikes_room
collect-shorts-requires-clause-strikes_room c = omega (arith, every_leg c.args.group.now, c.requires.strikes_room, c.collect-long_calls.ensures.value, c.collect-longs.ensures.value, c.collect-long_calls.ensures.strikes_placed.0, c.collect-longs.ensures.strikes_placed.0)

pub collect-shorts-requires-clause-units_room : goal.collect-shorts-requires-clause-units_room
collect-shorts-requires-clause-units_room c = omega (arith, every_leg c.args.group.now, c.requires.units_room, c.collect-long_calls.ensures.value, c.collect-longs.ensures.value, c.collect-long_calls.ensures.units_placed.0, c.collect-longs.ensures.units_placed.0)

pub collect-all-requires-clause-few : goal.collect-all-requires-clause-few
collect-all-requires-clause-few c = omega (arith, every_leg c.args.group.now, members_many (one_group c.args.group.now), c.collect-long_calls.ensures.value, c.collect-longs.ensures.value, c.collect-shorts.ensures.value)

pub collect-all-requires-clause-strikes_room : goal.collect-all-requires-clause-strikes_room
collect-all-requires-clause-strikes_room c = omega (arith, every_leg c.args.group.now, c.requires.strikes_room, c.collect-long_calls.ensures.value, c.collect-longs.ensures.value, c.collect-shorts.ensures.value, c.collect-long_calls.ensures.strikes_placed.0, c.collect-longs.ensures.strikes_placed.0, c.collect-shorts.ensures.strikes_placed.0)

pub collect-all-requires-clause-units_room : goal.collect-all-requires-clause-units_room
collect-all-requires-clause-units_room c = omega (arith, every_leg c.args.group.now, c.requires.units_room, c.collect-long_calls.ensures.value, c.collect-longs.ensures.value, c.collect-shorts.ensures.value, c.collect-long_calls.ensures.units_placed.0, c.collect-longs.ensures.units_placed.0, c.collect-shorts.ensures.units_placed.0)

pub returns : goal.returns
returns c =
    let a = c.collect-long_calls.ensures in
    let b = c.collect-longs.ensures in
    let d = c.collect-shorts.ensures in
    let e = c.collect-all.ensures in
    let legs = legs_in c.args.group.now in
    record {
      strikes = column_of_lem strike_of legs a.strikes_placed.1 b.strikes_placed.1 d.strikes_placed.1 e.strikes_placed.1;
      units = column_of_lem units_for legs a.units_placed.1 b.units_placed.1 d.units_placed.1 e.units_placed.1;
      long_calls = omega (arith, a.value);
      longs = omega (arith, a.value, b.value);
      short_calls = omega (arith, d.value);
      all = omega (arith, a.value, b.value, d.value, e.value, classes_all legs (members_ranges (one_group c.args.group.now)));
    }
