use Rattle.std.proofs.Common.{refl, ap, ◌∙◌, arith}
use Rattle.records.specs.declared.counts.Units.{Units}
use Rattle.spreads.proofs.ColumnLaws.{member_units, filling_none, filling_room, filling_in, filling_out, filling_done}
use Rattle.spreads.proofs.OneGroups.{one_group}
use Rattle.spreads.proofs.columns.collect.Goals.{then-leg-class, else-leg-class}
use Rattle.spreads.proofs.columns.collect.Goals as goal

pub loop-i-init : goal.loop-i-init
loop-i-init c =
    record { strikes = filling_none _ _ _ _ _ _ _ c.requires.few c.requires.strikes_room; units = filling_none _ _ _ _ _ _ _ c.requires.few c.requires.units_room }

-- index k is in both columns
pub bounds-strike_column-k : goal.bounds-strike_column-k
bounds-strike_column-k c = (filling_room c.loop-i.invariant.strikes (omega arith) c.leg-leg.ensures c.if-leg-class.true).0

pub bounds-unit_column-k : goal.bounds-unit_column-k
bounds-unit_column-k c = (filling_room c.loop-i.invariant.units (omega arith) c.leg-leg.ensures c.if-leg-class.true).0

pub offset_bounds-strike_column-k : goal.offset_bounds-strike_column-k
offset_bounds-strike_column-k c = omega (arith, filling_room c.loop-i.invariant.strikes (omega arith) c.leg-leg.ensures c.if-leg-class.true)

pub offset_bounds-unit_column-k : goal.offset_bounds-unit_column-k
offset_bounds-unit_column-k c = omega (arith, filling_room c.loop-i.invariant.units (omega arith) c.leg-leg.ensures c.if-leg-class.true)

pub overflow_cast-unit_column : goal.overflow_cast-unit_column
overflow_cast-unit_column c =
    omega (arith, c.number.ensures, ap (λ (u : Units). u.0) c.units.ensures, member_units (one_group c.args.group.now) (omega arith) c.leg-leg.ensures)

pub loop-i-preserved : goal.loop-i-preserved
loop-i-preserved c =
    let inv = c.loop-i.invariant in
    elim c.if-leg-class.branch [
      | then-leg-class w ↦ record {
        strikes = filling_in inv.strikes (omega arith) c.leg-leg.ensures w.if-leg-class.true refl w.strike_column-is w.k-is;
        units = filling_in inv.units (omega arith) c.leg-leg.ensures w.if-leg-class.true (w.number.ensures ∙ ap (λ (u : Units). u.0) w.units.ensures) w.unit_column-is w.k-is;
      }
      | else-leg-class w ↦ record {
        strikes = filling_out inv.strikes (omega arith) c.leg-leg.ensures w.if-leg-class.false w.strike_column-is w.k-is;
        units = filling_out inv.units (omega arith) c.leg-leg.ensures w.if-leg-class.false w.unit_column-is w.k-is;
      }
    ]

pub returns-clause-value : goal.returns-clause-value
returns-clause-value c = (filling_done c.loop-i.invariant.strikes (omega arith)).0

pub returns-clause-strikes_placed : goal.returns-clause-strikes_placed
returns-clause-strikes_placed c = (c.loop-i.invariant.strikes.same, (filling_done c.loop-i.invariant.strikes (omega arith)).1)

pub returns-clause-units_placed : goal.returns-clause-units_placed
returns-clause-units_placed c = (c.loop-i.invariant.units.same, (filling_done c.loop-i.invariant.units (omega arith)).1)
