use Rattle.spreads.specs.Steps.Columns.{strike_of, units_for}
use Rattle.spreads.proofs.ColumnLaws.{Filling}
use Rattle.spreads.proofs.columns.collect.Given as goal

-- both columns, with the legs of the class that are left put behind their first k entries, are what they are to be
abbrev pub invariant-loop-i : goal.invariant-loop-i
invariant-loop-i l =
    record {
      strikes : Filling strike_of l.class.side l.class.right l.group.placement.now l.group.members.now l.at l.initial.strike_column l.k l.i l.strike_column;
      units : Filling units_for l.class.side l.class.right l.group.placement.now l.group.members.now l.at l.initial.unit_column l.k l.i l.unit_column;
    }
