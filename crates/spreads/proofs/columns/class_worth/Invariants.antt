use Rattle.std.proofs.Common.{◌≡◌, ◌+◌, drop}
use Rattle.spreads.specs.Steps.Columns.{class_worth}
use Rattle.spreads.proofs.columns.class_worth.Given as goal

-- the sum so far, and what the entries that are left are worth, is the worth of all
abbrev pub invariant-loop-i : goal.invariant-loop-i
invariant-loop-i l =
    record {
      counted : l.values ≡ l.i;
      added : l.mills + class_worth l.right l.price (drop l.i l.strikes) (drop l.i l.units) ≡ class_worth l.right l.price l.strikes l.units;
    }
