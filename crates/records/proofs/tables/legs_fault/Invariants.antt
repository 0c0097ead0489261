use Rattle.std.proofs.Common.{◌≡◌, true, drop}
use Rattle.records.specs.Dates.{real_date}
use Rattle.records.specs.Legs.{good_leg}
use Rattle.records.specs.Order.{first_of, ask_each}
use Rattle.records.specs.Tables.{table_number}
use Rattle.records.proofs.tables.legs_fault.Given as goal

abbrev pub invariant-loop-place : goal.invariant-loop-place
invariant-loop-place l =
    record {
      real : real_date l.known ≡ true;
      so_far : first_of (ask_each (good_leg l.top) 4 (table_number l.kind) 0 l.record-items) ≡ first_of (ask_each (good_leg l.top) 4 (table_number l.kind) l.place (drop l.place l.record-items));
    }
