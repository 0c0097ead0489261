use Rattle.records.specs.Tables.{field_checks}
use Rattle.records.proofs.tables.field_fault.Goals as goal

pub returns-in-Holdings : goal.returns-in-Holdings
unfolding field_checks
returns-in-Holdings c = rw c.in-Holdings.is c.legs_fault.ensures

pub returns-in-Placement : goal.returns-in-Placement
unfolding field_checks
returns-in-Placement c = rw c.in-Placement.is c.legs_fault-in-Placement.ensures

pub returns-in-Claims : goal.returns-in-Claims
unfolding field_checks
returns-in-Claims c = rw c.in-Claims.is c.claims_fault.ensures
