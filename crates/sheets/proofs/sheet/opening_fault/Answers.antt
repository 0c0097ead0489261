use Rattle.std.proofs.Common.{◌≡◌, true, false, length}
use Rattle.records.specs.Order.{first_of}
use Rattle.records.specs.Tables.{whole_tables}
use Rattle.sheets.specs.Steps.Stages.{opening_checks}
use Rattle.sheets.proofs.sheet.opening_fault.Goals as goal

pub returns-then-whole_tables : goal.returns-then-whole_tables
unfolding opening_checks first_of
returns-then-whole_tables c =
    let a = c.args in
    let whole : whole_tables (length a.holdings.now) (length a.placement.now) (length a.claims.now) ≡ true = rw c.whole_tables.ensures at c.if-whole_tables.true in
    rw whole c.field_fault.ensures

pub returns : goal.returns
unfolding opening_checks first_of
returns c =
    let a = c.args in
    let torn : whole_tables (length a.holdings.now) (length a.placement.now) (length a.claims.now) ≡ false = rw c.whole_tables.ensures at c.if-whole_tables.false in
    rw torn
