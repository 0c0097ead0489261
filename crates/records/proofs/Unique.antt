-- No two different outcomes satisfy a promise of this crate: a law for each public function, named after it, with a part for
-- the result and one for each lent slice. A law cites the contract itself: one that settles less is refused here.
use mathlib.Core.Path.{refl}
use Rattle.records.specs.OneOutcome.{OneOutcome}
use Rattle.records.proofs.OutcomeLaws.{by_parts}
use Rattle.records.specs.contracts
use Rattle.records.proofs as records

copy_to_unique : OneOutcome contracts.copy_to.ended records.copy_to.Reads.Learnt
copy_to_unique = by_parts λ κs a o p x y. (refl, cc)

check_table_unique : OneOutcome contracts.check_table.ended records.check_table.Reads.Learnt
check_table_unique = by_parts λ κs a o p x y. cc

field_fault_unique : OneOutcome contracts.field_fault.ended records.field_fault.Reads.Learnt
field_fault_unique = by_parts λ κs a o p x y. cc

fields_fault_unique : OneOutcome contracts.fields_fault.ended records.fields_fault.Reads.Learnt
fields_fault_unique = by_parts λ κs a o p x y. cc

good_record_unique : OneOutcome contracts.good_record.ended records.good_record.Reads.Learnt
good_record_unique = by_parts λ κs a o p x y. cc

whole_table_unique : OneOutcome contracts.whole_table.ended records.whole_table.Reads.Learnt
whole_table_unique = by_parts λ κs a o p x y. cc

whole_tables_unique : OneOutcome contracts.whole_tables.ended records.whole_tables.Reads.Learnt
whole_tables_unique = by_parts λ κs a o p x y. cc

in_limit_unique : OneOutcome contracts.in_limit.ended records.in_limit.Reads.Learnt
in_limit_unique = by_parts λ κs a o p x y. cc

table_number_unique : OneOutcome contracts.table_number.ended records.table_number.Reads.Learnt
table_number_unique = by_parts λ κs a o p x y. cc

leg_at_unique : OneOutcome contracts.leg_at.ended records.leg_at.Reads.Learnt
leg_at_unique = by_parts λ κs a o p x y. cc

leg_bytes_unique : OneOutcome contracts.leg_bytes.ended records.leg_bytes.Reads.Learnt
leg_bytes_unique = by_parts λ κs a o p x y. cc

claim_at_unique : OneOutcome contracts.claim_at.ended records.claim_at.Reads.Learnt
claim_at_unique = by_parts λ κs a o p x y. cc

leg_with_contracts_unique : OneOutcome contracts.legs.Leg.with_contracts.ended records.legs.Leg.with_contracts.Reads.Learnt
leg_with_contracts_unique = by_parts λ κs a o p x y. cc

leg_with_paid_unique : OneOutcome contracts.legs.Leg.with_paid.ended records.legs.Leg.with_paid.Reads.Learnt
leg_with_paid_unique = by_parts λ κs a o p x y. cc

u16_at_unique : OneOutcome contracts.u16_at.ended records.u16_at.Reads.Learnt
u16_at_unique = by_parts λ κs a o p x y. cc

same_line_unique : OneOutcome contracts.same_line.ended records.same_line.Reads.Learnt
same_line_unique = by_parts λ κs a o p x y. cc

same_line_side_unique : OneOutcome contracts.same_line_side.ended records.same_line_side.Reads.Learnt
same_line_side_unique = by_parts λ κs a o p x y. cc

real_date_unique : OneOutcome contracts.real_date.ended records.real_date.Reads.Learnt
real_date_unique = by_parts λ κs a o p x y. cc

contracts_of_unique : OneOutcome contracts.counts.Contracts.of.ended records.counts.Contracts.of.Reads.Learnt
contracts_of_unique = by_parts λ κs a o p x y. cc

contracts_units_unique : OneOutcome contracts.counts.Contracts.units.ended records.counts.Contracts.units.Reads.Learnt
contracts_units_unique = by_parts λ κs a o p x y. cc

contracts_number_unique : OneOutcome contracts.counts.Contracts.number.ended records.counts.Contracts.number.Reads.Learnt
contracts_number_unique = by_parts λ κs a o p x y. cc

contracts_plus_unique : OneOutcome contracts.counts.Contracts.plus.ended records.counts.Contracts.plus.Reads.Learnt
contracts_plus_unique = by_parts λ κs a o p x y. cc

units_none_unique : OneOutcome contracts.counts.Units.none.ended records.counts.Units.none.Reads.Learnt
units_none_unique = by_parts λ κs a o p x y. cc

units_plus_unique : OneOutcome contracts.counts.Units.plus.ended records.counts.Units.plus.Reads.Learnt
units_plus_unique = by_parts λ κs a o p x y. cc

units_number_unique : OneOutcome contracts.counts.Units.number.ended records.counts.Units.number.Reads.Learnt
units_number_unique = by_parts λ κs a o p x y. cc
