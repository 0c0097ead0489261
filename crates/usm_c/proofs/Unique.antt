-- No two different outcomes satisfy a promise of this crate: a law for each public function, named after it, with a part for
-- the result and one for each lent slice. A law cites the contract itself: one that settles less is refused here.
use Rattle.records.specs.OneOutcome.{OneOutcome}
use Rattle.records.proofs.OutcomeLaws.{by_parts}
use Rattle.usm_c.specs.contracts
use Rattle.usm_c.proofs as usm_c

usm_check_table_unique : OneOutcome contracts.usm_check_table.ended usm_c.usm_check_table.Reads.Learnt
usm_check_table_unique = by_parts λ κs a o p x y. (cc, cc)

usm_margin_unique : OneOutcome contracts.usm_margin.ended usm_c.usm_margin.Reads.Learnt
usm_margin_unique = by_parts λ κs a o p x y. (cc, cc)

usm_cash_unique : OneOutcome contracts.usm_cash.ended usm_c.usm_cash.Reads.Learnt
usm_cash_unique = by_parts λ κs a o p x y. (cc, cc)

usm_margins_unique : OneOutcome contracts.usm_margins.ended usm_c.usm_margins.Reads.Learnt
usm_margins_unique = by_parts λ κs a o p x y. (cc, (cc, cc))

usm_worksheet_unique : OneOutcome contracts.usm_worksheet.ended usm_c.usm_worksheet.Reads.Learnt
usm_worksheet_unique = by_parts λ κs a o p x y. (cc, (cc, (cc, cc)))

usm_check_sheet_unique : OneOutcome contracts.usm_check_sheet.ended usm_c.usm_check_sheet.Reads.Learnt
usm_check_sheet_unique = by_parts λ κs a o p x y. (cc, cc)

usm_mark_paid_unique : OneOutcome contracts.usm_mark_paid.ended usm_c.usm_mark_paid.Reads.Learnt
usm_mark_paid_unique = by_parts λ κs a o p x y. (cc, (cc, cc))

usm_check_file_unique : OneOutcome contracts.usm_check_file.ended usm_c.usm_check_file.Reads.Learnt
usm_check_file_unique = by_parts λ κs a o p x y. (cc, cc)

usm_read_file_unique : OneOutcome contracts.usm_read_file.ended usm_c.usm_read_file.Reads.Learnt
usm_read_file_unique = by_parts λ κs a o p x y. (cc, (cc, (cc, (cc, (cc, cc)))))

usm_write_file_unique : OneOutcome contracts.usm_write_file.ended usm_c.usm_write_file.Reads.Learnt
usm_write_file_unique = by_parts λ κs a o p x y. (cc, (cc, cc))

usm_move_to_new_unique : OneOutcome contracts.usm_move_to_new.ended usm_c.usm_move_to_new.Reads.Learnt
usm_move_to_new_unique = by_parts λ κs a o p x y. (cc, (cc, cc))

usm_move_to_old_unique : OneOutcome contracts.usm_move_to_old.ended usm_c.usm_move_to_old.Reads.Learnt
usm_move_to_old_unique = by_parts λ κs a o p x y. (cc, (cc, cc))

usm_play_fills_unique : OneOutcome contracts.usm_play_fills.ended usm_c.usm_play_fills.Reads.Learnt
usm_play_fills_unique = by_parts λ κs a o p x y. (cc, (cc, (cc, (cc, cc))))

usm_import_unique : OneOutcome contracts.usm_import.ended usm_c.usm_import.Reads.Learnt
usm_import_unique = by_parts λ κs a o p x y. (cc, (cc, cc))

usm_export_unique : OneOutcome contracts.usm_export.ended usm_c.usm_export.Reads.Learnt
usm_export_unique = by_parts λ κs a o p x y. (cc, (cc, cc))

usm_salvage_unique : OneOutcome contracts.usm_salvage.ended usm_c.usm_salvage.Reads.Learnt
usm_salvage_unique = by_parts λ κs a o p x y. (cc, (cc, (cc, (cc, cc))))

usm_binary_margin_unique : OneOutcome contracts.usm_binary_margin.ended usm_c.usm_binary_margin.Reads.Learnt
usm_binary_margin_unique = by_parts λ κs a o p x y. (cc, cc)

usm_binary_pair_unique : OneOutcome contracts.usm_binary_pair.ended usm_c.usm_binary_pair.Reads.Learnt
usm_binary_pair_unique = by_parts λ κs a o p x y. (cc, cc)

usm_file_line_unique : OneOutcome contracts.usm_file_line.ended usm_c.usm_file_line.Reads.Learnt
usm_file_line_unique = by_parts λ κs a o p x y. (cc, cc)

usm_file_table_unique : OneOutcome contracts.usm_file_table.ended usm_c.usm_file_table.Reads.Learnt
usm_file_table_unique = by_parts λ κs a o p x y. (cc, cc)
