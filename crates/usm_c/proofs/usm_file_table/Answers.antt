use Rattle.usm_c.proofs.usm_file_table.Goals as goal

-- the length is that of the table, and not of the file
pub returns : goal.returns
returns c = record { value = c.table_text.ensures.value; text_after = c.table_text.ensures.out_after }
