-- What crates above cite of this one besides its contracts and definitions: laws of blocks, files and what is in them. All else
-- in proofs/ is the crate's own.

-- a block, and a block by itself
pub use Rattle.blocks.proofs.BlockLaws.{kind_from, shape_is, kept_kept}
pub use Rattle.blocks.proofs.AloneLaws.{alone_torn, alone_3}
pub use Rattle.blocks.proofs.SoundBlocks.{refused_numbered, SoundAlone, sound_is, is_sound, sound_sized, SoundOf, file_sound}
-- a file, its blocks and its tables
pub use Rattle.blocks.proofs.FileLaws.{whole_file_lem}
pub use Rattle.blocks.proofs.GoodBlocks.{length_joined, GoodBlocks, whole_table_lem, read_good}
pub use Rattle.blocks.proofs.GoodFields.{GoodRecords, pass_good, good_pass, table_of_lem, own_records, good_joined}
pub use Rattle.blocks.proofs.FlatLaws.{length_file}
-- what reader, writer and moves answer
pub use Rattle.blocks.proofs.ReadLaws.{TableBytes, scanned_good, scanned_refused, scanned_blocks, scanned_bytes, copied_room}
pub use Rattle.blocks.proofs.WriteLaws.{some_not_empty, file_bytes_lem, write_done}
pub use Rattle.blocks.proofs.MoveLaws.{move_wrote, same_form_is}
-- round trips, and what a form leaves alone
pub use Rattle.blocks.proofs.WrittenThenRead.{written_reads_back}
pub use Rattle.blocks.proofs.ReadThenWritten.{read_writes_back}
pub use Rattle.blocks.proofs.Accounts.{moved_alike}
