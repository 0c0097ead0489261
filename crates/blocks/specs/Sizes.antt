-- The sizes of a file and of its blocks, each named once: '1 to 39 blocks of 512 bytes', '16-495 the records'.
use Rattle.std.specs.Prelude.{ℕ, ◌*◌}
use Rattle.records.specs.Limits.{record_bytes}

abbrev pub block_bytes : ℕ
block_bytes = 512

abbrev pub most_blocks : ℕ
most_blocks = 39

-- '1 to 19,968 bytes'
abbrev pub most_file_bytes : ℕ
most_file_bytes = block_bytes * most_blocks

-- a full block has 15 records
abbrev pub full_block : ℕ
full_block = 15

-- and so many bytes of records
abbrev pub block_record_bytes : ℕ
block_record_bytes = full_block * record_bytes
