-- 'A tool takes 1 to 19,968 bytes': pieces of 512 bytes in file order, of which the last may be torn.
use Rattle.std.specs.Prelude.{ℕ, ◌+◌, ◌-◌, ◌/◌, List, length}
use Rattle.records.specs.Chunks.{chunks}
use Rattle.blocks.specs.Sizes.{block_bytes}

abbrev pub piece_count : ℕ → ℕ
piece_count bytes = (bytes + (block_bytes - 1)) / block_bytes

abbrev pub pieces_of : List ℕ → List (List ℕ)
pieces_of bytes = chunks block_bytes (piece_count (length bytes)) bytes
