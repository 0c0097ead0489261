use Rattle.std.proofs.Common.{◌≡◌, length}
use Rattle.records.specs.Written.{put_at}
use Rattle.blocks.specs.File.{blocks_of}
use Rattle.blocks.proofs.FileLaws.{joined_to}
use Rattle.blocks.proofs.copier.copy_kind.Given as goal

-- the kind's records of the blocks before this one stand in the table, and `copied` says where they end
abbrev pub invariant-loop-block : goal.invariant-loop-block
invariant-loop-block l =
    (l.block-items ≡ blocks_of l.file)
    × (l.copied ≡ length (joined_to l.kind l.file l.block-index))
    × (length l.table ≡ length l.fn.table)
    × (l.table ≡ put_at l.fn.table 0 (joined_to l.kind l.file l.block-index))
