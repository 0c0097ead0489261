use Rattle.std.proofs.Common.{◌≡◌, ◌*◌, ◌≤◌, length}
use Rattle.blocks.specs.File.{blocks_of}
use Rattle.blocks.proofs.FileLaws.{joined_to}
use Rattle.blocks.proofs.copier.kind_bytes.Given as goal

-- the bytes of the blocks before this one are counted
abbrev pub invariant-loop-block : goal.invariant-loop-block
invariant-loop-block l =
    (l.block-items ≡ blocks_of l.file) × (l.bytes ≤ 496 * l.block-index) × (l.bytes ≡ length (joined_to l.kind l.file l.block-index))
