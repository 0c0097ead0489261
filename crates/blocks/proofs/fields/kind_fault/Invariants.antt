use Rattle.std.proofs.Common.{◌≡◌, ◌*◌, ◌≤◌}
use Rattle.records.specs.Order.{first_of}
use Rattle.records.specs.Tables.{field_checks}
use Rattle.blocks.specs.File.{blocks_of, joined}
use Rattle.blocks.proofs.FileLaws.{blocks_from}
use Rattle.blocks.proofs.FieldLaws.{fault_from}
use Rattle.blocks.proofs.fields.kind_fault.Given as goal

-- no record of the blocks before this one is refused, and `first` counts them: the answer is that of the blocks left
abbrev pub invariant-loop-block : goal.invariant-loop-block
invariant-loop-block l =
    (l.block-items ≡ blocks_of l.file)
    × (l.first ≤ 15 * l.block-index)
    × (first_of (field_checks l.kind (joined l.kind (blocks_of l.file))) ≡ fault_from l.kind l.first (blocks_from l.file l.block-index))
