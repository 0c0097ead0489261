use Rattle.std.proofs.Common.{refl, ap, ◌∙◌, length, arith}
use lib.ListN.{length-append}
use Rattle.records.specs.Chunks.{chunk_at}
use Rattle.blocks.specs.File.{records_as}
use Rattle.blocks.proofs.FileLaws.{earlier, joined_back, joined_to, joined_next, joined_end, part_is_as, blocks_long}
use Rattle.blocks.proofs.copier.kind_bytes.Goals as goal

pub loop-block-init : goal.loop-block-init
unfolding joined_back earlier
loop-block-init c = (c.blocks_of-block-items.ensures.value, omega arith, refl)

pub overflow_add-bytes : goal.overflow_add-bytes
overflow_add-bytes c = omega (arith, c.loop-block.invariant.1)

pub loop-block-preserved : goal.loop-block-preserved
loop-block-preserved c =
    let kind = c.args.kind in
    let f = c.args.file.now in
    let i = c.loop-block.block-index in
    let r = records_as kind (chunk_at 512 f i) in
    let p = part_is_as kind f _ i _ c.loop-block.invariant.0 c.loop-block-test.true c.records_as.ensures.value in (
      c.loop-block.invariant.0,
      omega (arith, c.loop-block.invariant.1, c.records_as.ensures.size),
      rw (joined_next kind f i, length-append (joined_to kind f i) r) (omega (arith, ap length p.1, c.loop-block.invariant.2)),
    )

pub returns : goal.returns
returns c =
    let l = c.loop-block in
    let f = c.args.file.now in
    l.invariant.2 ∙ ap length (joined_end c.args.kind f l.block-index (omega (arith, blocks_long f _ l.invariant.0)))
