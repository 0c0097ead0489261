use Rattle.std.proofs.Common.{◌≡◌, ◌+◌, ◌≤◌, refl, ap, ◌∙◌, length, arith, rules}
use lib.ListN.{length-append}
use Rattle.records.specs.Chunks.{chunk_at}
use Rattle.records.specs.Written.{put_at}
use Rattle.records.proofs.PutLaws.{put_none, put_put, put_room, length_put_at}
use Rattle.blocks.specs.File.{records_as}
use Rattle.blocks.proofs.FileLaws.{earlier, joined_back, joined_to, joined_next, joined_end, joined_room, part_is_as, blocks_long}
use Rattle.blocks.proofs.copier.copy_kind.Goals as goal

pub loop-block-init : goal.loop-block-init
unfolding joined_back earlier
loop-block-init c = let d = c.args.table.now in (c.blocks_of-block-items.ensures.value, refl, refl, put_none d 0 d)

-- the records of this block have room in the table
pub overflow_add-copied : goal.overflow_add-copied
overflow_add-copied c =
    let l = c.loop-block in
    let p = part_is_as c.args.kind c.args.file.now _ l.block-index _ l.invariant.0 c.loop-block-test.true c.records_as-part.ensures.value in
    omega (arith, l.invariant.1, ap length p.1, joined_room c.args.kind c.args.file.now l.block-index p.0, c.requires)

pub loop-block-preserved : goal.loop-block-preserved
loop-block-preserved c =
    let kind = c.args.kind in
    let f = c.args.file.now in
    let l = c.loop-block in
    let i = l.block-index in
    let back = joined_to kind f i in
    let r = records_as kind (chunk_at 512 f i) in
    let p = part_is_as kind f _ i _ l.invariant.0 c.loop-block-test.true c.records_as-part.ensures.value in
    let room : l.copied + length r ≤ length l.table = omega (arith, l.invariant.1, l.invariant.2, joined_room kind f i p.0, c.requires) in
    let put = rw p.1 at c.copy_to.ensures ∙ put_room l.table l.copied r room in (
      l.invariant.0,
      rw (joined_next kind f i, length-append back r) (omega (arith, ap length p.1, l.invariant.1)),
      rw put (length_put_at l.table l.copied r room ∙ l.invariant.2),
      rw (joined_next kind f i, put, l.invariant.3) (put_put c.args.table.now back r 0 l.copied (omega arith) (omega (arith, l.invariant.1))),
    )

pub returns : goal.returns
returns c =
    let l = c.loop-block in
    let f = c.args.file.now in
    l.invariant.3 ∙ ap (put_at c.args.table.now 0) (joined_end c.args.kind f l.block-index (omega (arith, blocks_long f _ l.invariant.0)))
