use Rattle.std.proofs.Common.{sym}
use lib.Seq.{length-take-le}
use Rattle.records.proofs.PutLaws.{put_holds}
use Rattle.bench.proofs.print_table.Goals as goal

pub slice_bounds-text-end : goal.slice_bounds-text-end
slice_bounds-text-end c = let k = c.table_text-k.ensures in rw (k.out_after, k.value) (put_holds _ _)

pub slice_bounds-write_all-end : goal.slice_bounds-write_all-end
slice_bounds-write_all-end c = let k = c.table_text-k.ensures in sym (length-take-le _ _ (rw (k.out_after, k.value) (put_holds _ _)))
