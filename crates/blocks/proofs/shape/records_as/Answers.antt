use Rattle.std.proofs.Common.{◌≡◌, ◌+◌, ◌-◌, ◌*◌, drop, length, arith}
use Prim.Native.Nat.{min}
use lib.ListN.{length-drop}
use Rattle.records.proofs.ByteLaws.{byte_is}
use Rattle.records.proofs.ListLaws.{take_min}
use Rattle.blocks.specs.File.{count_as}
use Rattle.blocks.proofs.shape.records_as.Goals as goal

pub returns-clause-value : goal.returns-clause-value
returns-clause-value c =
    let b = c.args.block.now in
    let m = c.min-bytes.result in
    let cut : 16 + m - 16 ≡ m = omega arith in
    let left : length (drop 16 b) ≡ 496 = simp length-drop (omega arith) in
    let counted : c.counted_as-count.result ≡ count_as c.args.kind b = rw (byte_is b 4, byte_is b 5) c.counted_as-count.ensures.0 in
    let size : m ≡ min (32 * count_as c.args.kind b) (length (drop 16 b)) = omega (arith, left, counted, c.min-bytes.ensures) in
    rw cut (take_min m (32 * count_as c.args.kind b) (drop 16 b) size)
