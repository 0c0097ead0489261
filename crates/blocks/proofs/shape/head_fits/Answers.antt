use Rattle.std.proofs.Common.{take}
use Rattle.records.specs.Bytes.{zero_in}
use Rattle.records.proofs.ByteLaws.{byte_is}
use Rattle.blocks.proofs.SameLaws.{same_is}
use Rattle.blocks.specs.Block.{head_fits}
use Rattle.blocks.proofs.shape.head_fits.Goals as goal

pub returns : goal.returns
unfolding head_fits zero_in
returns c =
    let b = c.args.block.now in
    rw (byte_is b 4, byte_is b 5, c.all_zero.ensures, c.eq.ensures, same_is (take 4 b) c.mark_of-mark.result, c.mark_of-mark.ensures)
