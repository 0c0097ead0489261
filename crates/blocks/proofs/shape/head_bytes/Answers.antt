use Rattle.std.proofs.Common.{◌≡◌, ◌<◌, ◌/◌, ◌%◌, ℕ, arith}
use Rattle.records.specs.Bytes.{le_bytes}
use Rattle.blocks.specs.Block.{head_of}
use Rattle.blocks.specs.declared.forms.Frame.{Frame}
use Rattle.blocks.proofs.shape.head_bytes.Goals as goal

high : (n : ℕ) → n < 65536 → n / 256 % 256 ≡ n / 256
high n h = omega arith

-- of a file's number of blocks, which stands in a frame
frame_high : (g : Frame) → g.blocks < 65536 → g.blocks / 256 % 256 ≡ g.blocks / 256
frame_high g h = high _ h

pub returns : goal.returns
unfolding head_of le_bytes
returns c =
    let n = high c.args.number (omega arith) in
    let m = frame_high c.args.frame (omega arith) in
    rw (c.mark_of-mark.ensures, c.table_number.ensures, c.to_le_bytes-number.ensures, c.to_le_bytes-blocks.ensures, n, m)
