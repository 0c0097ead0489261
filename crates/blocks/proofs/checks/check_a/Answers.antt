use Rattle.std.proofs.Common.{arith}
use Rattle.blocks.specs.Sums.{check_a}
use Rattle.blocks.proofs.SumLaws.{byte_sum_next, byte_sum_none}
use Rattle.blocks.proofs.checks.check_a.Goals as goal

pub loop-byte-preserved : goal.loop-byte-preserved
loop-byte-preserved c =
    let y = byte_sum_next c.args.s.now c.loop-byte.byte-index c.loop-byte-test.true in
    omega (arith, y, c.loop-byte.invariant)

pub returns : goal.returns
unfolding check_a
returns c =
    let x = byte_sum_none c.args.s.now c.loop-byte.byte-index (omega arith) in
    omega (arith, x, c.loop-byte.invariant)
