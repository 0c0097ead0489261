use Rattle.std.proofs.Common.{◌≡◌, ◌-◌, ◌*◌, ℕ, ap, length, arith}
use lib.ListN.{get_or}
use Rattle.blocks.specs.Sums.{check_b}
use Rattle.blocks.proofs.SumLaws.{weighted_sum_next, weighted_sum_none}
use Rattle.blocks.proofs.checks.check_b.Goals as goal

pub loop-byte-preserved : goal.loop-byte-preserved
loop-byte-preserved c =
    let s = c.args.s.now in
    let i = c.loop-byte.byte-index in
    let y = weighted_sum_next s i c.loop-byte-test.true in
    let z : c.loop-byte.weight * get_or s i 0 ≡ (length s - i) * get_or s i 0 = ap (λ (n : ℕ). n * get_or s i 0) c.loop-byte.invariant.0 in
    (omega (arith, c.loop-byte.invariant.0), omega (arith, y, z, c.loop-byte.invariant.1))

pub returns : goal.returns
unfolding check_b
returns c =
    let x = weighted_sum_none c.args.s.now c.loop-byte.byte-index (omega arith) in
    omega (arith, x, c.loop-byte.invariant.1)
