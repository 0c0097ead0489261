use Rattle.std.proofs.Common.{◌≡◌, ◌+◌, ◌-◌, ◌%◌, length}
use lib.ListN.{drop}
use Rattle.blocks.specs.Sums.{weighted_sum}
use Rattle.blocks.proofs.checks.check_b.Given as goal

-- the next byte weighs as many as are left; what is summed so far and they have the sum of all, but for what wraps
abbrev pub invariant-loop-byte : goal.invariant-loop-byte
invariant-loop-byte l =
    (l.weight ≡ length l.s - l.byte-index) × ((l.sum + weighted_sum (drop l.byte-index l.s)) % 65536 ≡ weighted_sum l.s % 65536)
