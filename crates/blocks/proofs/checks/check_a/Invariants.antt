use Rattle.std.proofs.Common.{◌≡◌, ◌+◌, ◌%◌}
use lib.ListN.{drop}
use Rattle.blocks.specs.Sums.{byte_sum}
use Rattle.blocks.proofs.checks.check_a.Given as goal

-- what is summed so far and the bytes left have the sum of all, but for what wraps
abbrev pub invariant-loop-byte : goal.invariant-loop-byte
invariant-loop-byte l = (l.sum + byte_sum (drop l.byte-index l.s)) % 65536 ≡ byte_sum l.s % 65536
