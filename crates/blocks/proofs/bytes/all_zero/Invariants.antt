use Rattle.std.proofs.Common.{◌≡◌, ◌&&◌, drop}
use Rattle.records.specs.Bytes.{is_zero}
use Rattle.records.specs.Lists.{all_of}
use Rattle.blocks.proofs.bytes.all_zero.Given as goal

-- all are zero where those so far are and those left are
abbrev pub invariant-loop-byte : goal.invariant-loop-byte
invariant-loop-byte l = (l.zero && all_of is_zero (drop l.byte-index l.x)) ≡ all_of is_zero l.x
