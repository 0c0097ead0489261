use Rattle.std.proofs.Common.{◌≡◌, take}
use Rattle.records.specs.Written.{put_at}
use Rattle.records.proofs.bytes.copy_to.Given as goal

-- the first i bytes stand in their place
abbrev pub invariant-loop-i : goal.invariant-loop-i
invariant-loop-i l = l.to ≡ put_at l.initial.to l.at (take l.i l.from)
