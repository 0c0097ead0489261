use Rattle.std.proofs.Common.{◌≡◌, take}
use Rattle.records.specs.Written.{put_at}
use Rattle.salvage.proofs.indices.copy_indices.Given as goal

-- the first i indices stand in their place
abbrev pub invariant-loop-i : goal.invariant-loop-i
invariant-loop-i l = l.to ≡ put_at l.initial.to 0 (take l.i l.from)
