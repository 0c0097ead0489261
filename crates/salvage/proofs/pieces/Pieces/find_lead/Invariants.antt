use Rattle.std.proofs.Common.{◌≡◌}
use Rattle.salvage.specs.Pieces.{pieces_of}
use Rattle.salvage.specs.Kept.{lead_of}
use Rattle.salvage.proofs.PieceLaws.{pieces_from}
use Rattle.salvage.proofs.pieces.Pieces.find_lead.Given as goal

-- no piece before piece i is sound
abbrev pub invariant-loop-i : goal.invariant-loop-i
invariant-loop-i l = lead_of (pieces_of l.self.bytes.now) ≡ lead_of (pieces_from l.self.bytes.now l.i)
