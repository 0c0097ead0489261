use Rattle.std.proofs.Common.{◌≡◌, ◌+◌}
use Rattle.records.specs.Claims.{claim_of}
use Rattle.records.specs.Tables.{claims_of}
use Rattle.records.proofs.ChunkLaws.{rows_from}
use Rattle.sheets.specs.Sheets.{total_of}
use Rattle.sheets.proofs.claims.total_of.Given as goal

-- the total so far and the claims from i on add up to all claims
abbrev pub invariant-loop-i : goal.invariant-loop-i
invariant-loop-i l = l.total + total_of (rows_from claim_of l.claims l.i) ≡ total_of (claims_of l.claims)
