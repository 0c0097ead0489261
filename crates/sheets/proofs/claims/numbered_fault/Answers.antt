use Rattle.std.proofs.Common.{ℕ, ◌+◌, ◌∙◌, rules}
use lib.Dec.{eqb}
use Rattle.records.specs.Chunks.{chunk_at}
use Rattle.records.specs.Claims.{claim_of}
use Rattle.sheets.proofs.PlaceLaws.{claims_places}
use Rattle.sheets.proofs.claims.numbered_fault.Goals as goal

pub returns : goal.returns
returns c =
    let xs = c.args.claims.now in
    c.refuse_first.ensures (λ (i : ℕ). eqb (claim_of (chunk_at 32 xs i)).group (i + 1)) (λ i low high b called. search rules) ∙ claims_places xs
