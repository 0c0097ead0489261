use Rattle.records.specs.Claims.{claim_fields}
use Rattle.records.proofs.claims.claim_fields.Goals as goal

pub returns : goal.returns
unfolding claim_fields
returns c = rw (c.u16_in.ensures, c.u64_in.ensures)
