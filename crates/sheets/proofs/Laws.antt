-- What crates above cite of this one besides its contracts and definitions: the demands, and laws of claims and rules. All else in
-- proofs/ is the crate's own.

pub use Rattle.sheets.proofs.Demands.{accepted_iff, covers, least_claims, work_counted, within_limit}
-- a sheet that keeps the rules
pub use Rattle.sheets.proofs.Judged.{sound_checked, kept_passes}
-- its claims
pub use Rattle.sheets.proofs.ClaimLaws.{claim_at}
pub use Rattle.sheets.proofs.Groups.{total_claims}
