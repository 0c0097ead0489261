use Rattle.std.proofs.Common.{◌∙◌, arith}
use Rattle.records.specs.Bytes.{le_bytes}
use Rattle.records.specs.Legs.{leg_bytes}
use Rattle.records.proofs.WordLaws.{two_bytes, four_bytes}
use Rattle.records.proofs.legs.leg_bytes.Goals as goal

pub returns : goal.returns
unfolding leg_bytes le_bytes
returns c =
    let l = c.args.leg in
    rw (
      c.copy_from_slice.ensures.after ∙ c.to_le_bytes.ensures ∙ two_bytes l.group (omega arith),
      c.copy_from_slice-2.ensures.after ∙ c.to_le_bytes-2.ensures ∙ two_bytes l.size (omega arith),
      c.copy_from_slice-3.ensures.after ∙ c.to_le_bytes-3.ensures ∙ four_bytes l.underlying (omega arith),
      c.copy_from_slice-4.ensures.after,
      c.to_le_bytes-strike.ensures ∙ four_bytes l.strike (omega arith),
      c.copy_from_slice-5.ensures.after ∙ c.to_le_bytes-4.ensures ∙ four_bytes l.expiry (omega arith),
      c.copy_from_slice-6.ensures.after ∙ c.to_le_bytes-5.ensures ∙ four_bytes l.contracts.0 (omega arith),
    )
