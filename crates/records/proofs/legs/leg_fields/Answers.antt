use Rattle.records.specs.Legs.{leg_fields}
use Rattle.records.proofs.ByteLaws.{byte_is}
use Rattle.records.proofs.legs.leg_fields.Goals as goal

pub returns : goal.returns
unfolding leg_fields
returns c =
    let xs = c.args.part.now in
    rw (
      c.u16_in.ensures,
      c.u16_in-2.ensures,
      c.u32_in.ensures,
      c.u32_in-2.ensures,
      c.u32_in-3.ensures,
      c.u32_in-4.ensures,
      ← (byte_is xs 2),
      ← (byte_is xs 3),
      ← (byte_is xs 4),
      ← (byte_is xs 5),
      ← (byte_is xs 24),
      ← (byte_is xs 25),
    )
