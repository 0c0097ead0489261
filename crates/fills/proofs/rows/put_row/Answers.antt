use Rattle.std.proofs.Common.{◌≡◌, ◌+◌, ◌-◌, ◌*◌, length, drop-drop, append_assoc, arith}
use Rattle.records.specs.Written.{put_at}
use Rattle.records.specs.Legs.{leg_bytes}
use Rattle.records.proofs.LegLaws.{length_leg_bytes}
use Rattle.fills.proofs.rows.put_row.Goals as goal

pub returns : goal.returns
unfolding put_at
returns c =
    let at = 32 * c.args.i in
    let many : at + 32 - at ≡ length (leg_bytes c.args.leg) = omega (arith, length_leg_bytes c.args.leg) in
    rw (c.copy_from_slice.ensures.after, c.leg_bytes.ensures, drop-drop (at + 32 - at) at c.args.rows.now, many) (simp append_assoc)
