use Rattle.std.proofs.Common.{refl, arith}
use Rattle.records.proofs.ByteLaws.{zero_in_lem, high_zero}
use Rattle.records.proofs.legs.zero_filler.Goals as goal

pub returns : goal.returns
returns c =
    let xs = c.args.part.now in
    rw (zero_in_lem xs 26 31 (omega arith) (omega arith), ← high_zero xs 2 6 24 (omega arith), c.u16_in.ensures, c.u64_in.ensures) refl
