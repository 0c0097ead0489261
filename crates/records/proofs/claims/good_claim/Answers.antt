use Rattle.std.proofs.Common.{◌≡◌, length, arith}
use borrow.Author.Tests.{eq-eqb, le-leb}
use Rattle.records.specs.Claims.{claim_of, good_claim}
use Rattle.records.proofs.ByteLaws.{zero_in_lem, zero_both}
use Rattle.records.proofs.claims.good_claim.Goals as goal

pub returns : goal.returns
unfolding good_claim claim_of
returns c =
    let xs = c.args.part.now in
    let many : length xs ≡ 32 = omega arith in
    rw (
      c.u64_in-2.ensures,
      c.u64_in.ensures,
      c.u32_in.ensures,
      c.u16_in.ensures,
      c.is_within.ensures,
      c.claim_fields-claim.ensures,
      eq-eqb (length xs) 32 many,
      le-leb 32 (length xs) (omega arith),
      zero_in_lem xs 2 7 (omega arith) (omega arith),
      zero_in_lem xs 16 31 (omega arith) (omega arith),
      ← zero_both xs 2 4 2 (omega arith),
      ← zero_both xs 8 8 16 (omega arith),
    )
