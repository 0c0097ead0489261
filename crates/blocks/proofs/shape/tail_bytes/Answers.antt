use Rattle.std.proofs.Common.{◌≡◌, ◌<◌, ◌/◌, ◌%◌, ◌^◌, ◌++◌, ◌∙◌, ℕ, List, ap, arith}
use Rattle.std.specs.Int.{w64, to_le_bytes}
use Rattle.records.specs.Bytes.{le_bytes}
use Rattle.blocks.specs.Block.{tail_of, zeros}
use Rattle.blocks.proofs.shape.tail_bytes.Goals as goal

eight : (n : ℕ) → n < 2 ^ 64 → to_le_bytes w64 n ≡ le_bytes n 8
unfolding le_bytes
eight n h =
    let b2 : n / 256 / 256 ≡ n / 65536 = omega arith in
    let b3 : n / 65536 / 256 ≡ n / 16777216 = omega arith in
    let b4 : n / 16777216 / 256 ≡ n / 4294967296 = omega arith in
    let b5 : n / 4294967296 / 256 ≡ n / 1099511627776 = omega arith in
    let b6 : n / 1099511627776 / 256 ≡ n / 281474976710656 = omega arith in
    let b7 : n / 281474976710656 / 256 ≡ n / 72057594037927936 = omega arith in
    let last : n / 72057594037927936 % 256 ≡ n / 72057594037927936 = omega arith in
    rw (b2, b3, b4, b5, b6, b7, last)

pub returns : goal.returns
unfolding tail_of
returns c = ap (λ (l : List ℕ). l ++ zeros 4) (c.copy_from_slice.ensures.after ∙ c.to_le_bytes.ensures ∙ eight c.args.account (omega arith))
