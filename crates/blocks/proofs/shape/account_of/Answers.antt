use Rattle.std.proofs.Common.{◌≡◌, ◌<◌, ◌+◌, ℕ, List, take, drop, ap, ◌∙◌, arith}
use Rattle.std.proofs.lemmas.List.{get_or-take, get_or-drop}
use Rattle.std.specs.Int.{w64, from_le_bytes}
use lib.ListN.{get_or}
use Rattle.records.specs.Bytes.{le_at}
use Rattle.blocks.specs.Forms.{kept}
use Rattle.blocks.proofs.shape.account_of.Goals as goal

byte : (b : List ℕ) (i : ℕ) → i < 8 → get_or (take 8 (take 16 (drop 496 b))) i 0 ≡ get_or b (496 + i) 0
byte b i h = get_or-take 8 (take 16 (drop 496 b)) i 0 h ∙ get_or-take 16 (drop 496 b) i 0 (omega arith) ∙ get_or-drop 496 b i 0

-- eight bytes, as they stand in the block
said : (b y : List ℕ) → y ≡ take 8 (take 16 (drop 496 b)) → from_le_bytes w64 y ≡ le_at b 496 8
unfolding le_at
said b y e =
    rw e
    (omega (arith, byte b 0 (omega arith), byte b 1 (omega arith), byte b 2 (omega arith), byte b 3 (omega arith), byte b 4 (omega arith), byte b 5 (omega arith), byte b 6 (omega arith), byte b 7 (omega arith)))

pub returns : goal.returns
returns c =
    let h = rw c.unwrap-bytes.ensures at c.first_chunk.ensures.cases in
    c.kept_in.ensures ∙ ap (kept c.args.form) (c.from_le_bytes.ensures ∙ said c.args.block.now c.unwrap-bytes.result.now h.same)
