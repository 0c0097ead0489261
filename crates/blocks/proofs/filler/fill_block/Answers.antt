use Rattle.std.specs.Prelude.{List, ℕ, ◌++◌, ◌-◌, drop}
use Rattle.std.proofs.Common.{◌≡◌, ◌+◌, ◌/◌, ◌∙◌, sym, length, length-drop, length-append, arith, refl}
use borrow.Rule.Slice.PartMut.{put_mid}
use Rattle.records.proofs.PutLaws.{put_room, put_part}
use Rattle.blocks.proofs.BlockLaws.{block_put, length_head}
use Rattle.blocks.proofs.filler.fill_block.Goals as goal

pub returns : goal.returns
returns c =
    let a = c.args in
    let d = c.in-Some.block.now in
    let r = a.records.now in
    let long : length d ≡ 512 = rw c.in-Some.ensures.cases.same c.requires.0 in
    let head = c.copy_from_slice.new.self in
    let head_is = c.copy_from_slice.ensures.after ∙ c.head_bytes-head.ensures in
    let front : length (head ++ drop 16 d) ≡ 512 = simp (length-append, length-drop) (rw (head_is, length_head a.frame a.kind (length r / 32) a.number) (omega arith)) in
    let put : c.copy_to.new.to ≡ put_mid 16 (16 + length r - 16) (head ++ drop 16 d) r =
    c.copy_to.ensures ∙ put_room (head ++ drop 16 d) 16 r (omega arith) ∙ sym (put_part (head ++ drop 16 d) 16 (16 + length r - 16) r (omega arith)) in
    block_put d _ r _ _ _ a.frame a.kind a.number r long c.requires.1 head_is refl
    (rw put at c.fill.ensures.after (λ y e. e)) (c.copy_from_slice-2.ensures.after ∙ c.tail_bytes.ensures) (rw put at c.seal.ensures)
