use Rattle.std.proofs.Common.{◌∙◌, length-take, length-drop, arith, rules}
use Rattle.blocks.proofs.BlockLaws.{seal_put}
use Rattle.blocks.proofs.filler.seal.Goals as goal

pub returns : goal.returns
returns c =
    let s = c.both_sums-sums in
    seal_put c.args.block.now c.fill.new.self _ _ s.result.a s.result.b (omega arith)
    (c.fill.ensures.len ∙ simp (length-take, length-drop) (omega arith)) s.ensures.a s.ensures.b (search rules) (search rules)
    (c.copy_from_slice.ensures.after ∙ c.to_le_bytes.ensures) (c.copy_from_slice-2.ensures.after ∙ c.to_le_bytes-2.ensures)
