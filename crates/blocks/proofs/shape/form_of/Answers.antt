use Rattle.std.proofs.Common.{sym, ◌∙◌, take}
use Rattle.blocks.proofs.SameLaws.{same_is}
use Rattle.blocks.proofs.shape.form_of.Goals as goal

pub returns-then-eq : goal.returns-then-eq
returns-then-eq c =
    let m = c.mark_of-mark in
    rw (← m.ensures, sym (same_is (take 4 c.args.block.now) m.result) ∙ sym c.eq.ensures ∙ c.if-eq.true)

pub returns-else-eq : goal.returns-else-eq
returns-else-eq c =
    let m = c.mark_of-mark in
    rw (← m.ensures, sym (same_is (take 4 c.args.block.now) m.result) ∙ sym c.eq.ensures ∙ c.if-eq.false)
