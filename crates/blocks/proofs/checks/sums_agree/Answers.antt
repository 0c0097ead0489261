use Rattle.std.proofs.Common.{sym, ◌∙◌, take}
use borrow.Author.Tests.{eq-eqb, ne_eqb}
use Rattle.blocks.specs.Sums.{check_a}
use Rattle.blocks.specs.Block.{sum_a, sums_agree}
use Rattle.blocks.proofs.checks.sums_agree.Goals as goal

pub returns-then-u16_at-a : goal.returns-then-u16_at-a
unfolding sums_agree
returns-then-u16_at-a c =
    let b = c.args.block.now in
    let a = eq-eqb (sum_a b) (check_a (take 508 b)) (sym c.u16_at.ensures ∙ c.if-u16_at-a.true ∙ c.block_a-a.ensures) in
    rw (c.u16_at-then-u16_at-a.ensures, c.block_b.ensures, a)

pub returns-else-u16_at-a : goal.returns-else-u16_at-a
unfolding sums_agree
returns-else-u16_at-a c =
    let b = c.args.block.now in
    let a = ne_eqb (sum_a b) (check_a (take 508 b)) (λ e. c.if-u16_at-a.false (c.u16_at.ensures ∙ e ∙ sym c.block_a-a.ensures)) in
    rw (c.u16_at.ensures, c.block_a-a.ensures, a)
