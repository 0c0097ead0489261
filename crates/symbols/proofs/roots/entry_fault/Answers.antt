use Rattle.std.proofs.Common.{sym, ◌∙◌, arith}
use Rattle.symbols.proofs.RootLaws.{ask_all, ask_next, ask_stop, ask_over}
use Rattle.symbols.proofs.roots.entry_fault.Goals as goal

pub loop-i-init : goal.loop-i-init
loop-i-init c = ask_all c.args.roots.now

pub returns-then-not-good_root-is_fresh : goal.returns-then-not-good_root-is_fresh
returns-then-not-good_root-is_fresh c =
    rw c.refused.ensures (sym (c.loop-i.invariant ∙ ask_stop c.args.roots.now c.loop-i.i (omega arith) (rw (c.good_root.ensures, c.is_fresh.ensures) at c.if-not-good_root-is_fresh.true)))

pub loop-i-preserved : goal.loop-i-preserved
loop-i-preserved c =
    c.loop-i.invariant ∙ ask_next c.args.roots.now c.loop-i.i (omega arith) (rw (c.good_root.ensures, c.is_fresh.ensures) at c.if-not-good_root-is_fresh.false)

pub returns : goal.returns
returns c = sym (c.loop-i.invariant ∙ ask_over c.args.roots.now c.loop-i.i (omega arith))
