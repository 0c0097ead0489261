use Rattle.std.proofs.Common.{◌&&◌, ◌∙◌, Bool, sym, ap, refl, arith}
use mathlib.Core.Bool.{and-true}
use Rattle.blocks.proofs.SameLaws.{zero_next, zero_end}
use Rattle.blocks.proofs.bytes.all_zero.Goals as goal

pub loop-byte-init : goal.loop-byte-init
loop-byte-init c = refl

pub loop-byte-preserved : goal.loop-byte-preserved
loop-byte-preserved c =
    zero_next c.args.x.now c.loop-byte.byte-index c.loop-byte.zero (omega arith) ∙ c.loop-byte.invariant

pub returns : goal.returns
returns c =
    let l = c.loop-byte in
    sym (and-true l.zero) ∙ ap (λ (b : Bool). l.zero && b) (sym (zero_end c.args.x.now l.byte-index (omega arith))) ∙ l.invariant
