use Rattle.std.proofs.Common.{sym, ◌∙◌, arith}
use Rattle.symbols.proofs.DigitLaws.{value_room, value_grows, value_most}
use Rattle.symbols.proofs.RunLaws.{value_next, value_over}
use Rattle.symbols.proofs.digits.number_of.Goals as goal

pub overflow_mul-value : goal.overflow_mul-value
overflow_mul-value c = omega (arith, value_room c.loop-c.value c.loop-c.c-index c.loop-c.invariant.small (omega arith))

pub overflow_add-value : goal.overflow_add-value
overflow_add-value c = omega (arith, value_room c.loop-c.value c.loop-c.c-index c.loop-c.invariant.small (omega arith))

pub loop-c-preserved : goal.loop-c-preserved
loop-c-preserved c =
    let e = c.digit_value.ensures in
    record {
      small = value_grows c.loop-c.value c.loop-c.c-index c.digit_value.result c.loop-c.invariant.small e.1;
      so_far = c.loop-c.invariant.so_far ∙ rw e.0 (value_next c.args.part.now c.loop-c.c-index c.loop-c.value (omega arith));
    }

pub returns : goal.returns
returns c = (
  sym (c.loop-c.invariant.so_far ∙ value_over c.args.part.now c.loop-c.c-index c.loop-c.value (omega arith)),
  value_most c.loop-c.value c.loop-c.c-index c.loop-c.invariant.small (omega arith),
)
