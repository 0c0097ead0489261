use Rattle.std.proofs.Common.{◌≡◌, ◌+◌, ◌*◌, ◌^◌, ◌≤◌, drop}
use Rattle.records.specs.Text.{value_from, value_of}
use Rattle.symbols.proofs.digits.number_of.Given as goal

-- a byte says at most 207, so that i of them say less than 23 times the i-th power of ten
abbrev pub invariant-loop-c : goal.invariant-loop-c
invariant-loop-c l = record {
  small : l.value + 23 ≤ 23 * 10 ^ l.c-index;
  so_far : value_of l.part ≡ value_from l.value (drop l.c-index l.part);
}
