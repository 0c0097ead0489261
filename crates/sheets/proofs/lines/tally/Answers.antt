use Rattle.std.proofs.Common.{◌<◌, ◌+◌, length, arith}
use Rattle.sheets.proofs.ContractLaws.{tally_none, tally_more, tally_small, tally_all}
use Rattle.sheets.proofs.lines.tally.Goals as goal

pub loop-i-init : goal.loop-i-init
loop-i-init c =
    let none = c.requires.at_most_index.1 in
    ((λ d. omega (arith, none d)), tally_none c.args.numbers.now c.args.first c.args.table.now c.args.sums.now none)

pub plus-requires : goal.plus-requires
plus-requires c = omega (arith, c.loop-i.invariant.0 c.from-c.result)

pub loop-i-preserved : goal.loop-i-preserved
loop-i-preserved c =
    let a = c.args in
    let l = c.loop-i in
    let room : c.from-c.result < length c.loop-i.sums = omega (arith, c.from-c.ensures, c.requires.at_most_index.0 (c.args.first + c.loop-i.i) (omega arith)) in
    let sum = c.plus.ensures in (
      tally_small a.numbers.now a.first a.table.now l.i l.sums _ _ (omega arith) c.leg_at.ensures c.from-c.ensures room _ sum.0 l.invariant.0 sum.1,
      tally_more a.numbers.now a.first a.table.now l.i l.sums _ _ (omega arith) c.leg_at.ensures c.from-c.ensures room _ sum.0 l.invariant.1,
    )

pub returns : goal.returns
returns c = tally_all c.args.numbers.now c.args.first c.args.table.now c.loop-i.i c.loop-i.sums (omega arith) c.loop-i.invariant.1
