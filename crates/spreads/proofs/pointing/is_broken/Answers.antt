use Rattle.std.proofs.Common.{◌≡◌, arith}
use borrow.Author.Tests.{ne_eqb}
use Rattle.spreads.specs.Steps.Pointing.{broken_by}
use Rattle.spreads.proofs.Breaking.{later_not}
use Rattle.spreads.proofs.pointing.is_broken.Goals as goal

pub returns-in-7 : goal.returns-in-7
unfolding broken_by
returns-in-7 c = rw c.in-7.is

pub returns-in-8 : goal.returns-in-8
unfolding broken_by
returns-in-8 c = rw c.in-8.is

pub returns-in-9 : goal.returns-in-9
unfolding broken_by
returns-in-9 c = rw c.in-9.is

pub returns-in_default : goal.returns-in_default
unfolding broken_by
returns-in_default c =
    let n = c.args.number in
    let lives = c.args.facts.lives in
    let seven : n ≡ 7 → ⊥ = λ e. omega arith in
    let eight : n ≡ 8 → ⊥ = λ e. omega arith in
    let nine : n ≡ 9 → ⊥ = λ e. omega arith in
    rw (ne_eqb n 7 seven, ne_eqb n 8 eight, ne_eqb n 9 nine) (later_not lives.earliest_long lives.latest_short)
