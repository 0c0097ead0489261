use Rattle.std.proofs.Common.{sym, ◌∙◌, arith, refl}
use Rattle.sheets.proofs.PlaceLaws.{places_good, places_bad, places_over}
use Rattle.sheets.proofs.places.refuse_first.Goals as goal

pub loop-place-init : goal.loop-place-init
loop-place-init g c test answers = refl

pub returns-then-not-good : goal.returns-then-not-good
returns-then-not-good g c test answers =
    let i = c.loop-place.place in
    rw c.table_number.ensures
    (sym (c.loop-place.invariant test answers ∙ places_bad test _ _ i c.args.end (omega arith) (sym (answers i (omega arith) (omega arith) _ c.if-not-good.ensures))))

pub loop-place-preserved : goal.loop-place-preserved
loop-place-preserved g c test answers =
    let i = c.loop-place.place in
    c.loop-place.invariant test answers ∙ places_good test _ _ i c.args.end (omega arith) (sym (answers i (omega arith) (omega arith) _ c.if-not-good.ensures))

pub returns : goal.returns
returns g c test answers = sym (c.loop-place.invariant test answers ∙ places_over test _ _ c.loop-place.place c.args.end (omega arith))
