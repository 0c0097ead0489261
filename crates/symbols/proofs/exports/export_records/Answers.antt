use Rattle.std.proofs.Common.{◌≡◌, Ok, take, sym, ap, ◌∙◌, arith}
use Rattle.std.proofs.Math.Seq.{length-take-le}
use Rattle.records.proofs.ErrorLaws.{handed_on}
use Rattle.records.proofs.OrderLaws.{first_then}
use Rattle.symbols.specs.Calls.{lines_for, list_room}
use Rattle.symbols.proofs.AnswerLaws.{exported_stop, exported_bytes}
use Rattle.symbols.proofs.WriteLaws.{front_is, front_fits}
use Rattle.symbols.proofs.exports.export_records.Goals as goal

pub returns-in_err-n-clause-value : goal.returns-in_err-n-clause-value
returns-in_err-n-clause-value c =
    handed_on _ c.in_err-n.field-0.0 c.from_residual.ensures.1 ∙ exported_stop _ _ _ _ _ (sym c.take_records.ensures.value ∙ c.in_err-n.was)

pub slice_bounds-text-end : goal.slice_bounds-text-end
slice_bounds-text-end c =
    let counted = exported_bytes _ _ c.in_ok-n.n (sym c.in_ok-n.was ∙ c.take_records.ensures.value) in
    omega (arith, counted.1, front_fits _ _ _ (c.take_records.ensures.records_taken (c.in_ok-n.was ∙ ap Ok counted.1)))

pub slice_bounds-hand_over-end : goal.slice_bounds-hand_over-end
slice_bounds-hand_over-end c =
    let counted = exported_bytes _ _ c.in_ok-n.n (sym c.in_ok-n.was ∙ c.take_records.ensures.value) in
    let fits = front_fits _ _ _ (c.take_records.ensures.records_taken (c.in_ok-n.was ∙ ap Ok counted.1)) in
    sym (length-take-le c.in_ok-n.n c.take_records.new.text (omega (arith, counted.1, fits)))

pub returns-in_err-hand_over-clause-value : goal.returns-in_err-hand_over-clause-value
unfolding list_room
returns-in_err-hand_over-clause-value c =
    let counted = exported_bytes _ _ c.in_ok-n.n (sym c.in_ok-n.was ∙ c.take_records.ensures.value) in
    let fits = front_fits _ _ _ (c.take_records.ensures.records_taken (c.in_ok-n.was ∙ ap Ok counted.1)) in
    let e = rw (length-take-le c.in_ok-n.n c.take_records.new.text (omega (arith, counted.1, fits)), counted.1) at c.hand_over.ensures.value in
    handed_on _ c.in_err-hand_over.field-0.0 c.from_residual-in_err-hand_over.ensures.1 ∙ rw (first_then _ _ counted.0, sym e ∙ c.in_err-hand_over.was)

pub returns-clause-value : goal.returns-clause-value
unfolding list_room
returns-clause-value c =
    let counted = exported_bytes _ _ c.in_ok-n.n (sym c.in_ok-n.was ∙ c.take_records.ensures.value) in
    let fits = front_fits _ _ _ (c.take_records.ensures.records_taken (c.in_ok-n.was ∙ ap Ok counted.1)) in
    let e = rw (length-take-le c.in_ok-n.n c.take_records.new.text (omega (arith, counted.1, fits)), counted.1) at c.hand_over.ensures.value in
    rw (first_then _ _ counted.0, sym e ∙ c.in_ok-hand_over.was) (ap Ok counted.1)

pub returns-clause-list_after : goal.returns-clause-list_after
returns-clause-list_after c =
    let counted = exported_bytes _ _ c.in_ok-n.n (sym c.in_ok-n.was ∙ c.take_records.ensures.value) in
    let made = lines_for c.args.roots.now c.args.records.now in
    let front : take c.in_ok-n.n c.take_records.new.text ≡ made =
    front_is c.in_ok-n.n c.take_records.new.text _ made counted.1 (c.take_records.ensures.records_taken (c.in_ok-n.was ∙ ap Ok counted.1)) in
    rw (c.in_ok-hand_over.was, front) at c.hand_over.ensures.lent_after
