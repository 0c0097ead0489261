use Rattle.std.proofs.Common.{[], ◌∷◌, sym, ◌∙◌}
use Rattle.records.proofs.ErrorLaws.{handed_on}
use Rattle.records.proofs.OrderLaws.{first_stop, first_then}
use Rattle.fills.specs.Calls.{play_room}
use Rattle.fills.proofs.calls.room_fault.Goals as goal

pub returns-in_err-ask : goal.returns-in_err-ask
unfolding play_room
returns-in_err-ask c =
    handed_on _ c.in_err-ask.field-0.0 c.from_residual.ensures.1
    ∙ sym (first_stop (_ ∷ []) _ _ (rw c.table_number.ensures at (sym c.ask.ensures ∙ c.in_err-ask.was)))

pub returns : goal.returns
unfolding play_room
returns c =
    c.ask-2.ensures ∙ sym (first_then (_ ∷ []) _ (rw c.table_number.ensures at (sym c.ask.ensures ∙ c.in_ok-ask.was)))
