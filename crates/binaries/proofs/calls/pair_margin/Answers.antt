use Rattle.std.specs.Prelude.{Ok, pos}
use Rattle.std.proofs.Common.{sym, ap, ◌∙◌, arith, w64}
use mir.Facts.{to_z_pos}
use Rattle.records.proofs.ErrorLaws.{handed_on}
use Rattle.binaries.specs.Calls.{pair_call}
use Rattle.binaries.proofs.AnswerLaws.{pair_clear}
use Rattle.binaries.proofs.calls.pair_margin.Goals as goal

pub returns-in_err-pair_fault : goal.returns-in_err-pair_fault
unfolding pair_call
returns-in_err-pair_fault c = handed_on _ c.in_err-pair_fault.field-0.0 c.from_residual.ensures.1 ∙ rw (sym c.pair_fault.ensures ∙ c.in_err-pair_fault.was)

pub invariant_of-date : goal.invariant_of-date
invariant_of-date c = record { real = (pair_clear _ _ _ (sym c.pair_fault.ensures ∙ c.in_ok-pair_fault.was)).0 }

pub margin_of_pair-requires-clause-expiry_value : goal.margin_of_pair-requires-clause-expiry_value
margin_of_pair-requires-clause-expiry_value c = (pair_clear _ _ _ (sym c.pair_fault.ensures ∙ c.in_ok-pair_fault.was)).1.0

pub margin_of_pair-requires-clause-expiry_value_2 : goal.margin_of_pair-requires-clause-expiry_value_2
margin_of_pair-requires-clause-expiry_value_2 c = (pair_clear _ _ _ (sym c.pair_fault.ensures ∙ c.in_ok-pair_fault.was)).1.1

pub returns : goal.returns
unfolding pair_call
returns c =
    rw (sym c.pair_fault.ensures ∙ c.in_ok-pair_fault.was) (ap Ok (to_z_pos w64 (omega (arith, c.margin_of_pair.ensures.1)) ∙ ap pos c.margin_of_pair.ensures.0))
