use Rattle.std.specs.Prelude.{Ok, pos}
use Rattle.std.proofs.Common.{sym, ap, ◌∙◌, arith, w64}
use mir.Facts.{to_z_pos}
use Rattle.records.proofs.ErrorLaws.{handed_on}
use Rattle.binaries.specs.Calls.{single_call}
use Rattle.binaries.proofs.AnswerLaws.{single_clear}
use Rattle.binaries.proofs.calls.binary_margin.Goals as goal

pub returns-in_err-single_fault : goal.returns-in_err-single_fault
unfolding single_call
returns-in_err-single_fault c =
    handed_on _ c.in_err-single_fault.field-0.0 c.from_residual.ensures.1 ∙ rw (sym c.single_fault.ensures ∙ c.in_err-single_fault.was)

pub invariant_of-date : goal.invariant_of-date
invariant_of-date c = record { real = (single_clear _ _ _ _ (sym c.single_fault.ensures ∙ c.in_ok-single_fault.was)).0 }

pub margin_of-requires : goal.margin_of-requires
margin_of-requires c = let live = single_clear _ _ _ _ (sym c.single_fault.ensures ∙ c.in_ok-single_fault.was) in (live.1, live.2)

pub returns : goal.returns
unfolding single_call
returns c =
    rw (sym c.single_fault.ensures ∙ c.in_ok-single_fault.was) (ap Ok (to_z_pos w64 (omega (arith, c.margin_of.ensures.1)) ∙ ap pos c.margin_of.ensures.0))
