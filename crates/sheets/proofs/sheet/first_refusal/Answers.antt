use Rattle.std.proofs.Common.{refl, sym, ◌∙◌}
use borrow.Author.Tests.{eq-eqb, ne_eqb}
use Rattle.records.specs.Order.{first_of}
use Rattle.records.proofs.OrderLaws.{first_append}
use Rattle.sheets.specs.Steps.Stages.{called_checks}
use Rattle.sheets.proofs.sheet.first_refusal.Goals as goal

pub returns-then-refusal-eq-FIELD_OUT : goal.returns-then-refusal-eq-FIELD_OUT
unfolding called_checks first_of
returns-then-refusal-eq-FIELD_OUT c = rw (eq-eqb c.args.refusal.number 4 c.if-refusal-eq-FIELD_OUT.true) refl

pub returns-in-Err : goal.returns-in-Err
unfolding called_checks first_of
returns-in-Err c =
    rw (ne_eqb c.args.refusal.number 4 c.if-refusal-eq-FIELD_OUT.false, first_append, sym c.claimed_fault.ensures ∙ c.in-Err.is) refl

pub returns-in-Ok : goal.returns-in-Ok
unfolding called_checks first_of
returns-in-Ok c =
    rw (ne_eqb c.args.refusal.number 4 c.if-refusal-eq-FIELD_OUT.false, first_append, sym c.claimed_fault.ensures ∙ c.in-Ok.is) refl
