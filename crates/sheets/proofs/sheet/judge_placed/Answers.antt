use Rattle.std.proofs.Common.{refl, sym, ◌∙◌}
use Rattle.records.proofs.ErrorLaws.{handed_on}
use Rattle.records.proofs.TableLaws.{length_claims}
use Rattle.sheets.proofs.StageLaws.{judged_stop, judged_done, opened, tabled_facts, left_listed, work_listed_lem, listed_room, called_refused, called_fields, claimed_fields, claimed_stop, claimed_through}
use Rattle.sheets.proofs.sheet.judge_placed.Goals as goal

pub returns-in-Err : goal.returns-in-Err
returns-in-Err c =
    judged_stop _ _ _ _ (c.first_refusal.ensures ∙ called_refused _ _ _ c.requires _ (sym c.price_groups-priced.ensures.listed_value ∙ c.in-Err.is))

pub returns-in_err-claimed_fault : goal.returns-in_err-claimed_fault
returns-in_err-claimed_fault c =
    handed_on _ c.in_err-claimed_fault.field-0.0 c.from_residual.ensures.1
    ∙ judged_stop _ _ _ _
    (claimed_stop _ _ _ c.requires _ (sym c.price_groups-priced.ensures.listed_value ∙ c.in_default.is) _ (sym c.claimed_fault.ensures ∙ c.in_err-claimed_fault.was))

pub invariant_of-tables : goal.invariant_of-tables
invariant_of-tables c =
    let a = c.args in
    let b = tabled_facts a.holdings.now a.placement.now a.claims.now c.requires in
    record {
      good = (
        (opened a.holdings.now a.placement.now a.claims.now c.requires).1,
        called_fields a.holdings.now a.placement.now a.claims.now c.requires _ (sym c.price_groups-priced.ensures.listed_value ∙ c.in_default.is),
      );
      short = (b.holdings, b.placement);
    }

pub last_fault-requires-clause-claims_value : goal.last_fault-requires-clause-claims_value
last_fault-requires-clause-claims_value c = claimed_fields c.args.placement.now c.args.claims.now (sym c.claimed_fault.ensures ∙ c.in_ok-claimed_fault.was)

pub last_fault-requires-clause-claims_in_bounds : goal.last_fault-requires-clause-claims_in_bounds
last_fault-requires-clause-claims_in_bounds c =
    let a = c.args in
    listed_room _ _ _ _ (left_listed _ _ _ _ _ c.price_groups-priced.ensures.out_after c.in_default.is) refl (tabled_facts a.holdings.now a.placement.now a.claims.now c.requires).claims

pub returns-in_err-last_fault : goal.returns-in_err-last_fault
returns-in_err-last_fault c =
    handed_on _ c.in_err-last_fault.field-0.0 c.from_residual-in_err-last_fault.ensures.1
    ∙ judged_stop _ _ _ _
    (sym c.in_err-last_fault.was ∙ c.last_fault.ensures
    ∙ claimed_through _ _ _ c.requires _ (sym c.price_groups-priced.ensures.listed_value ∙ c.in_default.is) (sym c.claimed_fault.ensures ∙ c.in_ok-claimed_fault.was) _ _
    (left_listed _ _ _ _ _ c.price_groups-priced.ensures.out_after c.in_default.is))

pub returns : goal.returns
returns c =
    judged_done _ _ _ _
    (sym c.in_ok-last_fault.was ∙ c.last_fault.ensures
    ∙ claimed_through _ _ _ c.requires _ (sym c.price_groups-priced.ensures.listed_value ∙ c.in_default.is) (sym c.claimed_fault.ensures ∙ c.in_ok-claimed_fault.was) _ _
    (left_listed _ _ _ _ _ c.price_groups-priced.ensures.out_after c.in_default.is))
    (rw (length_claims c.args.claims.now) (work_listed_lem _ _ _ _ c.price_groups-priced.ensures.values_value c.in_default.is))
