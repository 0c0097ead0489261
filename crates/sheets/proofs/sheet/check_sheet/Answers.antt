use Rattle.std.proofs.Common.{refl, sym, ◌∙◌, arith, w64}
use mir.Facts.{to_z_pos}
use Rattle.records.specs.Tables.{claims_of}
use Rattle.records.proofs.TableLaws.{length_claims}
use Rattle.sheets.specs.Sheets.{total_of}
use Rattle.sheets.specs.Verdicts.{verdict_of}
use Rattle.sheets.proofs.Demands.{passed_limit, passed_work}
use Rattle.sheets.proofs.StageLaws.{judged_refused, judged_through}
use Rattle.sheets.proofs.sheet.check_sheet.Goals as goal

pub returns-in-Err : goal.returns-in-Err
unfolding verdict_of
returns-in-Err c =
    let a = c.args in
    rw (judged_refused a.holdings.now a.placement.now a.claims.now _ (sym c.judge_sheet.ensures ∙ c.in-Err.is)) refl

pub total_of-requires : goal.total_of-requires
total_of-requires c =
    let a = c.args in
    passed_limit a.holdings.now a.placement.now a.claims.now (judged_through a.holdings.now a.placement.now a.claims.now _ (sym c.judge_sheet.ensures ∙ c.in-Ok.is)).0

pub overflow_cast-result : goal.overflow_cast-result
overflow_cast-result c =
    let a = c.args in
    let l = passed_limit a.holdings.now a.placement.now a.claims.now (judged_through a.holdings.now a.placement.now a.claims.now _ (sym c.judge_sheet.ensures ∙ c.in-Ok.is)).0 in
    omega (arith, c.total_of.ensures)

pub returns-in-Ok : goal.returns-in-Ok
unfolding verdict_of
returns-in-Ok c =
    let a = c.args in
    let j = judged_through a.holdings.now a.placement.now a.claims.now _ (sym c.judge_sheet.ensures ∙ c.in-Ok.is) in
    let l = passed_limit a.holdings.now a.placement.now a.claims.now j.0 in
    let w = j.1 ∙ sym (passed_work a.holdings.now a.placement.now a.claims.now j.0) in
    rw (← w, length_claims, j.0, c.total_of.ensures, to_z_pos w64 {n = total_of (claims_of a.claims.now)} (omega arith)) refl
