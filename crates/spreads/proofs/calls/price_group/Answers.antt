use Rattle.std.specs.Prelude.{Ok}
use Rattle.std.proofs.Common.{ap, ◌∙◌}
use Rattle.spreads.specs.Boxes.{margin_of}
use Rattle.spreads.specs.Work.{values_of}
use Rattle.spreads.proofs.FoundLaws.{ap_worked, is_found}
use Rattle.spreads.proofs.calls.price_group.Goals as goal

pub of-spread-requires : goal.of-spread-requires
of-spread-requires c = is_found _ _ _ _ c.find_group.ensures c.in_ok-found.was

pub returns : goal.returns
returns c =
    let e = is_found _ _ _ _ c.find_group.ensures c.in_ok-found.was in
    let m = c.margin_at.ensures in
    rw e.passed (ap Ok (ap_worked (m.0 ∙ ap margin_of c.of-spread.ensures.legs) (m.2 ∙ ap values_of c.of-spread.ensures.legs)))
