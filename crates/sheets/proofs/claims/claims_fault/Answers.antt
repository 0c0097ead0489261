use Rattle.std.proofs.Common.{◌-◌, ◌∙◌, refl, arith, rules}
use Rattle.sheets.proofs.ClaimLaws.{claim_small, margin_claimed, listed_places}
use Rattle.sheets.proofs.claims.claims_fault.Goals as goal

pub refuse_first-requires : goal.refuse_first-requires
refuse_first-requires c g low high =
    (low, (omega arith, claim_small c.args.claims.now (g - 1) (omega arith) _ refl c.requires.claims_value))

pub returns : goal.returns
returns c =
    let xs = c.args.claims.now in
    let margins = c.args.margins.now in
    c.refuse_first.ensures (margin_claimed xs margins) (λ g low high b called. search rules) ∙ listed_places xs margins
