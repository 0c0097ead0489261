use Rattle.std.proofs.Common.{ℕ, ◌∙◌, rules}
use lib.Dec.{leb}
use Rattle.records.specs.Chunks.{chunk_at}
use Rattle.records.specs.Legs.{leg_of}
use Rattle.records.specs.declared.legs.Leg.{Leg}
use Rattle.sheets.proofs.PlaceLaws.{legs_places}
use Rattle.sheets.proofs.claims.named_fault.Goals as goal

pub returns : goal.returns
returns c =
    let xs = c.args.placement.now in
    c.refuse_first.ensures (λ (i : ℕ). leb (leg_of (chunk_at 32 xs i)).group c.args.most) (λ i low high b called. search rules)
    ∙ legs_places (λ (l : Leg). leb l.group c.args.most) 5 2 xs
