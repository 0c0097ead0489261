use Rattle.std.proofs.Common.{ℕ, ◌∙◌, rules}
use Rattle.records.specs.Chunks.{chunk_at}
use Rattle.records.specs.Legs.{leg_of}
use Rattle.records.specs.declared.legs.Leg.{Leg}
use Rattle.sheets.specs.Sheets.{placed_or_paid}
use Rattle.sheets.proofs.PlaceLaws.{legs_places}
use Rattle.sheets.proofs.marks.placed_fault.Goals as goal

pub returns : goal.returns
returns c =
    let xs = c.args.placement.now in
    c.refuse_first.ensures (λ (i : ℕ). placed_or_paid (leg_of (chunk_at 32 xs i))) (λ i low high b called. search rules)
    ∙ legs_places (λ (l : Leg). placed_or_paid l) 15 2 xs
