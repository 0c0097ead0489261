use Rattle.std.proofs.Common.{ℕ, ◌+◌, sym, ◌∙◌, arith}
use Rattle.records.specs.Chunks.{chunk_at}
use Rattle.records.specs.Legs.{leg_of}
use Rattle.records.specs.Tables.{table_number}
use Rattle.sheets.proofs.PlaceLaws.{legs_places}
use Rattle.sheets.proofs.lines.first_uneven.Goals as goal

pub returns : goal.returns
returns c good answered =
    let xs = c.args.table.now in
    c.refuse_first.ensures (λ (i : ℕ). good (leg_of (chunk_at 32 xs i))) (λ i low high b called. called ∙ sym (answered i high))
    ∙ legs_places good 14 (table_number c.args.kind) xs

pub refuse_first-requires : goal.refuse_first-requires
refuse_first-requires c i low high =
    let below = c.requires.room_from.1 (c.args.first + i) (omega arith) in
    ((omega arith, omega arith), (omega arith, omega arith))
