use Rattle.std.proofs.Common.{◌≡◌, List, ℕ, sym, ◌∙◌, arith, length, take, ◌*◌, ◌≤◌}
use lib.Seq.{length-take-le}
use Rattle.records.specs.declared.tables.Kind.TheVariants.{Placement, Claims}
use Rattle.blocks.specs.File.{tables_in}
use Rattle.blocks.proofs.Laws.{TableBytes}
use Rattle.blocks.specs.Reader.{copied}
use Rattle.verdicts.specs.declared.file.Scanned.{Scanned}
use Rattle.verdicts.proofs.FileVerdicts.{file_bytes_lem}
use Rattle.verdicts.proofs.PieceLaws.{piece_is}
use Rattle.verdicts.proofs.TableFile.{refused_text, accepted_text, accepted_shown, copied_front}
use Rattle.verdicts.proofs.table.read_table.Goals as goal

bytes : (s : Scanned) → TableBytes s.file.now s.counts
bytes s = file_bytes_lem s.file.now s.counts s.has_records

-- its records in the lent tables
placement : (s : Scanned) (d l : List ℕ) → l ≡ copied Placement s.file.now d → 32 * s.counts.placement ≤ length d
    → (32 * s.counts.placement ≤ length l) × (take (32 * s.counts.placement) l ≡ (tables_in s.file.now).placement)
placement s d l e h = copied_front s.file.now Placement _ _ _ e (bytes s).placement.0 h

claims : (s : Scanned) (d l : List ℕ) → l ≡ copied Claims s.file.now d → 32 * s.counts.claims ≤ length d
    → (32 * s.counts.claims ≤ length l) × (take (32 * s.counts.claims) l ≡ (tables_in s.file.now).claims)
claims s d l e h = copied_front s.file.now Claims _ _ _ e (bytes s).claims.0 h

pub overflow_mul-p : goal.overflow_mul-p
overflow_mul-p c = omega (arith, (bytes c.args.scanned.now).placement)

pub overflow_mul-c : goal.overflow_mul-c
overflow_mul-c c = omega (arith, (bytes c.args.scanned.now).claims)

pub check_copied-requires : goal.check_copied-requires
check_copied-requires c = let b = bytes c.args.scanned.now in (b.holdings.1, b.placement.1, b.claims.1)

pub slice_bounds-placement-end : goal.slice_bounds-placement-end
slice_bounds-placement-end c = (placement c.args.scanned.now _ _ c.check_copied.ensures.placement_after (bytes c.args.scanned.now).placement.1).0

pub slice_bounds-put_groups-end : goal.slice_bounds-put_groups-end
slice_bounds-put_groups-end c =
    sym (length-take-le _ _ (placement c.args.scanned.now _ _ c.check_copied.ensures.placement_after (bytes c.args.scanned.now).placement.1).0)

pub slice_bounds-claims-end : goal.slice_bounds-claims-end
slice_bounds-claims-end c = (claims c.args.scanned.now _ _ c.check_copied.ensures.claims_after (bytes c.args.scanned.now).claims.1).0

pub slice_bounds-put_groups-end-in-Ok : goal.slice_bounds-put_groups-end-in-Ok
slice_bounds-put_groups-end-in-Ok c =
    sym (length-take-le _ _ (claims c.args.scanned.now _ _ c.check_copied.ensures.claims_after (bytes c.args.scanned.now).claims.1).0)

pub put_groups-requires : goal.put_groups-requires
put_groups-requires c =
    let s = c.args.scanned.now in
    let p = placement s _ _ c.check_copied.ensures.placement_after (bytes s).placement.1 in
    let k = claims s _ _ c.check_copied.ensures.claims_after (bytes s).claims.1 in
    rw (p.1, k.1) (accepted_shown s.file.now _ _ _ (sym c.check_copied.ensures.value ∙ c.in-Ok.is))

pub returns-in-Err : goal.returns-in-Err
returns-in-Err c =
    piece_is (refused_text c.args.scanned.now.file.now _ (sym c.check_copied.ensures.value ∙ c.in-Err.is)) c.refuse_line.ensures

pub returns-in-Ok : goal.returns-in-Ok
returns-in-Ok c =
    let s = c.args.scanned.now in
    let p = placement s _ _ c.check_copied.ensures.placement_after (bytes s).placement.1 in
    let k = claims s _ _ c.check_copied.ensures.claims_after (bytes s).claims.1 in
    piece_is (accepted_text s.file.now _ _ _ (sym c.check_copied.ensures.value ∙ c.in-Ok.is)) (rw (p.1, k.1) at c.put_groups.ensures)
