use Rattle.std.proofs.Common.{◌≡◌, ℕ, List, ◌+◌, sym, ap, arith, length, length-append}
use lib.Seq.{length-take-le}
use Rattle.spreads.specs.Spreads.{group_in}
use Rattle.spreads.specs.Boxes.{margin_of}
use Rattle.verdicts.specs.Steps.Groups.{worksheet_lines}
use Rattle.verdicts.specs.TableText.{group_line, group_text, shown_of}
use Rattle.verdicts.proofs.GroupTables.{table_lines, table_answered, placement_short}
use Rattle.verdicts.proofs.PieceLaws.{piece_then, piece_is, piece_front}
use Rattle.verdicts.proofs.ShownLaws.{group_text_lem}
use Rattle.verdicts.proofs.table.put_group.Goals as goal

lengths : (placement : List ℕ) (g margin : ℕ) → margin ≡ margin_of (group_in placement g)
    → length (group_line g margin) + length (worksheet_lines placement g) ≡ length (group_text (shown_of g (group_in placement g)))
lengths placement g margin e =
    omega (arith, ap length (group_text_lem g margin (group_in placement g) e), length-append (group_line g margin) (worksheet_lines placement g))

pub put_group_line-first-requires : goal.put_group_line-first-requires
put_group_line-first-requires c = omega (arith, lengths c.args.placement.now c.args.g c.args.margin c.requires.group_passes.1)

pub copy_group-bytes-requires : goal.copy_group-bytes-requires
copy_group-bytes-requires c = placement_short c.args.placement.now c.args.g c.requires.group_passes.0

pub shared_ref_as_front-put_worksheet : goal.shared_ref_as_front-put_worksheet
shared_ref_as_front-put_worksheet c = omega (arith, (piece_front c.copy_group-bytes.ensures).0)

pub slice_bounds-put_worksheet-end : goal.slice_bounds-put_worksheet-end
slice_bounds-put_worksheet-end c = sym (length-take-le _ _ (piece_front c.copy_group-bytes.ensures).0)

pub put_worksheet-requires : goal.put_worksheet-requires
put_worksheet-requires c =
    let p = c.args.placement.now in
    let g = c.args.g in
    rw ((piece_front c.copy_group-bytes.ensures).1, table_lines p g)
    (record {
      group_passes = table_answered p g c.requires.group_passes.0;
      g_in_bounds = omega (arith, lengths p g c.args.margin c.requires.group_passes.1);
    })

pub returns : goal.returns
returns c =
    let p = c.args.placement.now in
    let g = c.args.g in
    piece_is (group_text_lem g c.args.margin _ c.requires.group_passes.1)
    (piece_then (omega arith) c.put_group_line-first.ensures (rw ((piece_front c.copy_group-bytes.ensures).1, table_lines p g) at c.put_worksheet.ensures))
