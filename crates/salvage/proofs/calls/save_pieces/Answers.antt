use Rattle.std.proofs.Common.{sym, ◌∙◌, length}
use Rattle.blocks.specs.Sizes.{most_file_bytes}
use Rattle.salvage.specs.Pieces.{pieces_of}
use Rattle.salvage.proofs.KeptTables.{kept_all}
use Rattle.salvage.proofs.CallLaws.{kept_are, kept_some, saved_as, within_is, salvage_rest}
use Rattle.salvage.proofs.calls.save_pieces.Goals as goal

pub save_kept-requires-clause-all_kept : goal.save_kept-requires-clause-all_kept
save_kept-requires-clause-all_kept c =
    let x = c.args.pieces.now.bytes.now in
    let e = c.sort_pieces-sorted.ensures in
    let v = saved_as x c.args.lead c.requires.1 _ _ _ _ _ _ _ _ e.kept_value e.dropped_value e.kept_after e.indices_after e.numbers_after in (
      rw (v.blocks, ← (kept_are x c.args.lead c.requires.1)) (kept_all c.args.lead (pieces_of x)),
      rw v.blocks (kept_some x c.args.lead c.requires.1),
    )

pub returns : goal.returns
returns c =
    let x = c.args.pieces.now.bytes.now in
    let e = c.sort_pieces-sorted.ensures in
    let v = saved_as x c.args.lead c.requires.1 _ _ _ _ _ _ _ _ e.kept_value e.dropped_value e.kept_after e.indices_after e.numbers_after in
    let s = c.save_kept.ensures in
    let within = within_is 1 most_file_bytes (length x) c.requires.0 c.args.pieces.now.few in
    record {
      value = (rw (v.blocks, v.file, v.entries) at s.value) ∙ sym (salvage_rest x _ _ _ within (kept_some x c.args.lead c.requires.1));
      out_after = rw v.file at s.out_after;
      indices_after = rw v.indices at s.indices_after;
      numbers_after = rw v.numbers at s.numbers_after;
    }
