use Rattle.std.proofs.Common.{◌≡◌, length, arith, ◌/◌}
use Rattle.records.specs.Tables.{legs_of}
use Rattle.verdicts.proofs.KeptLaws.{kept_answered, kept_margin, kept_room}
use Rattle.verdicts.proofs.PieceLaws.{piece_none, piece_then, piece_is}
use Rattle.verdicts.proofs.ShownLaws.{shown_none, shown_more}
use Rattle.verdicts.proofs.table.put_groups.Goals as goal

pub loop-k-init : goal.loop-k-init
loop-k-init c = piece_is (shown_none (legs_of c.args.placement.now)) (piece_none _ 0)

pub put_group-next-requires : goal.put_group-next-requires
put_group-next-requires c =
    let p = c.args.placement.now in
    let cl = c.args.claims.now in
    let shown = c.requires in
    let k = c.loop-k.k in
    record {
      group_passes = (kept_answered shown.0 p cl shown.1 k (omega arith), kept_margin shown.0 p cl shown.1 k (omega arith) c.claim_at-claim.result c.claim_at-claim.ensures);
      g_in_bounds = omega (arith, kept_room shown.0 p cl shown.1 k (omega arith));
    }

pub loop-k-preserved : goal.loop-k-preserved
loop-k-preserved c =
    piece_is (shown_more (legs_of c.args.placement.now) c.loop-k.k) (piece_then (omega arith) c.loop-k.invariant c.put_group-next.ensures)

pub returns : goal.returns
returns c =
    let e : c.loop-k.k ≡ length c.args.claims.now / 32 = omega arith in
    rw e at c.loop-k.invariant
