use Rattle.std.proofs.Common.{◌≡◌, length, arith, ◌/◌, ◌*◌, drop}
use lib.ListN.{length-take}
use Rattle.records.proofs.ChunkLaws.{part_is}
use Rattle.verdicts.proofs.GroupTables.{copied_none, copied_in, copied_out, copied_short, copied_all}
use Rattle.verdicts.proofs.PieceLaws.{piece_none, piece_then, piece_is}
use Rattle.verdicts.proofs.table.copy_group.Goals as goal
use Rattle.verdicts.proofs.table.copy_group.Goals.{then-leg_at-g, else-leg_at-g}

pub loop-place-init : goal.loop-place-init
loop-place-init c = piece_is (copied_none c.args.g c.args.placement.now) (piece_none _ 0)

pub put_text-next-requires : goal.put_text-next-requires
put_text-next-requires c =
    let p = c.args.placement.now in
    let place = c.loop-place.place in
    rw (part_is 32 place p) (omega (arith, length-take 32 (drop (32 * place) p), copied_short c.args.g p place (omega arith)))

pub loop-place-preserved : goal.loop-place-preserved
loop-place-preserved c =
    let p = c.args.placement.now in
    let place = c.loop-place.place in
    elim c.if-leg_at-g.branch [
      | then-leg_at-g w ↦
          rw (w.table-is, w.next-is)
          (piece_is (copied_in c.args.g p place c.leg_at.ensures w.if-leg_at-g.true)
          (piece_then (omega arith) c.loop-place.invariant (rw (part_is 32 place p) at w.put_text-next.ensures)))
      | else-leg_at-g w ↦
          rw (w.table-is, w.next-is) (piece_is (copied_out c.args.g p place c.leg_at.ensures w.if-leg_at-g.false) c.loop-place.invariant)
    ]

pub returns : goal.returns
returns c =
    let e : c.loop-place.place ≡ length c.args.placement.now / 32 = omega arith in
    piece_is (copied_all c.args.g c.args.placement.now) (rw e at c.loop-place.invariant)
