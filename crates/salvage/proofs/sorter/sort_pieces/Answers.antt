use Rattle.std.proofs.Common.{◌*◌, sym, ap, ◌∙◌, length-take, arith}
use Rattle.records.specs.Chunks.{chunk_at}
use Rattle.records.specs.Written.{put_in_room}
use Rattle.records.proofs.ChunkLaws.{part_is}
use Rattle.records.proofs.PutLaws.{put_room}
use Rattle.salvage.proofs.PieceLaws.{none_dropped, some_dropped}
use Rattle.salvage.proofs.SortLaws.{sorting_none, sorting_kept, sorting_dropped, kept_whole, sorted_kept, sorted_dropped, sorted_bytes, sorted_indices, sorted_numbers}
use Rattle.salvage.proofs.sorter.sort_pieces.Goals as goal
use Rattle.salvage.proofs.sorter.sort_pieces.Goals.{in-None, in-Some}

pub loop-i-init : goal.loop-i-init
loop-i-init c = sorting_none _ _ _ _ _

pub slice_bounds-piece-end : goal.slice_bounds-piece-end
slice_bounds-piece-end c =
    let x = c.args.pieces.now.bytes.now in
    let z = none_dropped c.args.lead (chunk_at 512 x c.loop-i.i) (sym c.drop_number.ensures ∙ c.in-None.is) in
    omega (arith, kept_whole x c.loop-i.i c.args.lead z)

pub loop-i-preserved : goal.loop-i-preserved
loop-i-preserved c =
    let a = c.args in
    let i = c.loop-i.i in
    let p = c.loop-i.invariant in
    let piece = chunk_at 512 a.pieces.now.bytes.now i in
    elim c.match-drop_number.branch [
      | in-None w ↦
          sorting_kept p (omega arith) (none_dropped a.lead piece (sym c.drop_number.ensures ∙ w.in-None.is))
          (omega (arith, p.all, c.requires.0))
          (w.kept-is
          ∙ w.copy_to.ensures
          ∙ ap (put_in_room c.loop-i.kept (512 * c.loop-i.held)) (part_is 512 i a.pieces.now.bytes.now)
          ∙ put_room c.loop-i.kept (512 * c.loop-i.held) piece
          (simp length-take (omega (arith, p.all, p.kept_long, c.requires.0))))
          w.indices-is w.numbers-is w.held-is w.listed-is
      | in-Some w ↦
          let s = some_dropped a.lead piece w.in-Some.number (sym c.drop_number.ensures ∙ w.in-Some.is) in
          sorting_dropped p (omega arith) w.in-Some.number s.0 s.1
          (omega (arith, p.all, c.requires.1)) (omega (arith, p.all, c.requires.2))
          w.kept-is w.indices-is w.numbers-is w.held-is w.listed-is
    ]

pub returns-clause-few : goal.returns-clause-few
returns-clause-few c = omega (arith, c.loop-i.invariant.all)

pub returns-clause-kept_value : goal.returns-clause-kept_value
returns-clause-kept_value c = sorted_kept c.loop-i.invariant (omega arith)

pub returns-clause-dropped_value : goal.returns-clause-dropped_value
returns-clause-dropped_value c = sorted_dropped c.loop-i.invariant (omega arith)

pub returns-clause-kept_after : goal.returns-clause-kept_after
returns-clause-kept_after c = sorted_bytes c.loop-i.invariant (omega arith)

pub returns-clause-indices_after : goal.returns-clause-indices_after
returns-clause-indices_after c = sorted_indices c.loop-i.invariant (omega arith)

pub returns-clause-numbers_after : goal.returns-clause-numbers_after
returns-clause-numbers_after c = sorted_numbers c.loop-i.invariant (omega arith)
