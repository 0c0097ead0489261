use Rattle.std.proofs.Common.{sym, ap, ◌∙◌, arith}
use Rattle.records.specs.Listed.{indices_of, numbers_of}
use Rattle.records.specs.Written.{put_at}
use Rattle.records.proofs.ErrorLaws.{handed_on}
use Rattle.records.proofs.OrderLaws.{first_stop, first_then}
use Rattle.fills.specs.Rows.{bytes_of}
use Rattle.fills.proofs.BookLaws.{merged_fills, refused_all, rows_all, rows_counted}
use Rattle.fills.proofs.PlayLaws.{room_clear}
use Rattle.fills.proofs.StandLaws.{blank, stand_none, stand_self}
use Rattle.fills.proofs.calls.play_tables.Goals as goal

pub invariant_of-book : goal.invariant_of-book
invariant_of-book c =
    record { tables = c.requires; within = omega arith; stand = stand_self (stand_none _ _ _ (omega arith) (omega arith) (blank 1280) (blank 2304)) }

pub returns-in_err-merge-clause-value : goal.returns-in_err-merge-clause-value
returns-in_err-merge-clause-value c =
    handed_on _ c.in_err-merge.field-0.0 c.from_residual.ensures.1 ∙ rw (first_stop _ _ _ (sym c.merge.ensures.value ∙ c.in_err-merge.was))

pub returns-in_err-room_fault-clause-value : goal.returns-in_err-room_fault-clause-value
returns-in_err-room_fault-clause-value c =
    handed_on _ c.in_err-room_fault.field-0.0 c.from_residual-in_err-room_fault.ensures.1
    ∙ rw (first_then _ _ (sym c.merge.ensures.value ∙ c.in_ok-merge.was), sym c.room_fault.ensures ∙ c.in_err-room_fault.was)

pub play_fills-refused-requires-clause-room : goal.play_fills-refused-requires-clause-room
play_fills-refused-requires-clause-room c =
    let r = room_clear _ _ _ _ (sym c.room_fault.ensures ∙ c.in_ok-room_fault.was) in
    let e = merged_fills (c.merge.ensures.start_stands c.in_ok-merge.was) in
    (omega (arith, r.indices_room, e), omega (arith, r.numbers_room, e))

pub put_rows-requires : goal.put_rows-requires
put_rows-requires c = (room_clear _ _ _ _ (sym c.room_fault.ensures ∙ c.in_ok-room_fault.was)).result_room

pub returns-clause-value : goal.returns-clause-value
returns-clause-value c =
    let m = c.merge.ensures.start_stands c.in_ok-merge.was in
    let e = c.play_fills-refused.ensures in
    rw (
      first_then _ _ (sym c.merge.ensures.value ∙ c.in_ok-merge.was),
      sym c.room_fault.ensures ∙ c.in_ok-room_fault.was,
      rows_counted m e.all_played,
      e.refused_value,
      refused_all m,
    )

pub returns-clause-res_after : goal.returns-clause-res_after
returns-clause-res_after c =
    let m = c.merge.ensures.start_stands c.in_ok-merge.was in
    c.put_rows.ensures ∙ ap (λ rows. put_at c.args.res.now 0 (bytes_of rows)) (rows_all m c.play_fills-refused.ensures.all_played)

pub returns-clause-indices_after : goal.returns-clause-indices_after
returns-clause-indices_after c =
    let m = c.merge.ensures.start_stands c.in_ok-merge.was in
    c.play_fills-refused.ensures.indices_after ∙ ap (λ refused. put_at c.args.indices.now 0 (indices_of refused)) (refused_all m)

pub returns-clause-numbers_after : goal.returns-clause-numbers_after
returns-clause-numbers_after c =
    let m = c.merge.ensures.start_stands c.in_ok-merge.was in
    c.play_fills-refused.ensures.numbers_after ∙ ap (λ refused. put_at c.args.numbers.now 0 (numbers_of refused)) (refused_all m)
