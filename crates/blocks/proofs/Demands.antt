-- The statements of specs/Demands.antt, proved.
use mathlib.Core.Path.{sym}
use native.Mathlib.Decide.{dec_le}
use native.Mathlib.Omega.{arith}
use lib.ListN.{length}
use Rattle.records.proofs.PutLaws.{put_past}
use Rattle.blocks.specs.File.{table_of, tables_in, file_of}
use Rattle.blocks.specs.Moves.{moved_to}
use Rattle.blocks.specs.Demands.{RefusedReadsNothing, RefusedWritesNothing, RefusedMovesNothing, PastRecordsStays, PastCopyStays, PastFileStays, PastMovedStays}
use Rattle.blocks.proofs.ReadLaws.{read_read, copied_room, copied_short}
use Rattle.blocks.proofs.WriteLaws.{write_wrote}
use Rattle.blocks.proofs.MoveLaws.{move_wrote}

refused_reads_nothing : RefusedReadsNothing
refused_reads_nothing file h p c r e kind lent = rw e

refused_writes_nothing : RefusedWritesNothing
refused_writes_nothing o t out r e = rw e

refused_moves_nothing : RefusedMovesNothing
refused_moves_nothing from to file out r e = rw e

past_records_stays : PastRecordsStays
past_records_stays file h p c n o e =
    let r = read_read file h p c n o e in
    (sym r.1, sym r.2, λ kind lent. rw e (put_past lent (table_of kind (tables_in file))))

past_copy_stays : PastCopyStays
past_copy_stays kind file lent =
    let t = table_of kind (tables_in file) in
    elim (dec_le (length t) (length lent)) [
      | yes h ↦ rw (copied_room kind file lent h) (put_past lent t)
      | no h ↦ rw (copied_short kind file lent (omega arith))
    ]

past_file_stays : PastFileStays
past_file_stays o t out n e = rw (e, ← (write_wrote o t (length out) n e).1) (put_past out (file_of o t))

past_moved_stays : PastMovedStays
past_moved_stays from to file out n e = rw (e, ← (move_wrote from to file (length out) n e).3) (put_past out (moved_to to file))
