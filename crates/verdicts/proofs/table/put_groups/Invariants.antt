use Rattle.records.specs.Tables.{legs_of}
use Rattle.verdicts.specs.Steps.Pieces.{Piece}
use Rattle.verdicts.specs.TableText.{shown_in, shown_text}
use Rattle.verdicts.proofs.table.put_groups.Given as goal

-- groups 1 to k are written
abbrev pub invariant-loop-k : goal.invariant-loop-k
invariant-loop-k l = Piece l.fn.out 0 (shown_text (shown_in l.k (legs_of l.placement))) l.next l.out
