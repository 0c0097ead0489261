use Rattle.verdicts.specs.Steps.Pieces.{Piece}
use Rattle.verdicts.proofs.GroupTables.{copied_to}
use Rattle.verdicts.proofs.table.copy_group.Given as goal

-- the group's records among those before `place` stand at the front
abbrev pub invariant-loop-place : goal.invariant-loop-place
invariant-loop-place l = Piece l.fn.table 0 (copied_to l.g l.placement l.place) l.next l.table
