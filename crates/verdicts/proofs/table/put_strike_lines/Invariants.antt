use Rattle.std.proofs.Common.{take}
use Rattle.verdicts.specs.Steps.Pieces.{Piece}
use Rattle.verdicts.specs.TableText.{strike_lines}
use Rattle.verdicts.proofs.table.put_strike_lines.Given as goal

-- the lines of the first i strikes are written
abbrev pub invariant-loop-i : goal.invariant-loop-i
invariant-loop-i l = Piece l.fn.out l.fn.at (strike_lines (take l.i l.strikes) (take l.i l.nets)) l.next l.out
