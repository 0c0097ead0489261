use Rattle.std.proofs.Common.{◌-◌, ◌≤◌}
use Rattle.fills.proofs.BookLaws.{PlayedTo}
use Rattle.fills.proofs.calls.play_fills.Given as goal

abbrev pub invariant-loop-i : goal.invariant-loop-i
invariant-loop-i l = (l.i ≤ l.count) × PlayedTo l.fn.book l.book l.initial.indices l.initial.numbers l.indices l.numbers l.refused l.i

abbrev pub decreases-loop-i : goal.decreases-loop-i
decreases-loop-i l = l.count - l.i
