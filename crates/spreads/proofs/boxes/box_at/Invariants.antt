use Rattle.spreads.specs.Steps.Boxed.{fits_box, no_kinds, with_kind}
use Rattle.spreads.proofs.Folds.{Folding}
use Rattle.spreads.proofs.BoxTest.{Passed}
use Rattle.spreads.proofs.boxes.box_at.Given as goal

-- the first i legs fit, and the kinds are theirs
abbrev pub invariant-loop-i : goal.invariant-loop-i
invariant-loop-i l =
    record {
      fit : Passed (fits_box l.low l.high l.expiry) l.group.placement.now l.group.members.now l.i;
      added : Folding with_kind no_kinds l.group.placement.now l.group.members.now l.i l.kinds;
    }
