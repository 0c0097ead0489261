use Rattle.spreads.specs.Steps.Fitting.{fits_cash}
use Rattle.spreads.proofs.BoxTest.{Passed}
use Rattle.spreads.proofs.cash_accounts.all_fit.Given as goal

-- the first i legs fit
abbrev pub invariant-loop-i : goal.invariant-loop-i
invariant-loop-i l = Passed (fits_cash l.expiry) l.group.placement.now l.group.members.now l.i
