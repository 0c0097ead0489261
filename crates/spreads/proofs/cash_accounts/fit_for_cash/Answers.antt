use Rattle.std.proofs.Common.{◌∙◌, arith}
use Rattle.spreads.proofs.CashLaws.{none_fit, first_fits}
use Rattle.spreads.proofs.cash_accounts.fit_for_cash.Goals as goal

pub returns-then-len-eq0 : goal.returns-then-len-eq0
returns-then-len-eq0 c = none_fit c.args.group.now.placement.now c.args.group.now.members.now (omega arith)

pub returns : goal.returns
returns c = c.all_fit.ensures ∙ first_fits c.args.group.now.placement.now c.args.group.now.members.now (omega arith) c.leg.ensures
