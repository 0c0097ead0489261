use Rattle.std.proofs.Common.{sym, ◌∙◌, arith}
use Rattle.spreads.proofs.BoxTest.{passed_none, passed_more, passed_stop, passed_done}
use Rattle.spreads.proofs.cash_accounts.all_fit.Goals as goal

pub loop-i-init : goal.loop-i-init
loop-i-init c = passed_none

pub returns-then-not-fits_cash : goal.returns-then-not-fits_cash
returns-then-not-fits_cash c = passed_stop c.loop-i.invariant (omega arith) c.leg.ensures (sym c.fits_cash.ensures ∙ c.if-not-fits_cash.true)

pub loop-i-preserved : goal.loop-i-preserved
loop-i-preserved c = passed_more c.loop-i.invariant (omega arith) c.leg.ensures (sym c.fits_cash.ensures ∙ c.if-not-fits_cash.false)

pub returns : goal.returns
returns c = passed_done c.loop-i.invariant (omega arith)
