use Rattle.std.specs.Prelude.{Ok, pos}
use Rattle.std.proofs.Common.{sym, ap, ◌∙◌, arith, w64}
use mir.Facts.{to_z_pos}
use Rattle.spreads.proofs.CashLaws.{fit_due, not_fit_due}
use Rattle.spreads.proofs.cash_accounts.members_cash.Goals as goal

pub returns-then-fit_for_cash : goal.returns-then-fit_for_cash
returns-then-fit_for_cash c =
    ap Ok (to_z_pos w64 (omega (arith, c.worst_at.ensures.1)) ∙ ap pos c.worst_at.ensures.0) ∙ fit_due _ _ (sym c.fit_for_cash.ensures ∙ c.if-fit_for_cash.true)

pub returns : goal.returns
returns c = rw c.refused.ensures (not_fit_due _ _ (sym c.fit_for_cash.ensures ∙ c.if-fit_for_cash.false))
