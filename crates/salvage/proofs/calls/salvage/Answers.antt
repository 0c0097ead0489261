use Rattle.std.proofs.Common.{sym, ◌∙◌}
use Rattle.salvage.proofs.CallLaws.{salvage_1, salvage_2}
use Rattle.salvage.proofs.calls.salvage.Goals as goal

pub returns-then-not-bytes-clause-value : goal.returns-then-not-bytes-clause-value
returns-then-not-bytes-clause-value c =
    rw c.refused.ensures (sym (salvage_1 c.args.bytes.now _ _ _ c.if-not-bytes.true))

pub returns-in-None-clause-value : goal.returns-in-None-clause-value
returns-in-None-clause-value c =
    rw c.refused-in-None.ensures
    (sym (salvage_2 c.args.bytes.now _ _ _ c.if-not-bytes.false (sym c.find_lead.ensures ∙ c.in-None.is)))
