use Rattle.std.proofs.Common.{length, ap}
use Rattle.spreads.proofs.AnswerLaws.{strikes_in, strikes_out}
use Rattle.spreads.proofs.worksheets.list_nets.Goals as goal

pub returns-then-count-strikes_out-clause-value : goal.returns-then-count-strikes_out-clause-value
returns-then-count-strikes_out-clause-value c = strikes_in _ _ _ _ (ap length c.args.spread.now.listed) c.if-count-strikes_out.true

pub returns-clause-value : goal.returns-clause-value
returns-clause-value c = rw c.no_room.ensures (strikes_out _ _ _ _ (ap length c.args.spread.now.listed) c.if-count-strikes_out.false)
