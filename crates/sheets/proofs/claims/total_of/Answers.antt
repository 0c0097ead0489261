use Rattle.std.proofs.Common.{arith}
use Rattle.records.proofs.TableLaws.{claims_all}
use Rattle.sheets.proofs.ClaimLaws.{total_step, total_over}
use Rattle.sheets.proofs.claims.total_of.Goals as goal

pub loop-i-init : goal.loop-i-init
loop-i-init c = rw (claims_all c.args.claims.now) (omega arith)

pub overflow_add-total : goal.overflow_add-total
overflow_add-total c = omega (arith, total_step c.args.claims.now c.loop-i.i (omega arith) _ c.claim_at-total.ensures)

pub loop-i-preserved : goal.loop-i-preserved
loop-i-preserved c = omega (arith, total_step c.args.claims.now c.loop-i.i (omega arith) _ c.claim_at-total.ensures)

pub returns : goal.returns
returns c = omega (arith, total_over c.args.claims.now c.loop-i.i (omega arith))
