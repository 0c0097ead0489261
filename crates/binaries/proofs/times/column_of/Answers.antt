use Rattle.std.proofs.Common.{arith}
use borrow.Author.Tests.{le-leb, lt-leb}
use Rattle.records.proofs.TableLaws.{date_true}
use Rattle.binaries.proofs.TimeLaws.{column_plain}
use Rattle.binaries.proofs.times.column_of.Goals as goal

pub overflow_add-valuation : goal.overflow_add-valuation
overflow_add-valuation c = omega (arith, date_true _ c.args.valuation.real)

pub overflow_add-valuation-2 : goal.overflow_add-valuation-2
overflow_add-valuation-2 c = omega (arith, date_true _ c.args.valuation.real)

pub overflow_add-valuation-3 : goal.overflow_add-valuation-3
overflow_add-valuation-3 c = omega (arith, date_true _ c.args.valuation.real)

pub returns-then-expiry-valuation : goal.returns-then-expiry-valuation
returns-then-expiry-valuation c = (rw (column_plain _ _ c.args.expiry.real, le-leb _ _ c.if-expiry-valuation.true), omega arith)

pub returns-then-expiry-valuation-2 : goal.returns-then-expiry-valuation-2
returns-then-expiry-valuation-2 c =
    (rw (column_plain _ _ c.args.expiry.real, lt-leb _ _ c.if-expiry-valuation.false, le-leb _ _ c.if-expiry-valuation-2.true), omega arith)

pub returns-then-expiry-valuation-3 : goal.returns-then-expiry-valuation-3
returns-then-expiry-valuation-3 c =
    (rw (column_plain _ _ c.args.expiry.real, lt-leb _ _ c.if-expiry-valuation.false, lt-leb _ _ c.if-expiry-valuation-2.false, le-leb _ _ c.if-expiry-valuation-3.true), omega arith)

pub returns : goal.returns
returns c =
    (rw (column_plain _ _ c.args.expiry.real, lt-leb _ _ c.if-expiry-valuation.false, lt-leb _ _ c.if-expiry-valuation-2.false, lt-leb _ _ c.if-expiry-valuation-3.false), omega arith)
