use Rattle.std.proofs.Common.{arith}
use borrow.Author.Tests.{le-leb}
use mathlib.Core.Bool.{and-true}
use Rattle.symbols.specs.Roots.{good_terms}
use Rattle.symbols.proofs.roots.good_terms.Goals as goal

pub returns : goal.returns
unfolding good_terms
returns c =
    let t = c.args.terms in
    rw (le-leb 0 t.settlement (omega arith), le-leb t.underlying 4294967295 (omega arith), and-true)
