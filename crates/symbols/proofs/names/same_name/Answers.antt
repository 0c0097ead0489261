use Rattle.std.proofs.Common.{arith}
use Rattle.symbols.proofs.NumberLaws.{number_same}
use Rattle.symbols.proofs.names.same_name.Goals as goal

pub returns : goal.returns
returns c =
    rw (c.name_number-2.ensures, c.name_number.ensures)
    (number_same c.args.a.now c.args.b.now (λ i. omega (arith, c.type_inv.a i)) (λ i. omega (arith, c.type_inv.b i)) 6 c.requires.0 c.requires.1)
