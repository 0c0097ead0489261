use Rattle.symbols.specs.Roots.{good_root}
use Rattle.records.proofs.ByteLaws.{byte_is}
use Rattle.symbols.proofs.roots.good_root.Goals as goal

pub returns : goal.returns
unfolding good_root
returns c = rw (byte_is c.args.root.now 11, c.good_terms.ensures, c.root_terms.ensures, c.good_name.ensures)
