use Rattle.std.proofs.Common.{List, ℕ, take, rules, tests}
use Rattle.std.proofs.lemmas.Iterator.{YieldsList-from_slice}
use Rattle.std.proofs.lemmas.Iterator.Search.{find_from_yields_List}
use Rattle.records.specs.Lists.{same}
use Rattle.symbols.proofs.roots.find_name.Goals as goal

pub returns : goal.returns
returns c =
    find_from_yields_List (λ (e : List ℕ). same (take 6 e) (take 6 c.args.line.now)) _ _ c.find.result c.find.ensures.ran (YieldsList-from_slice c.args.roots.now cc) (λ x b q k. search (rules, tests))
