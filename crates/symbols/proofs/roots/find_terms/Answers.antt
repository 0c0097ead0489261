use Rattle.std.proofs.Common.{List, ℕ, rules, tests}
use Rattle.std.proofs.lemmas.Iterator.{YieldsList-from_slice}
use Rattle.std.proofs.lemmas.Iterator.Search.{find_from_yields_List}
use Rattle.symbols.specs.Roots.{same_terms, terms_of}
use Rattle.symbols.proofs.roots.find_terms.Goals as goal

pub returns : goal.returns
returns c =
    find_from_yields_List (λ (e : List ℕ). same_terms (terms_of e) c.args.terms) _ _ c.find.result c.find.ensures.ran (YieldsList-from_slice c.args.roots.now cc)
    (λ x b q k. search (rules, tests))
