use Rattle.std.proofs.Common.{List, ℕ, not, ◌∙◌, rules, tests}
use Rattle.std.proofs.lemmas.Iterator.{YieldsList-from_slice}
use Rattle.std.proofs.lemmas.Iterator.Search.{all_from_yields_List}
use Rattle.symbols.specs.Roots.{repeats, fresh}
use Rattle.symbols.proofs.RunLaws.{all_listed}
use Rattle.symbols.proofs.roots.is_fresh.Goals as goal

pub returns : goal.returns
unfolding fresh
returns c =
    let before = c.args.before.now in
    let other = λ (f : List ℕ). not (repeats c.args.root.now f) in
    all_from_yields_List other _ _ _ c.all.ensures.ran (YieldsList-from_slice before cc) (λ x b q k. search (rules, tests)) ∙ all_listed other before
