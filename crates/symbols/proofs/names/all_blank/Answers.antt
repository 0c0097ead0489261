use Rattle.std.proofs.Common.{◌∙◌, rules, tests}
use Rattle.std.proofs.lemmas.Iterator.{YieldsList-from_slice}
use Rattle.std.proofs.lemmas.Iterator.Search.{all_from_yields_List}
use Rattle.symbols.specs.Digits.{is_blank}
use Rattle.symbols.proofs.RunLaws.{all_listed}
use Rattle.symbols.proofs.names.all_blank.Goals as goal

pub returns : goal.returns
returns c =
    let part = c.args.part.now in
    all_from_yields_List is_blank _ _ _ c.all.ensures.ran (YieldsList-from_slice part cc) (λ x b q k. search (rules, tests)) ∙ all_listed is_blank part
