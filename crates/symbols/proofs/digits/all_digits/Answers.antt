use Rattle.std.proofs.Common.{◌∙◌, rules, tests}
use Rattle.std.proofs.lemmas.Iterator.{YieldsList-from_slice}
use Rattle.std.proofs.lemmas.Iterator.Search.{all_from_yields_List}
use Rattle.symbols.specs.Digits.{is_digit}
use Rattle.symbols.proofs.RunLaws.{all_listed}
use Rattle.symbols.proofs.digits.all_digits.Goals as goal

pub returns : goal.returns
returns c =
    let part = c.args.part.now in
    all_from_yields_List is_digit _ _ _ c.all.ensures.ran (YieldsList-from_slice part cc) (λ x b q k. search (rules, tests)) ∙ all_listed is_digit part
