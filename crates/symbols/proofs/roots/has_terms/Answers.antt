use Rattle.std.proofs.Common.{◌∙◌, sym}
use Rattle.symbols.specs.Roots.{terms_of}
use Rattle.symbols.proofs.RootLaws.{terms_rest, terms_apart}
use Rattle.symbols.proofs.roots.has_terms.Goals as goal

pub returns-then-underlying_of-terms : goal.returns-then-underlying_of-terms
returns-then-underlying_of-terms c =
    terms_apart (terms_of c.args.root.now) c.args.terms (λ e. c.if-underlying_of-terms.true (c.underlying_of.ensures ∙ e))

pub returns : goal.returns
returns c =
    rw c.root_terms-own.ensures
    (terms_rest (terms_of c.args.root.now) c.args.terms (sym c.underlying_of.ensures ∙ c.if-underlying_of-terms.false))
