use Rattle.std.proofs.Common.{sym, ◌∙◌}
use Rattle.symbols.specs.Roots.{repeats, terms_of}
use Rattle.symbols.proofs.ApartLaws.{terms_sym}
use Rattle.symbols.proofs.roots.repeats.Goals as goal

pub returns-then-same_name : goal.returns-then-same_name
unfolding repeats
returns-then-same_name c = let e = sym c.same_name.ensures ∙ c.if-same_name.true in rw e c.if-same_name.true

pub returns-else-same_name : goal.returns-else-same_name
unfolding repeats
returns-else-same_name c =
    rw (sym c.same_name.ensures ∙ c.if-same_name.false, c.has_terms.ensures, c.root_terms.ensures, terms_sym (terms_of c.args.b.now) (terms_of c.args.a.now))
