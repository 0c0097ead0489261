use Rattle.std.proofs.Common.{◌≡◌, Bool, ◌&&◌, sym, ap, ◌∙◌}
use denote.Enum.Bare.{sameb}
use lib.Dec.{eqb}
use Rattle.blocks.specs.contracts.forms.Form.{the_type}
use Rattle.blocks.specs.declared.forms.Origin.{Origin}
use Rattle.blocks.proofs.Laws.{same_form_is}
use Rattle.salvage.specs.Kept.{same_origin}
use Rattle.salvage.proofs.PieceLaws.{dropped_refused, dropped_same, dropped_other}
use Rattle.salvage.proofs.pieces.Pieces.drop_number.Goals as goal

-- what `==` says of two origins
origins_are : (x : Bool) (a b : Origin) → x ≡ (sameb the_type a.form b.form && eqb a.account b.account) → same_origin a b ≡ x
origins_are x a b e = sym (e ∙ ap (λ (same : Bool). same && eqb a.account b.account) (same_form_is a.form b.form))

pub returns-in-Err : goal.returns-in-Err
returns-in-Err c = sym (dropped_refused c.args.lead _ _ (sym c.judge.ensures ∙ c.in-Err.is))

pub returns-then-eq : goal.returns-then-eq
returns-then-eq c =
    sym (dropped_same c.args.lead _ _ (sym c.judge.ensures ∙ c.in-Ok.is) (origins_are _ c.in-Ok.origin c.args.lead (sym c.if-eq.true ∙ c.eq.ensures)))

pub returns-else-eq : goal.returns-else-eq
returns-else-eq c =
    sym (dropped_other c.args.lead _ _ (sym c.judge.ensures ∙ c.in-Ok.is) (origins_are _ c.in-Ok.origin c.args.lead (sym c.if-eq.false ∙ c.eq.ensures)))
