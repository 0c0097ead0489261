use Rattle.std.proofs.Common.{◌≡◌, Bool, true, false, not, refl, ap, sym, ◌∙◌, length}
use denote.Enum.Bare.{sameb}
use Rattle.records.proofs.ErrorLaws.{handed_on}
use Rattle.blocks.specs.Forms.{same_form}
use Rattle.blocks.specs.contracts.forms.Form.{the_type}
use Rattle.blocks.specs.declared.forms.Form.{Form}
use Rattle.blocks.specs.declared.forms.Origin.{Origin}
use Rattle.blocks.proofs.TablesFit.{tables_are}
use Rattle.blocks.proofs.ReadThenWritten.{writes_as}
use Rattle.blocks.proofs.MoveLaws.{move_unread, move_3, move_written, same_form_is}
use Rattle.blocks.proofs.moves.read_and_write.Goals as goal

not_same : (x y : Bool) → not x ≡ not y → x ≡ y
not_same true true e = refl
not_same true false e = cc
not_same false true e = cc
not_same false false e = refl

-- what `!=` says of the form that was found, once it is known whose origin it is
formed : (from : Form) (x y : Bool) (o r : Origin) → x ≡ not (sameb the_type r.form from) → o ≡ r → x ≡ not y → same_form o.form from ≡ y
formed from x y o r e q h =
    ap (λ (p : Origin). same_form p.form from) q ∙ sym (same_form_is r.form from) ∙ not_same _ _ (sym e ∙ h)

pub returns-in_err-found : goal.returns-in_err-found
returns-in_err-found c =
    let a = c.args in
    let e = handed_on c.from_residual.result c.in_err-found.field-0.0 c.from_residual.ensures.1 in
    record {
      value = e ∙ sym (move_unread a.from a.to a.file.now (length a.out.now) c.requires.0 c.requires.1 _ (sym c.read_file.ensures.value ∙ c.in_err-found.was));
      out_after = rw e;
    }

pub returns-then-ne : goal.returns-then-ne
returns-then-ne c =
    let r = c.read_file.ensures in
    let a = c.args in
    let t = tables_are a.file.now _ _ _ _ _ _ _ _ _ r.value c.in_ok-found.was r.holdings_after r.placement_after r.claims_after in
    let x = formed a.from _ false _ _ c.ne.ensures t.1 c.if-ne.true in
    record {
      value = rw c.refused.ensures (sym (move_3 a.from a.to a.file.now (length a.out.now) c.requires.0 c.requires.1 t.0.reads x));
      out_after = refl;
    }

pub first-requires : goal.first-requires
first-requires c =
    let r = c.read_file.ensures in
    let t = (tables_are c.args.file.now _ _ _ _ _ _ _ _ _ r.value c.in_ok-found.was r.holdings_after r.placement_after r.claims_after).0 in
    (t.holdings, t.placement, t.claims)

pub put_with_room-requires : goal.put_with_room-requires
put_with_room-requires c =
    let r = c.read_file.ensures in
    let t = (tables_are c.args.file.now _ _ _ _ _ _ _ _ _ r.value c.in_ok-found.was r.holdings_after r.placement_after r.claims_after).0 in
    rw (c.first.ensures, t.same) (writes_as c.args.file.now t.reads c.args.to c.requires.1)

pub returns : goal.returns
returns c =
    let r = c.read_file.ensures in
    let a = c.args in
    let t = tables_are a.file.now _ _ _ _ _ _ _ _ _ r.value c.in_ok-found.was r.holdings_after r.placement_after r.claims_after in
    let x = formed a.from _ true _ _ c.ne.ensures t.1 c.if-ne.false in
    let w = rw (c.first.ensures, t.0.same) at c.put_with_room.ensures in
    record {
      value = w.0 ∙ sym (move_written a.from a.to a.file.now (length a.out.now) c.requires.0 c.requires.1 t.0.reads x);
      out_after = w.1;
    }
