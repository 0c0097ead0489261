use Rattle.std.specs.Prelude.{Result, Ok}
use Rattle.std.proofs.Common.{◌≡◌, Bool, List, ℕ, sym, ap, ◌∙◌, length}
use Rattle.records.specs.Order.{first_of}
use Rattle.records.specs.declared.refusals.Refusal.{Refusal}
use Rattle.blocks.specs.Forms.{named}
use Rattle.blocks.specs.Block.{origin_of, shaped}
use Rattle.blocks.specs.File.{Tables, tables_in, fields_of}
use Rattle.blocks.specs.Alone.{own_tables}
use Rattle.blocks.specs.declared.forms.Origin.{Origin}
use Rattle.blocks.proofs.AloneLaws.{one_block, own_tables_lem, shaped_sized, alone_2, alone_3, alone_4, alone_20, alone_sound}
use Rattle.blocks.proofs.alone.judge_whole.Goals as goal

-- what each call says, of the block's own origin
shape_said : (b : List ℕ) (o : Origin) (x y : Bool) → o ≡ origin_of b → x ≡ shaped o.form b → x ≡ y → shaped (origin_of b).form b ≡ y
shape_said b o x y e s w = rw (← e) (sym s ∙ w)

fault_said : (b : List ℕ) (x y : Result Unit Refusal) → length b ≡ 512 → x ≡ first_of (fields_of (tables_in b)) → x ≡ y → first_of (fields_of (own_tables b)) ≡ y
fault_said b x y len f w = ap (λ (t : Tables). first_of (fields_of t)) (sym (own_tables_lem b len)) ∙ sym f ∙ w

name_said : (b : List ℕ) (o : Origin) (x y : Bool) → o ≡ origin_of b → x ≡ named o.form o.account → x ≡ y → named (origin_of b).form (origin_of b).account ≡ y
name_said b o x y e s w = rw (← e) (sym s ∙ w)

pub returns-then-not-sums_agree : goal.returns-then-not-sums_agree
returns-then-not-sums_agree c =
    rw c.refused.ensures (sym (alone_2 c.args.block.now c.told-block (sym c.sums_agree.ensures ∙ c.if-not-sums_agree.true)))

pub returns-then-not-well_shaped : goal.returns-then-not-well_shaped
returns-then-not-well_shaped c =
    let b = c.args.block.now in
    let agree = sym c.sums_agree.ensures ∙ c.if-not-sums_agree.false in
    let shape = shape_said b _ _ _ c.origin_of-origin.ensures c.well_shaped.ensures c.if-not-well_shaped.true in
    rw c.refused-then-not-well_shaped.ensures (sym (alone_3 b c.told-block agree shape))

pub file_fields_fault-requires : goal.file_fields_fault-requires
file_fields_fault-requires c =
    let b = c.args.block.now in
    let shape = shape_said b _ _ _ c.origin_of-origin.ensures c.well_shaped.ensures c.if-not-well_shaped.false in
    rw (one_block b c.told-block) (shaped_sized b c.told-block shape, tt)

pub returns-in-Err : goal.returns-in-Err
returns-in-Err c =
    let b = c.args.block.now in
    let agree = sym c.sums_agree.ensures ∙ c.if-not-sums_agree.false in
    let shape = shape_said b _ _ _ c.origin_of-origin.ensures c.well_shaped.ensures c.if-not-well_shaped.false in
    sym (alone_4 b c.told-block agree shape _ (fault_said b _ _ c.told-block c.file_fields_fault.ensures c.in-Err.is))

pub returns-then-not-is_named : goal.returns-then-not-is_named
returns-then-not-is_named c =
    let b = c.args.block.now in
    let agree = sym c.sums_agree.ensures ∙ c.if-not-sums_agree.false in
    let shape = shape_said b _ _ _ c.origin_of-origin.ensures c.well_shaped.ensures c.if-not-well_shaped.false in
    let fine = fault_said b _ _ c.told-block c.file_fields_fault.ensures c.in-Ok.is in
    rw c.refused-then-not-is_named.ensures
    (sym (alone_20 b c.told-block agree shape fine (name_said b _ _ _ c.origin_of-origin.ensures c.is_named.ensures c.if-not-is_named.true)))

pub returns-else-not-is_named : goal.returns-else-not-is_named
returns-else-not-is_named c =
    let b = c.args.block.now in
    let agree = sym c.sums_agree.ensures ∙ c.if-not-sums_agree.false in
    let shape = shape_said b _ _ _ c.origin_of-origin.ensures c.well_shaped.ensures c.if-not-well_shaped.false in
    let fine = fault_said b _ _ c.told-block c.file_fields_fault.ensures c.in-Ok.is in
    ap Ok c.origin_of-origin.ensures
    ∙ sym (alone_sound b c.told-block agree shape fine (name_said b _ _ _ c.origin_of-origin.ensures c.is_named.ensures c.if-not-is_named.false))
