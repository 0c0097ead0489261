use Rattle.std.proofs.Common.{◌≡◌, ◌≤◌, List, ℕ, true, sym, ◌∙◌, arith}
use lib.ListN.{get_or}
use Rattle.records.specs.Bytes.{zero_in}
use Rattle.records.proofs.ByteLaws.{byte_is}
use Rattle.blocks.specs.Block.{head_fits, unused_zero, shaped}
use Rattle.blocks.specs.declared.forms.Form.{Form}
use Rattle.blocks.proofs.BlockLaws.{head_is}
use Rattle.blocks.proofs.shape.well_shaped.Goals as goal

-- the count of a block whose bytes 0 to 15 fit
few : (form : Form) (b : List ℕ) → head_fits form b ≡ true → get_or b 5 0 ≤ 15
few form b h = omega (arith, (head_is form b h).count.1, byte_is b 5)

pub slice_bounds-all_zero-count : goal.slice_bounds-all_zero-count
slice_bounds-all_zero-count c = omega (arith, few _ _ (sym c.head_fits.ensures ∙ c.if-head_fits.true))

pub slice_bounds-all_zero-start : goal.slice_bounds-all_zero-start
slice_bounds-all_zero-start c =
    let n : get_or c.args.block.now 5 0 ≤ 15 = few _ _ (sym c.head_fits.ensures ∙ c.if-head_fits.true) in
    omega arith

pub returns-then-head_fits : goal.returns-then-head_fits
unfolding shaped zero_in
returns-then-head_fits c =
    let b = c.args.block.now in
    let e : head_fits c.args.form b ≡ true = sym c.head_fits.ensures ∙ c.if-head_fits.true in
    let u : c.all_zero.result ≡ unused_zero b = rw (byte_is b 5) c.all_zero.ensures in
    rw (e, c.tail_fits.ensures, u)

pub returns : goal.returns
unfolding shaped
returns c = rw (sym c.head_fits.ensures ∙ c.if-head_fits.false)
