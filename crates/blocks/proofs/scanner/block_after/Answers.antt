use Rattle.std.specs.Prelude.{Ok}
use Rattle.std.proofs.Common.{◌≡◌, ◌≤◌, sym, ap, ◌∙◌, ◌&&◌, Bool, true, false, List, ℕ, get_or, arith}
use Rattle.blocks.specs.Block.{kind_of, count_of, shaped, number_fits, account_fits}
use Rattle.blocks.specs.Steps.Scan.{may_come, grown, small_enough}
use Rattle.blocks.specs.declared.forms.Form.{Form}
use Rattle.blocks.specs.declared.scanner.SoFar.{SoFar}
use Rattle.records.proofs.ByteLaws.{byte_is}
use Rattle.blocks.proofs.BlockLaws.{shape_is}
use Rattle.blocks.proofs.ScanLaws.{by_tests}
use Rattle.blocks.proofs.scanner.block_after.Goals as goal

few : (form : Form) (b : List ℕ) → shaped form b ≡ true → get_or b 5 0 ≤ 15
few form b h = omega (arith, (shape_is form b h).head.count.1, byte_is b 5)

kept : (seen next : SoFar) (b : List ℕ) → next ≡ grown seen (get_or b 4 0) (get_or b 5 0) → next ≡ grown seen (kind_of b) (count_of b)
kept seen next b g = rw (byte_is b 4, byte_is b 5) g

-- numbering, order and limits, as the calls answer them
placed : (number blocks : ℕ) (seen next : SoFar) (b : List ℕ) (x y z : Bool)
    → x ≡ number_fits number blocks b → y ≡ may_come seen.last (get_or b 4 0)
    → next ≡ grown seen (get_or b 4 0) (get_or b 5 0) → z ≡ small_enough next
    → (x && y && z) ≡ (number_fits number blocks b && may_come seen.last (kind_of b) && small_enough (grown seen (kind_of b) (count_of b)))
placed number blocks seen next b x y z n m g s =
    let m' : y ≡ may_come seen.last (kind_of b) = rw (byte_is b 4) m in
    let g' = kept seen next b g in
    rw (n, m', s ∙ ap small_enough g')

pub returns-then-not-sums_agree : goal.returns-then-not-sums_agree
returns-then-not-sums_agree c =
    let e = sym c.sums_agree.ensures ∙ c.if-not-sums_agree.true in
    rw (by_tests c.args.frame c.args.number _ _ c.args.block.now, e, c.refused.ensures)

pub returns-then-not-well_shaped : goal.returns-then-not-well_shaped
returns-then-not-well_shaped c =
    let agree = sym c.sums_agree.ensures ∙ c.if-not-sums_agree.false in
    let e = sym c.well_shaped.ensures ∙ c.if-not-well_shaped.true in
    rw (by_tests c.args.frame c.args.number _ _ c.args.block.now, agree, e, c.refused-then-not-well_shaped.ensures)

pub with-next-requires : goal.with-next-requires
with-next-requires c = (c.requires, few _ _ (sym c.well_shaped.ensures ∙ c.if-not-well_shaped.false))

pub returns-then-not-number_fits-may_follow : goal.returns-then-not-number_fits-may_follow
returns-then-not-number_fits-may_follow c =
    let agree = sym c.sums_agree.ensures ∙ c.if-not-sums_agree.false in
    let formed = sym c.well_shaped.ensures ∙ c.if-not-well_shaped.false in
    let p = placed _ _ c.args.seen c.with-next.result _ _ _ _ c.number_fits.ensures c.may_follow.ensures c.with-next.ensures c.in_limits.ensures in
    let e = sym p ∙ c.if-not-number_fits-may_follow.true in
    rw (by_tests c.args.frame c.args.number _ _ c.args.block.now, agree, formed, e, c.refused-then-not-number_fits-may_follow.ensures)

pub returns-then-not-account_fits : goal.returns-then-not-account_fits
returns-then-not-account_fits c =
    let agree = sym c.sums_agree.ensures ∙ c.if-not-sums_agree.false in
    let formed = sym c.well_shaped.ensures ∙ c.if-not-well_shaped.false in
    let p = placed _ _ c.args.seen c.with-next.result _ _ _ _ c.number_fits.ensures c.may_follow.ensures c.with-next.ensures c.in_limits.ensures in
    let e = sym p ∙ c.if-not-number_fits-may_follow.false in
    let x : account_fits c.args.frame.origin c.args.block.now ≡ false = sym c.account_fits.ensures ∙ c.if-not-account_fits.true in
    rw (by_tests c.args.frame c.args.number _ _ c.args.block.now, agree, formed, e, x, c.refused-then-not-account_fits.ensures)

pub returns : goal.returns
returns c =
    let agree = sym c.sums_agree.ensures ∙ c.if-not-sums_agree.false in
    let formed = sym c.well_shaped.ensures ∙ c.if-not-well_shaped.false in
    let p = placed _ _ c.args.seen c.with-next.result _ _ _ _ c.number_fits.ensures c.may_follow.ensures c.with-next.ensures c.in_limits.ensures in
    let e = sym p ∙ c.if-not-number_fits-may_follow.false in
    let x : account_fits c.args.frame.origin c.args.block.now ≡ true = sym c.account_fits.ensures ∙ c.if-not-account_fits.false in
    rw (by_tests c.args.frame c.args.number _ _ c.args.block.now, agree, formed, e, x) (ap Ok (kept c.args.seen c.with-next.result c.args.block.now c.with-next.ensures))
