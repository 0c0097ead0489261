use Rattle.std.specs.Prelude.{Result, Ok, Err}
use Rattle.std.proofs.Common.{◌≡◌, ◌<◌, ℕ, List, [], refl, ◌/◌, sym, ◌∙◌, length, arith}
use lib.ListN.{get_or}
use Rattle.records.specs.Chunks.{chunk_at}
use Rattle.records.specs.Order.{first_of}
use Rattle.records.proofs.ErrorLaws.{handed_on}
use Rattle.blocks.specs.Block.{origin_of, kind_of, count_of}
use Rattle.blocks.specs.File.{blocks_of, origin_in, frame_in}
use Rattle.blocks.specs.Steps.Scan.{grown, ask_after, grown_answer, scan_of}
use Rattle.blocks.proofs.FileLaws.{whole_file_lem, block_is, blocks_long}
use Rattle.blocks.proofs.ScanLaws.{scan_start, scan_fault, scan_next, scan_done}
use Rattle.blocks.proofs.scanner.scan.Goals as goal
use Rattle.records.specs.declared.refusals.Refusal.{Refusal}
use Rattle.blocks.specs.declared.forms.Origin.{Origin}
use Rattle.blocks.specs.declared.scanner.SoFar.{SoFar}

-- the origin of the first block
origin_first : (f : List ℕ) (bs : List (List ℕ)) (o : Origin) → bs ≡ blocks_of f → 0 < length f / 512 → o ≡ origin_of (get_or bs 0 []) → o ≡ origin_in f
unfolding origin_in
origin_first f bs o e h w = rw (block_is f bs 0 e h) at w

-- what is found in block i
found_at : (f : List ℕ) (bs : List (List ℕ)) (i : ℕ) (seen : SoFar) (o : Origin) {x : Result SoFar Refusal} → bs ≡ blocks_of f → i < length bs → o ≡ origin_in f
    → x ≡ grown_answer (first_of (ask_after (record { origin = o; blocks = length bs }) seen i (get_or bs i []))) seen (get_or bs i [])
    → x ≡ grown_answer (first_of (ask_after (frame_in f) seen i (chunk_at 512 f i))) seen (chunk_at 512 f i)
found_at f bs i seen o e h p w = rw (p, block_is f bs i e (omega (arith, blocks_long f bs e)), blocks_long f bs e) at w

grown_err : (x : Result Unit Refusal) (s : SoFar) (b : List ℕ) (r : Refusal) → grown_answer x s b ≡ Err r → x ≡ Err r
grown_err (Ok tt) s b r e = absurd (let z : ◌≡◌ {A = ℕ} 0 1 = cc in omega arith)
grown_err (Err q) s b r e = cc

grown_ok : (x : Result Unit Refusal) (s n : SoFar) (b : List ℕ) → grown_answer x s b ≡ Ok n → (x ≡ Ok tt) × (n ≡ grown s (kind_of b) (count_of b))
grown_ok (Ok tt) s n b e = (refl, cc)
grown_ok (Err q) s n b e = absurd (let z : ◌≡◌ {A = ℕ} 0 1 = cc in omega arith)

pub loop-i-init : goal.loop-i-init
loop-i-init c = rw c.nothing-seen.ensures (scan_start c.args.file.now)

pub returns-in_err-seen : goal.returns-in_err-seen
unfolding scan_of
returns-in_err-seen c =
    let f = c.args.file.now in
    let bs = c.blocks_of-blocks.result.now in
    let e = c.blocks_of-blocks.ensures.value in
    let i = c.loop-i.i in
    let o = origin_first f bs _ e (omega (arith, blocks_long f bs e)) c.origin_of-origin.ensures in
    let found = found_at f bs i c.loop-i.seen _ e c.loop-i-test.true o c.block_after.ensures in
    let fault = grown_err _ _ _ _ (sym found ∙ c.in_err-seen.was) in
    handed_on _ c.in_err-seen.field-0.0 c.from_residual.ensures.1
    ∙ rw (scan_fault f i c.loop-i.seen (omega (arith, blocks_long f bs e)) c.loop-i.invariant _ fault)

pub loop-i-preserved : goal.loop-i-preserved
loop-i-preserved c =
    let f = c.args.file.now in
    let bs = c.blocks_of-blocks.result.now in
    let e = c.blocks_of-blocks.ensures.value in
    let i = c.loop-i.i in
    let o = origin_first f bs _ e (omega (arith, blocks_long f bs e)) c.origin_of-origin.ensures in
    let found = found_at f bs i c.loop-i.seen _ e c.loop-i-test.true o c.block_after.ensures in
    let next = grown_ok _ _ _ _ (sym found ∙ c.in_ok-seen.was) in
    rw next.1 (scan_next f i c.loop-i.seen (omega (arith, blocks_long f bs e)) c.loop-i.invariant next.0)

pub returns : goal.returns
returns c =
    let f = c.args.file.now in
    let bs = c.blocks_of-blocks.result.now in
    let e = c.blocks_of-blocks.ensures.value in
    let o = origin_first f bs _ e (omega (arith, whole_file_lem (length f) c.requires)) c.origin_of-origin.ensures in
    rw o (sym (scan_done f c.loop-i.i c.loop-i.seen (omega (arith, blocks_long f bs e)) c.loop-i.invariant))
