-- The statements of specs/Accounts.antt, proved.
use Rattle.std.specs.Prelude.{Result, Ok, Err}
use mathlib.Core.Path.{◌≡◌, refl, sym, ap, ◌∙◌}
use mathlib.Core.Bool.{Bool, true, false, ◌&&◌, cond}
use mathlib.Core.List.{List, [], ◌∷◌}
use mathlib.Core.Logic.{◌⊎◌, inl, inr}
use Prim.Native.Nat.{ℕ, zero, suc, ◌+◌, ◌/◌, ◌≤◌, ◌<◌}
use native.Mathlib.Numerals.{add-one}
use native.Mathlib.Omega.{arith}
use lib.ListN.{length, take}
use borrow.Author.Tests.{eq-eqb, ne_eqb}
use Rattle.records.specs.Chunks.{chunk_at}
use Rattle.records.specs.Lists.{All}
use Rattle.records.specs.Order.{refuse, first_of}
use Rattle.records.specs.Written.{put_at}
use Rattle.records.specs.declared.refusals.Refusal.{Refusal}
use Rattle.records.proofs.ChunkLaws.{all_chunk}
use Rattle.records.proofs.OrderLaws.{first_then, first_stop}
use Rattle.records.proofs.PassLaws.{Pass, unclear, pass_left, pass_right}
use Rattle.records.proofs.PutLaws.{put_front}
use Rattle.blocks.specs.Block.{sums_agree, shaped, number_fits, account_fits, origin_of}
use Rattle.blocks.specs.File.{whole_file, blocks_of, tables_in, origin_in, frame_in, follows, within_limits, block_checks, blocks_checks}
use Rattle.blocks.specs.Reader.{read_call}
use Rattle.blocks.specs.Moves.{moved_to}
use Rattle.blocks.specs.Steps.Scan.{scan_of}
use Rattle.blocks.specs.RoundTrips.{Reads}
use Rattle.blocks.specs.Accounts.{OneAccount, Begins, JoinedRefused, JoinedElsewhere, FormsAlike, MovedAlike}
use Rattle.blocks.specs.declared.forms.Origin.{Origin}
use Rattle.blocks.specs.declared.forms.Frame.{Frame}
use Rattle.blocks.proofs.BlockLaws.{origin_is, number_is}
use Rattle.blocks.proofs.FileLaws.{Passed, block_passed, whole_file_lem, earlier, length_earlier, blocks_from, blocks_all, blocks_step}
use Rattle.blocks.proofs.ScanLaws.{by_tests}
use Rattle.blocks.proofs.GoodBlocks.{first_passed, read_good, named_back}
use Rattle.blocks.proofs.ReadLaws.{scan_whole, judge_scan, read_refused}
use Rattle.blocks.proofs.FlatLaws.{length_file}
use Rattle.blocks.proofs.WrittenThenRead.{written_reads_back}
use Rattle.blocks.proofs.ReadThenWritten.{settled_in, writes_as, read_writes_back}
use Rattle.blocks.proofs.MoveLaws.{move_wrote}

-- ---- a file is of one account

-- a block with right checks, of this origin
abbrev Own : Origin → List ℕ → Type 0
Own o b = (sums_agree b ≡ true) × (origin_of b ≡ o)

blocks_own : (F : Frame) (before bs : List (List ℕ)) → Pass (blocks_checks F before bs) → All (Own F.origin) bs
unfolding blocks_checks
blocks_own F before [] p = tt
blocks_own F before (b ∷ bs) p =
    let ok = block_passed F before b (pass_left (block_checks F before b) (blocks_checks F (b ∷ before) bs) p) in
    let rest = pass_right (block_checks F before b) (blocks_checks F (b ∷ before) bs) p in
    ((ok.sums, origin_is F.origin b ok.shape ok.account), blocks_own F (b ∷ before) bs rest)

file_own : (f : List ℕ) → Reads f → All (Own (origin_in f)) (blocks_of f)
file_own f r = blocks_own (frame_in f) [] (blocks_of f) (read_good f r).blocks

all_origin : (o : Origin) (bs : List (List ℕ)) → All (Own o) bs → All (λ b. origin_of b ≡ o) bs
all_origin o [] a = tt
all_origin o (b ∷ bs) a = (a.0.1, all_origin o bs a.1)

pub one_account : OneAccount
one_account f r =
    (all_origin (origin_in f) (blocks_of f) (file_own f r), named_back f (read_good f r), ap (λ (o : Origin). o.account) (settled_in f))

-- ---- two files joined

-- what the first fault of the blocks makes the reader answer
refused_at : (f : List ℕ) (r : Refusal) → whole_file (length f) ≡ true → first_of (blocks_checks (frame_in f) [] (blocks_of f)) ≡ Err r
    → (h p c : ℕ) → read_call f h p c ≡ Err r
unfolding scan_of
refused_at f r w e h p c =
    let s : scan_of f ≡ Err r = rw e in
    read_refused f h p c r (judge_scan f r (sym (scan_whole f w) ∙ s))

-- the checks of a file whose first k blocks are those of one that passes come down to those from block k on
module _ (F : Frame) (one joined : List ℕ) (n : length joined / 512 ≡ length one / 512) where
  earlier_same : (i : ℕ) → ((m : ℕ) → m < i → chunk_at 512 joined m ≡ chunk_at 512 one m) → earlier joined i ≡ earlier one i
  unfolding earlier
  earlier_same zero e = refl
  earlier_same (suc i) e = rw (e i (omega arith), earlier_same i (λ m h. e m (omega arith)))

  pub from_block : (i : ℕ) → i ≤ length one / 512 → ((m : ℕ) → m < i → chunk_at 512 joined m ≡ chunk_at 512 one m)
      → Pass (blocks_checks F [] (blocks_of one))
      → Pass (blocks_checks F (earlier one i) (blocks_from one i))
      × (first_of (blocks_checks F [] (blocks_of joined)) ≡ first_of (blocks_checks F (earlier one i) (blocks_from joined i)))
  unfolding earlier blocks_checks
  from_block zero h e p = (rw (blocks_all one) p, rw (blocks_all joined))
  from_block (suc i) h e p =
      let was = from_block i (omega arith) (λ m l. e m (omega arith)) p in
      let b = chunk_at 512 one i in
      let before = earlier one i in
      let q : Pass (blocks_checks F before (b ∷ blocks_from one (i + 1))) = rw (blocks_step one i (omega arith)) at was.0 in
      let own = pass_left (block_checks F before b) (blocks_checks F (b ∷ before) (blocks_from one (i + 1))) q in
      let rest = pass_right (block_checks F before b) (blocks_checks F (b ∷ before) (blocks_from one (i + 1))) q in
      let step : blocks_from joined i ≡ b ∷ blocks_from joined (i + 1) = blocks_step joined i (omega arith) ∙ rw (e i (omega arith)) in
      let on : first_of (blocks_checks F before (b ∷ blocks_from joined (i + 1))) ≡ first_of (blocks_checks F (b ∷ before) (blocks_from joined (suc i))) =
      rw (← (add-one i)) (first_then (block_checks F before b) (blocks_checks F (b ∷ before) (blocks_from joined (i + 1))) (unclear (block_checks F before b) own)) in
      (rw (← (add-one i)) rest, was.1 ∙ rw step on)

-- the frame is that of the first block and of as many blocks
same_frame : (one joined : List ℕ) → length joined / 512 ≡ length one / 512 → take 512 joined ≡ take 512 one → frame_in joined ≡ frame_in one
unfolding origin_in
same_frame one joined n e = rw (e, n)

-- by the tests of a block with right checks
tests : (h m a : Bool) (i : ℕ) → (h ≡ true → a ≡ true → ⊥)
    → (◌≡◌ {A = Result (Unit {0}) Refusal} (cond h (cond m (cond a (Ok tt) (Err (refuse 20 0 i))) (Err (refuse 3 0 i))) (Err (refuse 3 0 i))) (Err (refuse 3 0 i)))
    ⊎ (◌≡◌ {A = Result (Unit {0}) Refusal} (cond h (cond m (cond a (Ok tt) (Err (refuse 20 0 i))) (Err (refuse 3 0 i))) (Err (refuse 3 0 i))) (Err (refuse 20 0 i)))
tests false m a i n = inl refl
tests true false a i n = inl refl
tests true true false i n = inr refl
tests true true true i n = absurd (n refl refl)

-- a block with right checks, but of another origin
stranger : (F : Frame) (before : List (List ℕ)) (b : List ℕ) → sums_agree b ≡ true → (origin_of b ≡ F.origin → ⊥)
    → (first_of (block_checks F before b) ≡ Err (refuse 3 0 (length before))) ⊎ (first_of (block_checks F before b) ≡ Err (refuse 20 0 (length before)))
unfolding block_checks
stranger F before b s n =
    let i = length before in
    rw (by_tests F i (follows before b) (within_limits (b ∷ before)) b, s)
    (tests (shaped F.origin.form b) (number_fits i F.blocks b && follows before b && within_limits (b ∷ before)) (account_fits F.origin b) i
    (λ h a. n (origin_is F.origin b h a)))

module _ (one joined : List ℕ) (r : Reads one) (len : length joined ≡ length one) (k : ℕ) (front : Begins k joined one) (hk : k < length joined / 512) where
  blocks_same : length joined / 512 ≡ length one / 512
  blocks_same = ap (λ (m : ℕ). m / 512) len

  joint_fault : (x : Refusal) → first_of (block_checks (frame_in one) (earlier one k) (chunk_at 512 joined k)) ≡ Err x
      → (h p c : ℕ) → read_call joined h p c ≡ Err x
  unfolding blocks_checks
  joint_fault x e =
      let F = frame_in one in
      let b = chunk_at 512 joined k in
      let frames = same_frame one joined blocks_same (front.1 0 front.0) in
      let up = (from_block F one joined blocks_same k (omega (arith, blocks_same)) front.1 (read_good one r).blocks).1 in
      let here : first_of (blocks_checks F (earlier one k) (blocks_from joined k)) ≡ Err x =
      rw (blocks_step joined k hk)
      (first_stop (block_checks F (earlier one k) b) (blocks_checks F (b ∷ earlier one k) (blocks_from joined (k + 1))) x e) in
      refused_at joined x (rw len (read_good one r).whole) (rw frames (up ∙ here))

pub joined_refused : JoinedRefused
joined_refused one other joined ro rt n len k j front hk hj e h p c =
    let b = chunk_at 512 joined k in
    let own : Own (origin_in other) b = rw e (all_chunk (Own (origin_in other)) 512 (length other / 512) j other hj (file_own other rt)) in
    let found = rw (length_earlier one k) at (stranger (frame_in one) (earlier one k) b own.0 (λ q. n (sym q ∙ own.1))) in
    elim found [
      | inl x ↦ inl (joint_fault one joined ro len k front hk (refuse 3 0 k) x h p c)
      | inr x ↦ inr (joint_fault one joined ro len k front hk (refuse 20 0 k) x h p c)
    ]

-- of another number of blocks
wrong_number : (i m n : ℕ) (b : List ℕ) → number_fits i n b ≡ true → (m ≡ n → ⊥) → number_fits i m b ≡ false
unfolding number_fits
wrong_number i m n b e x =
    let q = number_is i n b e in
    rw (q.0, q.1, eq-eqb i i refl, ne_eqb n m (λ y. x (sym y)))

-- the first block of a file that the reader takes
first_of_lem : (f : List ℕ) → Reads f → Passed (frame_in f) 0 (follows [] (take 512 f)) (within_limits (take 512 f ∷ [])) (take 512 f)
first_of_lem f r =
    let s = read_good f r in
    let w = whole_file_lem (length f) s.whole in
    let cut : blocks_of f ≡ take 512 f ∷ blocks_from f 1 = sym (blocks_all f) ∙ blocks_step f 0 (omega arith) in
    first_passed (frame_in f) (take 512 f) (blocks_from f 1) (rw cut at s.blocks)

pub joined_elsewhere : JoinedElsewhere
unfolding blocks_checks block_checks origin_in
joined_elsewhere one joined r w n k front h p c =
    let e : take 512 joined ≡ take 512 one = front.1 0 front.0 in
    let b = take 512 joined in
    let F = frame_in joined in
    let ok = rw (sym e) at (first_of_lem one r) in
    let size = whole_file_lem (length joined) w in
    let cut : blocks_of joined ≡ b ∷ blocks_from joined 1 = sym (blocks_all joined) ∙ blocks_step joined 0 (omega arith) in
    let wrong = wrong_number 0 (length joined / 512) (length one / 512) b ok.number n in
    let found : first_of (block_checks F [] b) ≡ Err (refuse 3 0 0) =
    rw (by_tests F 0 (follows [] b) (within_limits (b ∷ [])) b, ok.sums, ok.shape, wrong) in
    refused_at joined (refuse 3 0 0) w (rw cut (first_stop (block_checks F [] b) (blocks_checks F (b ∷ []) (blocks_from joined 1)) (refuse 3 0 0) found)) h p c

-- ---- what a form leaves alone

pub forms_alike : FormsAlike
forms_alike o q t w v = (written_reads_back o t w).1 ∙ sym (written_reads_back q t v).1

pub moved_alike : MovedAlike
moved_alike from to file out n a x =
    let m = move_wrote from to file (length out) n x in
    let t = tables_in file in
    let g = moved_to to file in
    let w = written_reads_back to t (writes_as file m.1 to m.0) in
    let moved : take n (put_at out 0 g) ≡ g = rw (← m.3) (put_front out g) in
    let back = (read_writes_back file a m.1).1 in
    let len : n ≡ length file = sym m.3 ∙ length_file to t ∙ sym (length_file (origin_in file) t) ∙ ap length back in
    rw moved (w.0, w.1, w.2, len)
