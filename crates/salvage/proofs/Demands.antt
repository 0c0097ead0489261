-- The statements of specs/Demands.antt, proved; those of the list stand in ListedLaws.
use Rattle.std.specs.Prelude.{Result, Ok, Err}
use mathlib.Core.Path.{◌≡◌, refl, sym, ap, ◌∙◌}
use mathlib.Core.Bool.{true, not}
use mathlib.Core.List.{List, [], ◌∷◌, ◌++◌}
use Prim.Native.Nat.{ℕ, ◌≤◌, zero, suc}
use native.Mathlib.Omega.{arith}
use lib.Dec.{eqb}
use lib.ListN.{length, take}
use borrow.Author.Tests.{le-leb}
use Rattle.records.specs.Bytes.{le_at}
use Rattle.records.specs.Listed.{indices_of, numbers_of}
use Rattle.records.specs.Order.{first_of}
use Rattle.records.proofs.ListLaws.{all_map}
use Rattle.records.proofs.PassLaws.{clear}
use Rattle.records.proofs.PutLaws.{put_front, left_stands}
use Rattle.records.specs.Written.{left_after}
use Rattle.blocks.specs.Sizes.{most_file_bytes}
use Rattle.blocks.specs.Forms.{settled}
use Rattle.blocks.specs.Block.{form_of, origin_of}
use Rattle.blocks.specs.File.{tables_of, tables_in, origin_in, file_of, within_limits}
use Rattle.blocks.specs.RoundTrips.{Reads, Writes}
use Rattle.blocks.specs.declared.forms.Origin.{Origin}
use Rattle.blocks.proofs.Laws.{kept_kept, read_writes_back, written_reads_back, is_sound}
use Rattle.salvage.specs.Pieces.{pieces_of}
use Rattle.salvage.specs.Kept.{origin_for, kept_in, dropped_in, sound_file}
use Rattle.salvage.specs.Calls.{salvage_start, salvage_room, salvage_end, salvage_checks, salvage_answer, salvage_call, has_saved}
use Rattle.salvage.specs.Demands.{ComesOutSound, KeptAreSound, UndamagedSame, TwiceSame, LeftBySalvage, SalvageLeaves}
use Rattle.salvage.specs.Steps.AllKept.{AllKept}
use Rattle.salvage.proofs.SoundLaws.{kept_is}
use Rattle.salvage.proofs.KeptTables.{kept_all, writes_kept}
use Rattle.salvage.proofs.CallLaws.{within_is, salvage_rest, end_rest}
use Rattle.salvage.proofs.Undamaged.{all_kept, none_dropped, some_blocks, sound_again, limits_kept, bytes_few}
use Rattle.records.specs.declared.refusals.Refusal.{Refusal}
use Rattle.salvage.specs.declared.calls.Saved.{Saved}
use Rattle.salvage.specs.Calls.{saved}

-- ---- what a salvage that is not refused says

answered_saved : (x : Result Unit Refusal) (a b n k : ℕ) → salvage_answer x a b ≡ Ok (saved n k) → (x ≡ Ok tt) × (a ≡ n) × (b ≡ k)
answered_saved (Ok _) a b n k e =
    let same : saved a b ≡ saved n k = cc in (refl, ap (λ (s : Saved). s.bytes) same, ap (λ (s : Saved). s.entries) same)
answered_saved (Err r) a b n k e = absurd (let z : ◌≡◌ {A = ℕ} 0 1 = cc in omega arith)

not_none : (n : ℕ) → not (eqb n 0) ≡ true → 1 ≤ n
not_none zero e = absurd (let z : ◌≡◌ {A = ℕ} 0 1 = cc in omega arith)
not_none (suc n) e = omega arith

record Passes (bytes : List ℕ) (n k : ℕ) : Type 0 where
  some : 1 ≤ length (kept_in bytes)
  limits : within_limits (kept_in bytes) ≡ true
  size : length (sound_file bytes) ≡ n
  entries : length (dropped_in bytes) ≡ k

saved_passes : (bytes : List ℕ) (o i m n k : ℕ) → salvage_call bytes o i m ≡ Ok (saved n k) → Passes bytes n k
unfolding salvage_call salvage_checks salvage_start salvage_end
saved_passes bytes o i m n k e =
    let start = salvage_start (length bytes) (kept_in bytes) in
    let end = salvage_end (kept_in bytes) (length (sound_file bytes)) (length (dropped_in bytes)) o i m in
    let x = answered_saved (first_of (start ++ end)) (length (sound_file bytes)) (length (dropped_in bytes)) n k e in
    let p = clear (start ++ end) x.0 in
    record { some = not_none (length (kept_in bytes)) p.1.0; limits = p.1.1.0; size = x.1; entries = x.2 }

-- ---- the file that comes out

kept_in_all : (bytes : List ℕ) → AllKept (origin_for bytes) (kept_in bytes)
unfolding kept_in
kept_in_all bytes = kept_all (origin_for bytes) (pieces_of bytes)

settled_of : (b : List ℕ) → settled (origin_of b) ≡ origin_of b
unfolding origin_of
settled_of b = rw (kept_kept (form_of b) (le_at b 496 8))

-- the first kept block's form and account are as a file keeps them
settled_lead : (lead : Origin) (bs : List (List ℕ)) → AllKept lead bs → 1 ≤ length bs → settled lead ≡ lead
settled_lead lead [] a h = absurd (omega arith)
settled_lead lead (b ∷ bs) a h = rw (← (kept_is lead b a.0).1) (settled_of b)

sound_file_lem : (bytes : List ℕ) → sound_file bytes ≡ file_of (origin_for bytes) (tables_of (kept_in bytes))
unfolding sound_file
sound_file_lem bytes = refl

module _ (bytes : List ℕ) (n k : ℕ) (p : Passes bytes n k) where
  writes : Writes (origin_for bytes) (tables_of (kept_in bytes))
  writes = writes_kept (origin_for bytes) (kept_in bytes) (kept_in_all bytes) p.some p.limits

  lead_settled : settled (origin_for bytes) ≡ origin_for bytes
  lead_settled = settled_lead (origin_for bytes) (kept_in bytes) (kept_in_all bytes) p.some

  sound_out : Reads (sound_file bytes) × (tables_in (sound_file bytes) ≡ tables_of (kept_in bytes)) × (origin_in (sound_file bytes) ≡ origin_for bytes)
  unfolding sound_file
  sound_out =
      let w = written_reads_back (origin_for bytes) (tables_of (kept_in bytes)) writes in
      (w.0, w.1, w.2 ∙ lead_settled)

  -- read and written again it is itself
  sound_back : file_of (origin_in (sound_file bytes)) (tables_in (sound_file bytes)) ≡ sound_file bytes
  sound_back = let s = sound_out in rw (s.2, s.1) (sym (sound_file_lem bytes))

comes_out_sound : ComesOutSound
comes_out_sound bytes o i m n k e = sound_out bytes n k (saved_passes bytes o i m n k e)

kept_are_sound : KeptAreSound
kept_are_sound bytes =
    all_map (kept_in bytes) (λ b e. let s = kept_is (origin_for bytes) b e in is_sound b s.0 ∙ ap Ok s.1) (kept_in_all bytes)

-- ---- a file that the reader takes

-- it comes out as it is written again, with an empty list
module _ (f : List ℕ) (r : Reads f) (back : file_of (origin_in f) (tables_in f) ≡ f) (o i m : ℕ) (room : length f ≤ o) where
  same_out : sound_file f ≡ f
  same_out = sound_again f r ∙ back

  saved_same : salvage_call f o i m ≡ Ok (saved (length f) 0)
  unfolding salvage_room first_of
  saved_same =
      let few = bytes_few f r in
      let within = within_is 1 most_file_bytes (length f) few.0 few.1 in
      let some : 1 ≤ length (kept_in f) = rw (all_kept f r) (some_blocks f r) in
      salvage_rest f o i m within some
      ∙ rw (
        end_rest (kept_in f) (length (sound_file f)) (length (dropped_in f)) o i m (limits_kept f r),
        same_out,
        none_dropped f r,
        le-leb (length f) o room,
        le-leb 0 i (omega arith),
        le-leb 0 m (omega arith),
      )

undamaged_same : UndamagedSame
undamaged_same f a r o i m h =
    let back = (read_writes_back f a r).1 in
    (saved_same f r back o i m h, same_out f r back o i m h, none_dropped f r)

-- ---- a second salvage

twice_same : TwiceSame
twice_same bytes out i m n k e room x y h =
    let p = saved_passes bytes (length out) i m n k e in
    let f = sound_file bytes in
    let r = (sound_out bytes n k p).0 in
    let back = sound_back bytes n k p in
    let fits : length f ≤ room = omega (arith, h, p.size) in
    let file : take n (left_after (has_saved (Ok (saved n k))) f out) ≡ f = rw (← p.size) (put_front out f) in
    rw (file, ← p.size) (saved_same f r back room x y fits, same_out f r back room x y fits, none_dropped f r)

-- ---- lent memory

salvage_leaves : SalvageLeaves
salvage_leaves bytes d i m = go (salvage_call bytes (length d) (length i) (length m)) refl
  where
    go : (r : Result Saved Refusal) → salvage_call bytes (length d) (length i) (length m) ≡ r → LeftBySalvage r bytes d i m
    go (Ok s) e =
        let p = saved_passes bytes (length d) (length i) (length m) s.bytes s.entries e in
        (p.size, p.entries, left_stands d (sound_file bytes), left_stands i (indices_of (dropped_in bytes)), left_stands m (numbers_of (dropped_in bytes)))
    go (Err r) e = (refl, refl, refl)
