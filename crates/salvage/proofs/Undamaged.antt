-- A file that the reader takes: every block of it is kept, and nothing is dropped.
use Rattle.std.specs.Prelude.{Ok, Some}
use mathlib.Core.Path.{◌≡◌, refl, sym, ap, ◌∙◌}
use mathlib.Core.Bool.{Bool, true}
use mathlib.Core.List.{List, [], ◌∷◌}
use Prim.Native.Nat.{ℕ, ◌+◌, ◌/◌, ◌%◌, ◌≤◌}
use native.Mathlib.Omega.{arith}
use lib.ListN.{length}
use borrow.Author.Tests.{eq-eqb}
use Rattle.records.specs.Lists.{All, keep}
use Rattle.records.specs.declared.tables.Kind.TheVariants.{Holdings, Placement, Claims}
use Rattle.records.proofs.ChunkLaws.{length_chunks}
use Rattle.records.proofs.ListLaws.{all_map}
use Rattle.blocks.specs.File.{blocks_of, tables_in, origin_in, file_of, within_limits}
use Rattle.blocks.specs.RoundTrips.{Reads}
use Rattle.blocks.specs.declared.forms.Origin.{Origin}
use Rattle.blocks.proofs.Laws.{whole_file_lem, GoodBlocks, whole_table_lem, read_good, SoundOf, is_sound, file_sound}
use Rattle.salvage.specs.Pieces.{piece_count, pieces_of}
use Rattle.salvage.specs.Kept.{lead_of, origin_for, drop_number, is_kept, kept_of, dropped_of, kept_in, dropped_in, sound_file}
use Rattle.salvage.specs.Steps.AllKept.{AllKept}
use Rattle.salvage.proofs.SoundLaws.{is_kept_lem}
use Rattle.salvage.proofs.PieceLaws.{lead_found}
use Rattle.salvage.proofs.KeptTables.{limits_whole}

-- ---- blocks that are all kept

keep_all : (t : List ℕ → Bool) (l : List (List ℕ)) → All (λ x. t x ≡ true) l → keep t l ≡ l
unfolding keep
keep_all t [] a = refl
keep_all t (x ∷ l) a = rw (a.0, keep_all t l a.1)

kept_whole : (lead : Origin) (bs : List (List ℕ)) → AllKept lead bs → kept_of lead bs ≡ bs
unfolding kept_of
kept_whole lead bs a = keep_all (is_kept lead) bs (all_map bs (λ b e. eq-eqb (drop_number lead b) 0 e) a)

dropped_none : (lead : Origin) (i : ℕ) (bs : List (List ℕ)) → AllKept lead bs → dropped_of lead i bs ≡ []
unfolding dropped_of
dropped_none lead i [] a = refl
dropped_none lead i (b ∷ bs) a = rw a.0 (dropped_none lead (i + 1) bs a.1)

lead_first : (o : Origin) (bs : List (List ℕ)) → All (SoundOf o) bs → 1 ≤ length bs → lead_of bs ≡ Some o
lead_first o [] a h = absurd (omega arith)
lead_first o (b ∷ bs) a h = lead_found b (b ∷ bs) bs refl o (is_sound b a.0.0 ∙ ap Ok a.0.1)

-- ---- the file

module _ (f : List ℕ) (r : Reads f) where
  good : GoodBlocks f
  good = read_good f r

  sizes : (length f % 512 ≡ 0) × (1 ≤ length f / 512) × (length f / 512 ≤ 39)
  sizes = whole_file_lem (length f) good.whole

  pieces_are : pieces_of f ≡ blocks_of f
  pieces_are =
      let q : piece_count (length f) ≡ length f / 512 = omega (arith, sizes) in
      rw q

  own : All (SoundOf (origin_in f)) (blocks_of f)
  own = file_sound f r

  pub kept_blocks : AllKept (origin_in f) (blocks_of f)
  kept_blocks = all_map (blocks_of f) (λ b s. is_kept_lem (origin_in f) b s.0 s.1) own

  pub some_blocks : 1 ≤ length (blocks_of f)
  some_blocks = omega (arith, sizes, length_chunks 512 (length f / 512) f)

  pub origin_same : origin_for f ≡ origin_in f
  unfolding origin_for
  origin_same = rw (pieces_are, lead_first (origin_in f) (blocks_of f) own some_blocks)

  pub all_kept : kept_in f ≡ blocks_of f
  unfolding kept_in
  all_kept = rw (origin_same, pieces_are) (kept_whole (origin_in f) (blocks_of f) kept_blocks)

  pub none_dropped : dropped_in f ≡ []
  unfolding dropped_in
  none_dropped = rw (origin_same, pieces_are) (dropped_none (origin_in f) 0 (blocks_of f) kept_blocks)

  pub sound_again : sound_file f ≡ file_of (origin_in f) (tables_in f)
  unfolding sound_file tables_in
  sound_again = rw (origin_same, all_kept)

  pub limits_kept : within_limits (kept_in f) ≡ true
  limits_kept =
      rw all_kept
      (sym (limits_whole (blocks_of f) good.sized) ∙ rw (whole_table_lem f good Holdings, whole_table_lem f good Placement, whole_table_lem f good Claims))

  pub bytes_few : (1 ≤ length f) × (length f ≤ 19968)
  bytes_few = (omega (arith, sizes), omega (arith, sizes))
