-- What the salvage answers in each case, and what its own memory holds on the way.
use Rattle.std.specs.Prelude.{Ok, Err, Some, None}
use mathlib.Core.Path.{◌≡◌, sym, ap, ◌∙◌}
use mathlib.Core.Bool.{Bool, true, false, cond, ◌&&◌, and-eq-true_iff}
use mathlib.Core.List.{List, [], ◌∷◌, ◌++◌, flatten}
use Prim.Native.Nat.{ℕ, ◌+◌, ◌*◌, ◌/◌, ◌≤◌}
use native.Mathlib.Nat.{zero-add}
use native.Mathlib.Omega.{arith}
use lib.Dec.{eqb, leb}
use lib.ListN.{length, take, drop, length-append, length-map}
use borrow.Author.Tests.{ne_eqb, le-leb, leb-true}
use Rattle.records.specs.Lists.{All}
use Rattle.records.specs.Listed.{Entry, entry, indices_of, numbers_of}
use Rattle.records.specs.Order.{refuse, first_of}
use Rattle.records.specs.Within.{within}
use Rattle.records.specs.Written.{put_at}
use Rattle.records.specs.declared.tables.Kind.{Kind}
use Rattle.records.specs.declared.tables.Kind.TheVariants.{Holdings, Placement, Claims}
use Rattle.records.proofs.ChunkLaws.{length_chunks}
use Rattle.records.proofs.ListLaws.{all_map, length_keep}
use Rattle.records.proofs.PassLaws.{clear}
use Rattle.records.proofs.PutLaws.{put_front}
use Rattle.records.proofs.JoinLaws.{length_flatten, cut_joined}
use Rattle.records.proofs.TableLaws.{whole}
use Rattle.records.specs.Tables.{whole_table, whole_tables}
use Rattle.blocks.specs.Sizes.{most_file_bytes}
use Rattle.blocks.specs.File.{tables, table_of, blocks_of, tables_of, tables_in, file_of, within_limits}
use Rattle.blocks.specs.Reader.{copied}
use Rattle.blocks.specs.Steps.Bounds.{Sized}
use Rattle.blocks.specs.Writer.{write_checks}
use Rattle.blocks.specs.declared.forms.Origin.{Origin}
use Rattle.blocks.proofs.Laws.{copied_room}
use Rattle.salvage.specs.Pieces.{piece_count, pieces_of}
use Rattle.salvage.specs.Kept.{lead_of, origin_for, drop_number, is_kept, kept_of, dropped_of, kept_in, dropped_in, sound_file}
use Rattle.salvage.specs.Calls.{salvage_start, salvage_room, salvage_end, salvage_checks, salvage_answer, salvage_call}
use Rattle.salvage.proofs.PieceLaws.{lead_kept, missing_kept}
use Rattle.salvage.proofs.KeptTables.{kept_all, kept_sound, limits_whole, writes_kept}
use Rattle.salvage.specs.Steps.AllKept.{AllKept}

-- ---- what was written to the front of a slice, taken from there

pub front_is : {A : Type 0} (d out s : List A) (n : ℕ) → n ≡ length s → out ≡ put_at d 0 s → take n out ≡ s
front_is d out s n e w = rw (e, w) (put_front d s)

-- and written there
pub put_first : {A : Type 0} (d s : List A) (n : ℕ) → n ≡ length s → s ++ drop n d ≡ put_at d 0 s
unfolding put_at
put_first d s n e = rw e (simp zero-add)

-- ---- the pieces that were kept, one after the other

module _ (lead : Origin) (bs : List (List ℕ)) where
  kept_whole : All (λ b. length b ≡ 512) (kept_of lead bs)
  kept_whole = all_map (kept_of lead bs) (λ b s. s.size) (kept_sound lead (kept_of lead bs) (kept_all lead bs))

  pub kept_bytes : length (flatten (kept_of lead bs)) ≡ 512 * length (kept_of lead bs)
  kept_bytes = length_flatten 512 (kept_of lead bs) kept_whole

  pub kept_cut : blocks_of (flatten (kept_of lead bs)) ≡ kept_of lead bs
  kept_cut =
      let n : length (flatten (kept_of lead bs)) / 512 ≡ length (kept_of lead bs) = omega (arith, kept_bytes) in
      rw n (cut_joined 512 (kept_of lead bs) kept_whole)

  -- no more are kept than there are, nor dropped
  pub kept_few : length (kept_of lead bs) ≤ length bs
  unfolding kept_of
  kept_few = length_keep (is_kept lead) bs

one_entry : (i n : ℕ) → length (entry i n) ≤ 1
one_entry i n = go (eqb n 0)
  where
    go : (b : Bool) → length {A = Entry} (cond b [] (record { index = i; number = n } ∷ [])) ≤ 1
    go true = omega arith
    go false = omega arith

pub dropped_few : (lead : Origin) (i : ℕ) (bs : List (List ℕ)) → length (dropped_of lead i bs) ≤ length bs
unfolding dropped_of
dropped_few lead i [] = omega arith
dropped_few lead i (b ∷ bs) =
    rw (length-append (entry i (drop_number lead b)) (dropped_of lead (i + 1) bs))
    (omega (arith, one_entry i (drop_number lead b), dropped_few lead (i + 1) bs))

-- of a file that is not too long there are at most 39 pieces
pub pieces_few : (bytes : List ℕ) → length bytes ≤ most_file_bytes → length (pieces_of bytes) ≤ 39
pieces_few bytes h = omega (arith, length_chunks 512 (piece_count (length bytes)) bytes)

-- ---- what is saved: the bytes of the kept pieces, and the list of the others

pub record SavedAs (bytes : List ℕ) (lead : Origin) (kept dropped reasons : List ℕ) : Type 0 where
  pub blocks : blocks_of kept ≡ kept_in bytes
  pub file : file_of lead (tables_in kept) ≡ sound_file bytes
  pub indices : dropped ≡ indices_of (dropped_in bytes)
  pub numbers : reasons ≡ numbers_of (dropped_in bytes)
  pub entries : length dropped ≡ length (dropped_in bytes)
  pub listed : length reasons ≡ length dropped

module _ (bytes : List ℕ) (lead : Origin) (e : lead_of (pieces_of bytes) ≡ Some lead) where
  lead_is : origin_for bytes ≡ lead
  unfolding origin_for
  lead_is = rw e

  pub kept_are : kept_of lead (pieces_of bytes) ≡ kept_in bytes
  unfolding kept_in
  kept_are = rw lead_is

  dropped_are : dropped_of lead 0 (pieces_of bytes) ≡ dropped_in bytes
  unfolding dropped_in
  dropped_are = rw lead_is

  pub kept_some : 1 ≤ length (kept_in bytes)
  kept_some = rw (← kept_are) (lead_kept (pieces_of bytes) lead e)

  -- out of memory that the sorting filled
  pub saved_as : (d₁ d₂ d₃ a b c : List ℕ) (k n : ℕ)
      → k ≡ length (kept_of lead (pieces_of bytes)) → n ≡ length (dropped_of lead 0 (pieces_of bytes))
      → a ≡ put_at d₁ 0 (flatten (kept_of lead (pieces_of bytes)))
      → b ≡ put_at d₂ 0 (indices_of (dropped_of lead 0 (pieces_of bytes))) → c ≡ put_at d₃ 0 (numbers_of (dropped_of lead 0 (pieces_of bytes)))
      → SavedAs bytes lead (take (512 * k) a) (take n b) (take n c)
  unfolding sound_file tables_in
  saved_as d₁ d₂ d₃ a b c k n ek en ea eb ec =
      let D = dropped_of lead 0 (pieces_of bytes) in
      let K = kept_of lead (pieces_of bytes) in
      let size : 512 * k ≡ length (flatten K) = ap (λ (m : ℕ). 512 * m) ek ∙ sym (kept_bytes lead (pieces_of bytes)) in
      let kept : take (512 * k) a ≡ flatten K = front_is d₁ a (flatten K) (512 * k) size ea in
      let cut : blocks_of (take (512 * k) a) ≡ kept_in bytes = ap blocks_of kept ∙ kept_cut lead (pieces_of bytes) ∙ kept_are in
      let ni : n ≡ length (indices_of D) = simp length-map en in
      let nn : n ≡ length (numbers_of D) = simp length-map en in
      let indices : take n b ≡ indices_of D = front_is d₂ b (indices_of D) n ni eb in
      let numbers : take n c ≡ numbers_of D = front_is d₃ c (numbers_of D) n nn ec in
      record {
        blocks = cut;
        file = rw (cut, lead_is);
        indices = rw (← dropped_are) indices;
        numbers = rw (← dropped_are) numbers;
        entries = rw (← dropped_are) (ap length indices ∙ sym ni ∙ en);
        listed = ap length numbers ∙ sym nn ∙ ni ∙ ap length (sym indices);
      }

-- ---- by its refusals

module _ (bytes : List ℕ) (o i n : ℕ) where
  pub salvage_1 : within 1 most_file_bytes (length bytes) ≡ false → salvage_call bytes o i n ≡ Err (refuse 1 0 0)
  unfolding salvage_call salvage_checks salvage_start first_of
  salvage_1 e = rw e

  module _ (w : within 1 most_file_bytes (length bytes) ≡ true) where
    pub salvage_2 : lead_of (pieces_of bytes) ≡ None → salvage_call bytes o i n ≡ Err (refuse 2 0 0)
    unfolding salvage_call salvage_checks salvage_start first_of kept_in
    salvage_2 e = rw (w, missing_kept (pieces_of bytes) (origin_for bytes) e)

    pub salvage_rest : 1 ≤ length (kept_in bytes)
        → salvage_call bytes o i n
        ≡ salvage_answer (first_of (salvage_end (kept_in bytes) (length (sound_file bytes)) (length (dropped_in bytes)) o i n)) (length (sound_file bytes)) (length (dropped_in bytes))
    unfolding salvage_call salvage_checks salvage_start first_of
    salvage_rest h = rw (w, ne_eqb (length (kept_in bytes)) 0 (λ z. omega (arith, h, z)))

-- 3, then 17
module _ (bs : List (List ℕ)) (bytes entries o i n : ℕ) where
  pub end_3 : within_limits bs ≡ false → first_of (salvage_end bs bytes entries o i n) ≡ Err (refuse 3 0 0)
  unfolding salvage_end first_of
  end_3 e = rw e

  pub end_rest : within_limits bs ≡ true → first_of (salvage_end bs bytes entries o i n) ≡ first_of (salvage_room bytes entries o i n)
  unfolding salvage_end first_of
  end_rest e = rw e

pub within_is : (low high x : ℕ) → low ≤ x → x ≤ high → within low high x ≡ true
within_is low high x a b = rw (le-leb low x a, le-leb x high b)

-- ---- the tables

-- so many bytes of each kind are within the limits just where the blocks are
pub whole_limits : (file : List ℕ) (h p c : ℕ) → All Sized (blocks_of file)
    → h ≡ length (table_of Holdings (tables_in file)) → p ≡ length (table_of Placement (tables_in file)) → c ≡ length (table_of Claims (tables_in file))
    → whole_tables h p c ≡ within_limits (blocks_of file)
unfolding tables_in tables_of
whole_limits file h p c s eh ep ec = rw (eh, ep, ec) (limits_whole (blocks_of file) s)

pub writes_file : (lead : Origin) (file : List ℕ) → AllKept lead (blocks_of file) → 1 ≤ length (blocks_of file) → within_limits (blocks_of file) ≡ true
    → first_of (write_checks lead (tables_in file)) ≡ Ok tt
unfolding tables_in
writes_file lead file a n w = writes_kept lead (blocks_of file) a n w

pub whole_few : (h p c : ℕ) → whole_tables h p c ≡ true → (h ≤ 8192) × (p ≤ 8192) × (c ≤ 1024)
whole_few h p c e =
    let s = (and-eq-true_iff (whole_table Holdings h && whole_table Placement p) (whole_table Claims c)).0 e in
    let r = (and-eq-true_iff (whole_table Holdings h) (whole_table Placement p)).0 s.0 in
    let wh = whole Holdings h r.0 in
    let wp = whole Placement p r.1 in
    let wc = whole Claims c s.1 in
    (omega (arith, wh.0, wh.1), omega (arith, wp.0, wp.1), omega (arith, wc.0, wc.1))

-- a kind's records, copied and cut to their bytes
pub copied_front : (kind : Kind) (file d table : List ℕ) (n : ℕ) → n ≡ length (table_of kind (tables_in file)) → table ≡ copied kind file d → n ≤ length d
    → take n table ≡ table_of kind (tables_in file)
copied_front kind file d table n e c h =
    front_is d table (table_of kind (tables_in file)) n e (c ∙ copied_room kind file d (omega (arith, e, h)))

-- three tables that were copied are the file's, where they are whole
pub copied_tables : (file : List ℕ) (h p c : ℕ) (d₁ d₂ d₃ t₁ t₂ t₃ : List ℕ) → whole_tables h p c ≡ true
    → h ≡ length (table_of Holdings (tables_in file)) → p ≡ length (table_of Placement (tables_in file)) → c ≡ length (table_of Claims (tables_in file))
    → t₁ ≡ copied Holdings file d₁ → t₂ ≡ copied Placement file d₂ → t₃ ≡ copied Claims file d₃
    → 8192 ≤ length d₁ → 8192 ≤ length d₂ → 1024 ≤ length d₃
    → tables (take h t₁) (take p t₂) (take c t₃) ≡ tables_in file
copied_tables file h p c d₁ d₂ d₃ t₁ t₂ t₃ w eh ep ec e₁ e₂ e₃ r₁ r₂ r₃ =
    let few = whole_few h p c w in
    rw (
      copied_front Holdings file d₁ t₁ h eh e₁ (omega (arith, few.0)),
      copied_front Placement file d₂ t₂ p ep e₂ (omega (arith, few.1)),
      copied_front Claims file d₃ t₃ c ec e₃ (omega (arith, few.2)),
    )

pub room_pass : (bytes entries o i n : ℕ) → first_of (salvage_room bytes entries o i n) ≡ Ok tt → (bytes ≤ o) × (entries ≤ i) × (entries ≤ n)
unfolding salvage_room
room_pass bytes entries o i n e =
    let p = clear _ e in
    let q = (and-eq-true_iff (leb entries i) (leb entries n)).0 p.1.0 in
    (leb-true bytes o p.0, leb-true entries i q.0, leb-true entries n q.1)
