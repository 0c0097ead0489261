-- The list of what was dropped: every piece is kept, or listed once, in file order, with its number.
use mathlib.Core.Path.{◌≡◌, refl, sym, ◌∙◌}
use mathlib.Core.Bool.{Bool, true, false, cond, not, false≢true}
use mathlib.Core.List.{List, [], ◌∷◌, ◌++◌, map-append}
use Prim.Native.Nat.{ℕ, zero, suc, ◌+◌, ◌-◌, ◌/◌, ◌≤◌, ◌<◌}
use native.Mathlib.Omega.{arith}
use lib.Dec.{eqb}
use lib.ListN.{length, take, get_or, length-append, length-take, length-drop}
use borrow.Author.Tests.{eq-eqb, ne_eqb}
use Rattle.records.specs.Chunks.{chunk_at}
use Rattle.records.specs.Lists.{All, Ascending, same, only, sum_of, keep}
use Rattle.records.specs.Listed.{Entry, entry, indices_of}
use Rattle.records.proofs.ChunkLaws.{length_chunks, get_or_chunks}
use Rattle.records.proofs.ListLaws.{all_append, all_map, map_all}
use Rattle.records.proofs.Measures.{sum_append}
use Rattle.blocks.specs.Block.{origin_of, head_fits, shaped}
use Rattle.blocks.proofs.Laws.{alone_torn, alone_3}
use Rattle.blocks.specs.Forms.{form_mark}
use Rattle.blocks.specs.declared.forms.Form.{Form}
use Rattle.blocks.specs.declared.forms.Origin.{Origin}
use Rattle.salvage.specs.Pieces.{piece_count, pieces_of}
use Rattle.salvage.specs.Kept.{origin_for, drop_number, is_kept, kept_of, dropped_of, kept_in, dropped_in}
use Rattle.salvage.specs.Demands.{times, KeptOrListed, Says, ListedRight, ListedInOrder, NoneLost, TornIsOne, UnmarkedIsThree}

not_zero : (n : ℕ) → eqb n 0 ≡ false → 1 ≤ n
not_zero zero e = absurd (false≢true (sym e))
not_zero (suc n) e = omega arith

-- ---- one entry

one_other : (j i n : ℕ) → (i ≡ j → ⊥) → times j (indices_of (entry i n)) ≡ 0
unfolding sum_of
one_other j i n h = go (eqb n 0)
  where
    go : (b : Bool) → times j (indices_of (cond b [] (record { index = i; number = n } ∷ []))) ≡ 0
    go true = refl
    go false = rw (ne_eqb i j h)

one_same : (i n : ℕ) → times i (indices_of (entry i n)) ≡ only (not (eqb n 0)) 1
unfolding sum_of
one_same i n = go (eqb n 0)
  where
    go : (b : Bool) → times i (indices_of (cond b [] (record { index = i; number = n } ∷ []))) ≡ only (not b) 1
    go true = refl
    go false = rw (eq-eqb i i refl)

times_append : (j : ℕ) (a b : List Entry) → times j (indices_of (a ++ b)) ≡ times j (indices_of a) + times j (indices_of b)
times_append j a b = rw (map-append (λ (e : Entry). e.index) a b) (sum_append (λ y. only (eqb y j) 1) (indices_of a) (indices_of b))

module _ (lead : Origin) where
  -- ---- how often an index is listed

  before_none : (j i : ℕ) (bs : List (List ℕ)) → j < i → times j (indices_of (dropped_of lead i bs)) ≡ 0
  unfolding dropped_of sum_of
  before_none j i [] h = refl
  before_none j i (b ∷ bs) h =
      rw (times_append j (entry i (drop_number lead b)) (dropped_of lead (i + 1) bs), one_other j i (drop_number lead b) (λ e. omega (arith, e, h)))
      (omega (arith, before_none j (i + 1) bs (omega arith)))

  listed_at : (i m : ℕ) (bs : List (List ℕ)) → m < length bs
      → times (i + m) (indices_of (dropped_of lead i bs)) ≡ only (not (is_kept lead (get_or bs m []))) 1
  unfolding dropped_of
  listed_at i m [] h = absurd (omega arith)
  listed_at i zero (b ∷ bs) h =
      let q : i + 0 ≡ i = omega arith in
      rw (
        q,
        times_append i (entry i (drop_number lead b)) (dropped_of lead (i + 1) bs),
        one_same i (drop_number lead b),
        before_none i (i + 1) bs (omega arith),
      )
      (omega arith)
  listed_at i (suc m) (b ∷ bs) h =
      let q : i + suc m ≡ i + 1 + m = omega arith in
      rw (
        q,
        times_append (i + 1 + m) (entry i (drop_number lead b)) (dropped_of lead (i + 1) bs),
        one_other (i + 1 + m) i (drop_number lead b) (λ e. omega (arith, e)),
      )
      (omega (arith, listed_at (i + 1) m bs (omega arith)))

  -- ---- how many are kept and dropped

  none_lost : (i : ℕ) (bs : List (List ℕ)) → length (kept_of lead bs) + length (dropped_of lead i bs) ≡ length bs
  unfolding kept_of keep dropped_of
  none_lost i [] = refl
  none_lost i (b ∷ bs) =
      rw (length-append (entry i (drop_number lead b)) (dropped_of lead (i + 1) bs)) (go (eqb (drop_number lead b) 0) (none_lost (i + 1) bs))
    where
      go : (t : Bool) → length (keep (is_kept lead) bs) + length (dropped_of lead (i + 1) bs) ≡ length bs
          → length (cond t (b ∷ keep (is_kept lead) bs) (keep (is_kept lead) bs))
          + (length {A = Entry} (cond t [] (record { index = i; number = drop_number lead b } ∷ [])) + length (dropped_of lead (i + 1) bs))
          ≡ suc (length bs)
      go true e = omega (arith, e)
      go false e = omega (arith, e)

  -- ---- what an entry says

  abbrev SaysOf : ℕ → List (List ℕ) → Entry → Type 0
  SaysOf i bs e = (i ≤ e.index) × (e.index < i + length bs) × (e.number ≡ drop_number lead (get_or bs (e.index - i) [])) × (1 ≤ e.number)

  one_says : (i n : ℕ) (b : List ℕ) (bs : List (List ℕ)) → n ≡ drop_number lead b → All (SaysOf i (b ∷ bs)) (entry i n)
  one_says i n b bs e = go (eqb n 0) refl
    where
      go : (t : Bool) → eqb n 0 ≡ t → All (SaysOf i (b ∷ bs)) (cond t [] (record { index = i; number = n } ∷ []))
      go true q = tt
      go false q =
          let z : i - i ≡ 0 = omega arith in
          ((omega arith, omega arith, rw z e, not_zero n q), tt)

  says_next : (i : ℕ) (b : List ℕ) (bs : List (List ℕ)) (e : Entry) → SaysOf (i + 1) bs e → SaysOf i (b ∷ bs) e
  says_next i b bs e s =
      let q : e.index - i ≡ suc (e.index - (i + 1)) = omega (arith, s.0) in
      (omega (arith, s.0), omega (arith, s.1), rw q s.2, s.3)

  entries_say : (i : ℕ) (bs : List (List ℕ)) → All (SaysOf i bs) (dropped_of lead i bs)
  unfolding dropped_of
  entries_say i [] = tt
  entries_say i (b ∷ bs) =
      all_append (SaysOf i (b ∷ bs)) (entry i (drop_number lead b)) (dropped_of lead (i + 1) bs) (one_says i (drop_number lead b) b bs refl)
      (all_map (dropped_of lead (i + 1) bs) (says_next i b bs) (entries_say (i + 1) bs))

  -- ---- their order

  in_order : (i : ℕ) (bs : List (List ℕ)) → Ascending (indices_of (dropped_of lead i bs))
  unfolding dropped_of
  in_order i [] = tt
  in_order i (b ∷ bs) =
      go (eqb (drop_number lead b) 0) (in_order (i + 1) bs)
      (map_all (λ (e : Entry). e.index) (λ y. i < y) (SaysOf (i + 1) bs) (dropped_of lead (i + 1) bs) (λ e s. omega (arith, s.0)) (entries_say (i + 1) bs))
    where
      go : (t : Bool) → Ascending (indices_of (dropped_of lead (i + 1) bs)) → All (λ y. i < y) (indices_of (dropped_of lead (i + 1) bs))
          → Ascending (indices_of (cond t [] (record { index = i; number = drop_number lead b } ∷ []) ++ dropped_of lead (i + 1) bs))
      go true rest later = rest
      go false rest later = (later, rest)

-- ---- a block with neither mark

unshaped : (b : List ℕ) (form : Form) → same (take 4 b) (form_mark form) ≡ false → shaped form b ≡ false
unfolding shaped head_fits
unshaped b form e = rw e

-- ---- the statements

pub kept_or_listed : KeptOrListed
unfolding dropped_in
kept_or_listed bytes i h =
    let n = piece_count (length bytes) in
    let q : 0 + i ≡ i = omega arith in
    rw (q, get_or_chunks 512 n i bytes h) at (listed_at (origin_for bytes) 0 i (pieces_of bytes) (rw (length_chunks 512 n bytes) h))

pub listed_right : ListedRight
unfolding dropped_in
listed_right bytes = all_map (dropped_in bytes) says (entries_say (origin_for bytes) 0 (pieces_of bytes))
  where
    says : (e : Entry) → SaysOf (origin_for bytes) 0 (pieces_of bytes) e → Says bytes e
    says e s =
        let n = piece_count (length bytes) in
        let h : e.index < n = omega (arith, s.1, length_chunks 512 n bytes) in
        let q : e.index - 0 ≡ e.index = omega arith in
        (h, rw (q, get_or_chunks 512 n e.index bytes h) at s.2, s.3)

pub listed_in_order : ListedInOrder
unfolding dropped_in
listed_in_order bytes = in_order (origin_for bytes) 0 (pieces_of bytes)

pub none_lost_in : NoneLost
unfolding kept_in dropped_in
none_lost_in bytes = none_lost (origin_for bytes) 0 (pieces_of bytes) ∙ length_chunks 512 (piece_count (length bytes)) bytes

pub torn_is_one : TornIsOne
unfolding drop_number
torn_is_one bytes h =
    let b = chunk_at 512 bytes (length bytes / 512) in
    let short : length b < 512 = simp (length-take, length-drop) (omega arith) in
    rw (alone_torn b (ne_eqb (length b) 512 (λ e. omega (arith, e, short))))

pub unmarked_is_three : UnmarkedIsThree
unfolding drop_number
unmarked_is_three lead b size sums h = rw (alone_3 b size sums (unshaped b (origin_of b).form (h (origin_of b).form)))
