-- A list in parts: the laws of a loop that begins with all of them, takes part i off at each turn, and ends with none.
use Prim.Native.Nat.{ℕ, zero, suc, ◌+◌, ◌-◌, ◌*◌, ◌/◌, ◌≤◌, ◌<◌}
use mathlib.Core.Path.{◌≡◌, refl, sym, ap, ◌∙◌}
use mathlib.Core.Bool.{true, false}
use lib.Dec.{ltb}
use borrow.Author.Tests.{ltb-true, ltb-false}
use mathlib.Core.List.{List, [], ◌∷◌, ◌++◌, map}
use lib.ListN.{length, get_or, take, drop, length-append, length-map, length-take, length-drop}
use lib.Seq.{drop-drop, take_all, take-append-le, drop-append-le}
use native.Mathlib.Nat.{mul-add, mul-one, mul-zero, sub-zero, add-sub_cancel_left, not-suc-le-zero, le_of_suc-le-suc, mul-suc, add_comm, suc-add, zero-add}
use native.Mathlib.Omega.{arith}
use Rattle.std.proofs.lemmas.List.{get_or_default}
use Rattle.std.specs.Simd.{first_chunks}
use Rattle.records.specs.Lists.{All}
use Rattle.records.specs.Steps.Rest.{chunks_from}
use Rattle.records.specs.Chunks.{chunks, chunk_at, records_of}
use Rattle.records.proofs.ListLaws.{all_at, all_take, all_drop}

pub chunks_all : (size n : ℕ) (xs : List ℕ) → chunks_from size n 0 xs ≡ chunks size n xs
unfolding chunks_from
chunks_all size n xs = simp (mul-zero, sub-zero)

pub chunks_step : (size n i : ℕ) (xs : List ℕ) → i < n → chunks_from size n i xs ≡ chunk_at size xs i ∷ chunks_from size n (i + 1) xs
unfolding chunks chunks_from
chunks_step size n i xs h =
    let e : n - i ≡ suc (n - (i + 1)) = omega arith in
    simp (e, drop-drop, mul-add, mul-one)

pub chunks_none : (size n i : ℕ) (xs : List ℕ) → n ≤ i → chunks_from size n i xs ≡ []
unfolding chunks chunks_from
chunks_none size n i xs h =
    let e : n - i ≡ 0 = omega arith in
    simp e

-- the parts that std cuts a slice into
pub chunks_are : (size n : ℕ) (xs : List ℕ) → first_chunks size n xs ≡ chunks size n xs
unfolding chunks
chunks_are size zero xs = refl
chunks_are size (suc n) xs = rw (chunks_are size n (drop size xs))

-- one part more behind the others
pub chunks_more : (size n : ℕ) (xs : List ℕ) → chunks size (n + 1) xs ≡ chunks size n xs ++ chunk_at size xs n ∷ []
unfolding chunks
chunks_more size zero xs = simp mul-zero
chunks_more size (suc n) xs = rw (suc-add n 1, chunks_more size n (drop size xs)) (simp (drop-drop, mul-suc, add_comm))

-- the part as code takes it, from size * i to size * i + size
pub part_is : (size i : ℕ) (xs : List ℕ) → take (size * i + size - size * i) (drop (size * i) xs) ≡ chunk_at size xs i
part_is size i xs = simp add-sub_cancel_left

pub length_chunks : (size n : ℕ) (xs : List ℕ) → length (chunks size n xs) ≡ n
unfolding chunks
length_chunks size zero xs = refl
length_chunks size (suc n) xs = ap suc (length_chunks size n (drop size xs))

pub get_or_chunks : (size n i : ℕ) (xs : List ℕ) → i < n → get_or (chunks size n xs) i [] ≡ chunk_at size xs i
unfolding chunks
get_or_chunks size zero i xs h = absurd (not-suc-le-zero h)
get_or_chunks size (suc n) zero xs h = simp mul-zero
get_or_chunks size (suc n) (suc i) xs h =
    simp (get_or_chunks size n i (drop size xs) (le_of_suc-le-suc h), drop-drop, mul-suc, add_comm)

-- the parts of what is joined after whole parts
pub chunks_append : (size m n : ℕ) (r s : List ℕ) → length r ≡ size * m → chunks size (m + n) (r ++ s) ≡ chunks size m r ++ chunks size n s
unfolding chunks
chunks_append size zero n r s e = rw (sym (take_all 0 r (omega (arith, e, mul-zero size))), zero-add n)
chunks_append size (suc m) n r s e =
    let h : length r ≡ size * m + size = e ∙ mul-suc size m in
    let d : length (drop size r) ≡ size * m = simp length-drop (omega arith) in
    rw (suc-add m n, take-append-le size r s (omega arith), drop-append-le size r s (omega arith))
    (ap (λ (l : List (List ℕ)). take size r ∷ l) (chunks_append size m n (drop size r) s d))

-- ---- what holds of parts

-- what holds of every part holds of part i
pub all_chunk : (P : List ℕ → Type 0) (size n i : ℕ) (xs : List ℕ) → i < n → All P (chunks size n xs) → P (chunk_at size xs i)
all_chunk P size n i xs h a = rw (get_or_chunks size n i xs h) at (all_at P (chunks size n xs) i [] a (rw (length_chunks size n xs) h))

-- what holds of every element holds of those of every part
pub chunks_each : (P : ℕ → Type 0) (size n : ℕ) (xs : List ℕ) → All P xs → All (All P) (chunks size n xs)
unfolding chunks
chunks_each P size zero xs a = tt
chunks_each P size (suc n) xs a = (all_take P size xs a, chunks_each P size n (drop size xs) (all_drop P size xs a))

pub chunks_short : (size n : ℕ) (xs : List ℕ) → All (λ p. length p ≤ size) (chunks size n xs)
unfolding chunks
chunks_short size zero xs = tt
chunks_short size (suc n) xs = (simp length-take (omega arith), chunks_short size n (drop size xs))

pub chunks_whole : (size n : ℕ) (xs : List ℕ) → size * n ≤ length xs → All (λ p. length p ≡ size) (chunks size n xs)
unfolding chunks
chunks_whole size zero xs h = tt
chunks_whole size (suc n) xs h =
    let g : size * n + size ≤ length xs = omega (arith, mul-suc size n) in
    (simp length-take (omega arith), chunks_whole size n (drop size xs) (simp length-drop (omega arith)))

-- ---- a table's records, each read as a leg, say, or as a claim

pub length_records_of : (n : ℕ) (xs : List ℕ) → length xs ≡ 32 * n → length (records_of xs) ≡ n
length_records_of n xs e = length_chunks 32 (length xs / 32) xs ∙ omega arith

-- the records of what is joined after whole records
pub records_append : (n : ℕ) (xs ys : List ℕ) → length xs ≡ 32 * n → records_of (xs ++ ys) ≡ records_of xs ++ records_of ys
records_append n xs ys e =
    let q : length (xs ++ ys) / 32 ≡ n + length ys / 32 = rw (length-append xs ys) (omega arith) in
    let m : length xs / 32 ≡ n = omega arith in
    rw (q, m) (chunks_append 32 n (length ys / 32) xs ys e)

-- a record of its own as the first of a table
pub first_record : (xs : List ℕ) → length xs ≡ 32 → chunk_at 32 xs 0 ≡ xs
first_record xs e = take_all 32 xs (omega arith)

module _ (xs : List ℕ) (i : ℕ) where
  -- a record has 32 bytes, and past the last there are fewer
  pub record_size : i < length xs / 32 → length (chunk_at 32 xs i) ≡ 32
  record_size h = simp (length-take, length-drop) (omega arith)

  pub record_whole : i < length xs / 32 → 32 ≤ length (chunk_at 32 xs i)
  record_whole h = omega (arith, record_size h)

  pub record_past : length xs / 32 ≤ i → length (chunk_at 32 xs i) < 32
  record_past h = simp (length-take, length-drop) (omega arith)

-- a table's records looked up by `get` or by an index that is known to be right
module _ (xs : List ℕ) (records : List (List ℕ)) (e : records ≡ records_of xs) (i : ℕ) where
  pub records_many : length records ≡ length xs / 32
  records_many = rw e (length_chunks 32 (length xs / 32) xs)

  pub record_there : i < length records → (part : List ℕ) → part ≡ get_or records i part → part ≡ chunk_at 32 xs i
  record_there h part g =
      let q : length (records_of xs) ≡ length xs / 32 = length_chunks 32 (length xs / 32) xs in
      let many : i < length xs / 32 = omega (arith, records_many) in
      g ∙ ap (λ (l : List (List ℕ)). get_or l i part) e ∙ get_or_default (records_of xs) i part [] (omega arith) ∙ get_or_chunks 32 (length xs / 32) i xs many

  -- of record i, and past the last
  pub get_record : true ≡ ltb i (length records) → (part : List ℕ) → part ≡ get_or records i part → (part ≡ chunk_at 32 xs i) × (32 ≤ length (chunk_at 32 xs i))
  get_record t part g =
      let h : i < length records = ltb-true i (length records) (sym t) in
      (record_there h part g, record_whole xs i (omega (arith, records_many)))

  pub get_no_record : false ≡ ltb i (length records) → length (chunk_at 32 xs i) < 32
  get_no_record t =
      let h : length records ≤ i = ltb-false i (length records) (sym t) in
      record_past xs i (omega (arith, records_many))

module _ {A : Type 0} (read : List ℕ → A) (xs : List ℕ) where
  -- those from record i on
  unfoldable pub rows_from : ℕ → List A
  rows_from i = map read (chunks_from 32 (length xs / 32) i xs)

  pub rows_all : rows_from 0 ≡ map read (records_of xs)
  unfolding rows_from
  rows_all = rw (chunks_all 32 (length xs / 32) xs)

  pub rows_next : (i : ℕ) (x : A) → i < length xs / 32 → x ≡ read (chunk_at 32 xs i) → rows_from i ≡ x ∷ rows_from (i + 1)
  unfolding rows_from
  rows_next i x h e = rw (e, chunks_step 32 (length xs / 32) i xs h)

  pub rows_none : (i : ℕ) → length xs / 32 ≤ i → rows_from i ≡ []
  unfolding rows_from
  rows_none i h = rw (chunks_none 32 (length xs / 32) i xs h)

  pub length_rows : length (map read (records_of xs)) ≡ length xs / 32
  length_rows = simp (length-map, length_chunks)
