-- The pass record by record, as a loop that has passed those before record i knows it; and what it does to the legs.
use Rattle.std.specs.Prelude.{Result, Ok, Err}
use mathlib.Core.Path.{◌≡◌, refl, sym, ap, ◌∙◌}
use mathlib.Core.Bool.{Bool, true, false, cond}
use mathlib.Core.List.{List, [], ◌∷◌, ◌++◌, append_assoc}
use Prim.Native.Nat.{ℕ, suc, ◌+◌, ◌-◌, ◌*◌, ◌/◌, ◌≤◌, ◌<◌}
use native.Mathlib.Nat.{mul-add, mul-one, mul-zero, sub-zero}
use native.Mathlib.Omega.{arith}
use lib.ListN.{length, set, take, drop, length-append, length-set}
use lib.Seq.{drop-drop}
use borrow.Rule.Slice.PartMut.{put_mid}
use Rattle.records.specs.Chunks.{chunk_at}
use Rattle.records.specs.Legs.{leg_of}
use Rattle.records.specs.Lists.{only, sum_of}
use Rattle.records.specs.Order.{first_of}
use Rattle.records.specs.Tables.{table_checks, check_answer, check_call}
use Rattle.records.specs.Written.{put_at}
use Rattle.records.specs.declared.refusals.Refusal.{Refusal}
use Rattle.records.specs.declared.tables.Kind.TheVariants.{Placement}
use mir.Val.{bool_byte}
use Rattle.records.specs.declared.legs.Leg.{Leg}
use Rattle.records.proofs.ChunkLaws.{first_record, rows_from, rows_next, rows_none, part_is, record_size}
use Rattle.records.proofs.PassLaws.{clear}
use Rattle.records.proofs.PutLaws.{put_next, put_past}
use Rattle.records.proofs.TableLaws.{legs_all, whole}
use Rattle.sheets.specs.Marks.{mark_on, marked_record, marked_first, marked_placement, marks_in}
use Rattle.sheets.specs.Sheets.{unpaid_long}

-- ---- one record

pub length_record : (r : List ℕ) → length (marked_record r) ≡ length r
unfolding marked_record
length_record r = go (unpaid_long (leg_of r))
  where
    go : (b : Bool) → length (cond b (set r 25 1) r) ≡ length r
    go true = length-set r 25 1
    go false = refl

-- a record of its own, read as the first of a table
pub record_asked : (r : List ℕ) (l : Leg) → length r ≡ 32 → l ≡ leg_of (chunk_at 32 r 0) → unpaid_long l ≡ unpaid_long (leg_of r)
record_asked r l e q = ap (λ (x : Leg). unpaid_long x) (q ∙ ap leg_of (first_record r e))

-- a mark set counts as one
pub counted : (b : Bool) → bool_byte b ≡ only b 1
counted true = refl
counted false = refl

pub mark_small : (b : Bool) (r : ℕ) → r ≡ only b 1 → r ≤ 1
mark_small true r e = omega arith
mark_small false r e = omega arith

-- ---- the loop: the records before i have passed

pub record Marking (p cur : List ℕ) (marks i : ℕ) : Type 0 where
  pub front : List ℕ
  pub long : length front ≡ 32 * i
  pub now_is : cur ≡ put_at p 0 front
  pub bytes : marked_placement p ≡ front ++ marked_first (length p / 32 - i) (drop (32 * i) p)
  pub few : marks ≤ i
  pub count : marks + sum_of mark_on (rows_from leg_of p i) ≡ marks_in p

pub marking_none : (p : List ℕ) → Marking p p 0 0
unfolding put_at marks_in
marking_none p =
    record {
      front = [];
      long = omega arith;
      now_is = refl;
      bytes = simp (mul-zero, sub-zero);
      few = omega arith;
      count = rw (legs_all p) (omega arith);
    }

marked_step : (xs : List ℕ) (n i : ℕ) → i < n
    → marked_first (n - i) (drop (32 * i) xs) ≡ marked_record (chunk_at 32 xs i) ++ marked_first (n - (i + 1)) (drop (32 * (i + 1)) xs)
unfolding marked_first
marked_step xs n i h =
    let e : n - i ≡ suc (n - (i + 1)) = omega arith in
    simp (e, drop-drop, mul-add, mul-one)

module _ {p cur : List ℕ} {marks i : ℕ} (m : Marking p cur marks i) where
  -- what lies past the front is what stood there
  rest_is : drop (32 * i) cur ≡ drop (32 * i) p
  rest_is = rw m.now_is (rw m.long at (put_past p m.front))

  pub part_now : take (32 * i + 32 - 32 * i) (drop (32 * i) cur) ≡ chunk_at 32 p i
  part_now = part_is 32 i cur ∙ ap (take 32) rest_is

  module _ (h : i < length p / 32) where
    pub marking_more : (part : List ℕ) (r : ℕ) → part ≡ marked_record (take (32 * i + 32 - 32 * i) (drop (32 * i) cur))
        → r ≡ mark_on (leg_of (take (32 * i + 32 - 32 * i) (drop (32 * i) cur)))
        → Marking p (put_mid (32 * i) (32 * i + 32 - 32 * i) cur part) (marks + r) (i + 1)
    unfolding sum_of
    marking_more part r ep er =
        let c = chunk_at 32 p i in
        let e : part ≡ marked_record c = ep ∙ ap marked_record part_now in
        let o : r ≡ mark_on (leg_of c) = er ∙ ap (λ (t : List ℕ). mark_on (leg_of t)) part_now in
        let s : length (marked_record c) ≡ 32 = length_record c ∙ record_size p i h in
        let n : rows_from leg_of p i ≡ leg_of c ∷ rows_from leg_of p (i + 1) = rows_next leg_of p i (leg_of c) h refl in
        record {
          front = m.front ++ marked_record c;
          long = length-append m.front (marked_record c) ∙ omega (arith, m.long);
          now_is =
              rw (e, m.now_is)
              (put_next p m.front (marked_record c) 0 (32 * i) (32 * i + 32 - 32 * i) (omega arith) (omega (arith, m.long)) (omega arith));
          bytes =
              m.bytes
              ∙ ap (λ (t : List ℕ). m.front ++ t) (marked_step p (length p / 32) i h)
              ∙ sym (append_assoc m.front (marked_record c) (marked_first (length p / 32 - (i + 1)) (drop (32 * (i + 1)) p)));
          few = omega (arith, m.few, mark_small (unpaid_long (leg_of c)) r o);
          count = omega (arith, m.count, o, ap (sum_of mark_on) n);
        }

  module _ (h : length p / 32 ≤ i) where
    pub marking_over : cur ≡ marked_placement p
    unfolding put_at marked_first
    marking_over =
        let z : length p / 32 - i ≡ 0 = omega arith in
        let q : 0 + length m.front ≡ 32 * i = omega (arith, m.long) in
        let b : marked_placement p ≡ m.front ++ drop (32 * i) p = rw z at m.bytes in
        m.now_is ∙ ap (λ (n : ℕ). m.front ++ drop n p) q ∙ sym b

    pub marking_count : marks ≡ marks_in p
    unfolding sum_of
    marking_count = omega (arith, m.count, ap (sum_of mark_on) (rows_none leg_of p i h))

-- ---- the answer of the table's check

pub counted_clear : (p : List ℕ) (n : ℕ) → check_call Placement p ≡ Ok n → first_of (table_checks Placement p) ≡ Ok tt
unfolding check_call
counted_clear p n e = go (first_of (table_checks Placement p)) refl e
  where
    go : (f : Result Unit Refusal) → first_of (table_checks Placement p) ≡ f → check_answer f (length p / 32) ≡ Ok n → first_of (table_checks Placement p) ≡ Ok tt
    go (Ok _) q r = q
    go (Err x) q r = let z : ◌≡◌ {A = ℕ} 0 1 = cc in absurd (omega arith)

pub counted_refused : (p : List ℕ) (r : Refusal) → check_call Placement p ≡ Err r → first_of (table_checks Placement p) ≡ Err r
unfolding check_call
counted_refused p r e = go (first_of (table_checks Placement p)) refl e
  where
    go : (f : Result Unit Refusal) → first_of (table_checks Placement p) ≡ f → check_answer f (length p / 32) ≡ Err r → first_of (table_checks Placement p) ≡ Err r
    go (Ok _) q w = let z : ◌≡◌ {A = ℕ} 0 1 = cc in absurd (omega arith)
    go (Err x) q w = let t : x ≡ r = cc in q ∙ ap Err t

pub table_few : (p : List ℕ) → first_of (table_checks Placement p) ≡ Ok tt → length p ≤ 8192
unfolding table_checks
table_few p e = let w = whole Placement (length p) (clear _ e).0 in omega (arith, w.0, w.1)
