-- What the pass does to the legs of a placement, and to a sheet that kept the old rule.
use mathlib.Core.Path.{◌≡◌, refl, sym, ap, ◌∙◌}
use mathlib.Core.Bool.{Bool, true, false, cond, not, ◌&&◌, and-false, and-eq-true_iff, false≢true}
use mathlib.Core.List.{List, [], ◌∷◌, map}
use mathlib.Core.Logic.{◌≢◌}
use Prim.Native.Nat.{ℕ, zero, suc, ◌+◌, ◌*◌, ◌/◌, ◌≤◌, ◌<◌}
use native.Mathlib.Omega.{arith}
use lib.Dec.{eqb}
use lib.ListN.{length, set, take, drop, length-append, length-set, length-take, length-drop}
use lib.Seq.{take_at, drop_at, drop-set-lt, get_or-set_same, get_or-set_other}
use borrow.Author.Tests.{le-leb, eqb-true, eq-eqb, ne_eqb}
use Rattle.records.proofs.LegLaws.{paid_range}
use Rattle.records.specs.Written.{put_at}
use Rattle.records.proofs.PutLaws.{put_whole}
use Rattle.records.specs.Bytes.{le_at, zero_in}
use Rattle.records.specs.Chunks.{chunks, records_of}
use Rattle.records.specs.Legs.{leg_fields, leg_of, is_long, is_short, is_paid, with_paid, in_range, good_leg}
use Rattle.records.specs.Lines.{same_line_side, contracts_of}
use Rattle.records.specs.Lists.{All, only, sum_of, keep}
use Rattle.records.specs.Tables.{good_record, legs_of}
use Rattle.records.specs.declared.claims.Claim.{Claim}
use Rattle.records.specs.declared.legs.Leg.{Leg}
use Rattle.records.specs.declared.tables.Kind.TheVariants.{Placement}
use Rattle.records.proofs.ChunkLaws.{chunks_whole}
use Rattle.records.proofs.ListLaws.{map_all}
use Rattle.spreads.specs.Spreads.{group_of}
use Rattle.spreads.specs.Work.{values_of, work_up_to, work_of}
use Rattle.spreads.proofs.Laws.{total_ext}
use Rattle.sheets.specs.Demands.{PassMarks, PassTwice, PassSound}
use Rattle.sheets.specs.Marks.{marked_leg, marked_record, marked_first, marked_placement, mark_on, marks_in}
use Rattle.sheets.specs.Sheets.{unpaid_long, OldRule, SheetRule}
use Rattle.sheets.proofs.MarkLaws.{length_record}

-- ---- the fields of a record whose mark is set

before_set : (xs : List ℕ) (i v at w : ℕ) → at + w ≤ i → le_at (set xs i v) at w ≡ le_at xs at w
unfolding le_at
before_set xs i v at zero h = refl
before_set xs i v at (suc w) h =
    rw (get_or-set_other xs i at v 0 (λ e. (let no : ⊥ = omega arith in no)), before_set xs i v (at + 1) w (omega arith))

mark_byte : (xs : List ℕ) → 25 < length xs → le_at (set xs 25 1) 25 1 ≡ 1
unfolding le_at
mark_byte xs h = rw (get_or-set_same xs 25 1 0 h)

mark_fields : (r : List ℕ) → length r ≡ 32 → leg_of (set r 25 1) ≡ with_paid (leg_of r) 1
unfolding leg_of leg_fields with_paid
mark_fields r e =
    rw (
      length-set r 25 1,
      le-leb 32 (length r) (omega arith),
      before_set r 25 1 0 2 (omega arith),
      before_set r 25 1 2 1 (omega arith),
      before_set r 25 1 3 1 (omega arith),
      before_set r 25 1 4 1 (omega arith),
      before_set r 25 1 5 1 (omega arith),
      before_set r 25 1 6 2 (omega arith),
      before_set r 25 1 8 4 (omega arith),
      before_set r 25 1 12 4 (omega arith),
      before_set r 25 1 16 4 (omega arith),
      before_set r 25 1 20 4 (omega arith),
      before_set r 25 1 24 1 (omega arith),
      mark_byte r (omega arith),
    )

paid_same : (l : Leg) → l.paid ≡ 1 → with_paid l 1 ≡ l
unfolding with_paid
paid_same l p = ap (with_paid l) (sym p)

record_leg : (r : List ℕ) → length r ≡ 32 → leg_of (marked_record r) ≡ marked_leg (leg_of r)
unfolding marked_record
record_leg r e = go (is_long (leg_of r) && eqb (leg_of r).group 0) (is_paid (leg_of r)) refl
  where
    go : (a b : Bool) → is_paid (leg_of r) ≡ b → leg_of (cond (a && not b) (set r 25 1) r) ≡ cond a (with_paid (leg_of r) 1) (leg_of r)
    go true false q = mark_fields r e
    go true true q = sym (paid_same (leg_of r) (eqb-true (leg_of r).paid 1 q))
    go false b q = refl

-- ---- the records of the table

pub length_marked : (n : ℕ) (xs : List ℕ) → length (marked_first n xs) ≡ length xs
unfolding marked_first
length_marked zero xs = refl
length_marked (suc n) xs =
    length-append (marked_record (take 32 xs)) (marked_first n (drop 32 xs))
    ∙ omega (arith, length_record (take 32 xs), length_marked n (drop 32 xs), length-take 32 xs, length-drop 32 xs)

-- so that the pass writes the whole table
pub put_marked : (p : List ℕ) → put_at p 0 (marked_placement p) ≡ marked_placement p
put_marked p = put_whole p (marked_placement p) (omega (arith, length_marked (length p / 32) p))

first_size : (n : ℕ) (xs : List ℕ) → 32 * suc n ≤ length xs → length (take 32 xs) ≡ 32
first_size n xs h = simp length-take (omega arith)

rest_size : (n : ℕ) (xs : List ℕ) → 32 * suc n ≤ length xs → 32 * n ≤ length (drop 32 xs)
rest_size n xs h = simp length-drop (omega arith)

marked_chunks : (n : ℕ) (xs : List ℕ) → 32 * n ≤ length xs → chunks 32 n (marked_first n xs) ≡ map marked_record (chunks 32 n xs)
unfolding chunks marked_first
marked_chunks zero xs h = refl
marked_chunks (suc n) xs h =
    let m = marked_record (take 32 xs) in
    let e : length m ≡ 32 = length_record (take 32 xs) ∙ first_size n xs h in
    rw (
      take_at m (marked_first n (drop 32 xs)) 32 e,
      drop_at m (marked_first n (drop 32 xs)) 32 e,
      marked_chunks n (drop 32 xs) (rest_size n xs h),
    )

marked_records : (p : List ℕ) → records_of (marked_placement p) ≡ map marked_record (records_of p)
marked_records p = rw (length_marked (length p / 32) p) (marked_chunks (length p / 32) p (omega arith))

each_leg : (rs : List (List ℕ)) → All (λ r. length r ≡ 32) rs → map leg_of (map marked_record rs) ≡ map marked_leg (map leg_of rs)
each_leg [] a = refl
each_leg (r ∷ rs) a = rw (record_leg r a.0, each_leg rs a.1)

pub pass_marks : PassMarks
unfolding legs_of
pass_marks p = rw (marked_records p) (each_leg (records_of p) (chunks_whole 32 (length p / 32) p (omega arith)))

-- ---- applied twice

marked_paid : (l : Leg) → unpaid_long (marked_leg l) ≡ false
unfolding with_paid
marked_paid l = go (is_long l && eqb l.group 0) refl
  where
    go : (b : Bool) → is_long l && eqb l.group 0 ≡ b → unpaid_long (cond b (with_paid l 1) l) ≡ false
    go true q = and-false (is_long l && eqb l.group 0)
    go false q = rw q

record_stays : (r : List ℕ) → unpaid_long (leg_of r) ≡ false → marked_record r ≡ r
unfolding marked_record
record_stays r e = rw e

record_again : (r : List ℕ) → length r ≡ 32 → marked_record (marked_record r) ≡ marked_record r
record_again r e = record_stays (marked_record r) (ap (λ (l : Leg). unpaid_long l) (record_leg r e) ∙ marked_paid (leg_of r))

marked_again : (n : ℕ) (xs : List ℕ) → 32 * n ≤ length xs → marked_first n (marked_first n xs) ≡ marked_first n xs
unfolding marked_first
marked_again zero xs h = refl
marked_again (suc n) xs h =
    let m = marked_record (take 32 xs) in
    let s = first_size n xs h in
    let e : length m ≡ 32 = length_record (take 32 xs) ∙ s in
    rw (
      take_at m (marked_first n (drop 32 xs)) 32 e,
      drop_at m (marked_first n (drop 32 xs)) 32 e,
      record_again (take 32 xs) s,
      marked_again n (drop 32 xs) (rest_size n xs h),
    )

none_left : (legs : List Leg) → sum_of mark_on (map marked_leg legs) ≡ 0
unfolding sum_of
none_left [] = refl
none_left (l ∷ ls) = let z : mark_on (marked_leg l) ≡ 0 = rw (marked_paid l) in omega (arith, z, none_left ls)

pub pass_twice : PassTwice
unfolding marks_in
pass_twice p = (
  rw (length_marked (length p / 32) p) (marked_again (length p / 32) p (omega arith)),
  rw (pass_marks p) (none_left (legs_of p)),
)

-- ---- the table stays sound

set_good : (r : List ℕ) → good_leg 32 r ≡ true → good_leg 32 (set r 25 1) ≡ true
unfolding good_leg zero_in
set_good r g =
    let p = (and-eq-true_iff (eqb (length r) 32) _).0 g in
    let s = eqb-true (length r) 32 p.0 in
    let q = (and-eq-true_iff (in_range 32 (leg_of r)) _).0 p.1 in
    let range : in_range 32 (leg_of (set r 25 1)) ≡ true = rw (mark_fields r s) (paid_range 32 1 (leg_of r) q.0 (omega arith)) in
    rw (length-set r 25 1, p.0, range, drop-set-lt 26 r 25 1 (omega arith)) q.1

record_good : (r : List ℕ) → good_record Placement r ≡ true → good_record Placement (marked_record r) ≡ true
unfolding marked_record
record_good r g = go (unpaid_long (leg_of r))
  where
    go : (b : Bool) → good_leg 32 (cond b (set r 25 1) r) ≡ true
    go true = set_good r g
    go false = g

pub pass_sound : PassSound
pass_sound p s =
    record {
      whole = rw (length_marked (length p / 32) p) s.whole;
      fields =
          rw (marked_records p)
          (map_all marked_record (λ r. good_record Placement r ≡ true) (λ r. good_record Placement r ≡ true) (records_of p) record_good s.fields);
    }

-- ---- and keeps the rule

marked_group : (l : Leg) → (marked_leg l).group ≡ l.group
unfolding with_paid
marked_group l = go (is_long l && eqb l.group 0)
  where
    go : (b : Bool) → (cond b (with_paid l 1) l).group ≡ l.group
    go true = refl
    go false = refl

-- a placed leg stays
placed_stays : (l : Leg) (g : ℕ) → 1 ≤ g → l.group ≡ g → marked_leg l ≡ l
placed_stays l g h e = rw (ne_eqb l.group 0 (λ z. (let no : ⊥ = omega arith in no)), and-false (is_long l))

group_same : (g : ℕ) (legs : List Leg) → 1 ≤ g → group_of g (map marked_leg legs) ≡ group_of g legs
unfolding group_of keep
group_same g [] h = refl
group_same g (l ∷ ls) h = rw (marked_group l, group_same g ls h) (go (eqb l.group g) refl (group_of g ls))
  where
    go : (b : Bool) → eqb l.group g ≡ b → (rest : List Leg) → cond b (marked_leg l ∷ rest) rest ≡ cond b (l ∷ rest) rest
    go true q rest = ap (λ (t : Leg). t ∷ rest) (placed_stays l g h (eqb-true l.group g q))
    go false q rest = refl

-- the groups cause the work that they caused
pub work_marked : (legs : List Leg) → work_of (map marked_leg legs) ≡ work_of legs
unfolding work_of work_up_to
work_marked legs =
    total_ext 32 (λ g. values_of (group_of g (map marked_leg legs))) (λ g. values_of (group_of g legs)) (λ g a b. ap values_of (group_same g legs a))

contracts_one : (x y : Leg) → only (same_line_side x (marked_leg y)) (marked_leg y).contracts.0 ≡ only (same_line_side x y) y.contracts.0
unfolding with_paid same_line_side
contracts_one x y = go (is_long y && eqb y.group 0)
  where
    go : (b : Bool) → only (same_line_side x (cond b (with_paid y 1) y)) (cond b (with_paid y 1) y).contracts.0 ≡ only (same_line_side x y) y.contracts.0
    go true = refl
    go false = refl

contracts_same : (x : Leg) (legs : List Leg) → contracts_of x (map marked_leg legs) ≡ contracts_of x legs
unfolding contracts_of sum_of
contracts_same x [] = refl
contracts_same x (y ∷ ys) = rw (contracts_one x y, contracts_same x ys)

marked_placed : (l : Leg) → (is_short l ≡ true → l.group ≢ 0) → is_short (marked_leg l) ≡ true → (marked_leg l).group ≢ 0
unfolding with_paid
marked_placed l k = go (is_long l && eqb l.group 0)
  where
    go : (b : Bool) → is_short (cond b (with_paid l 1) l) ≡ true → (cond b (with_paid l 1) l).group ≢ 0
    go true = k
    go false = k

marked_long : (l : Leg) → is_long (marked_leg l) ≡ true → (marked_leg l).group ≡ 0 → is_paid (marked_leg l) ≡ true
unfolding with_paid
marked_long l = go (is_long l && eqb l.group 0) refl
  where
    go : (b : Bool) → is_long l && eqb l.group 0 ≡ b → is_long (cond b (with_paid l 1) l) ≡ true → (cond b (with_paid l 1) l).group ≡ 0 → is_paid (cond b (with_paid l 1) l) ≡ true
    go true q t z = refl
    go false q t z = absurd (false≢true (sym q ∙ rw (t, eq-eqb l.group 0 z)))

pub rule_marked : (h p : List Leg) (c : List Claim) → OldRule h p c → SheetRule h (map marked_leg p) c
rule_marked h p c ok =
    let old : OldRule h (map marked_leg p) c =
    record {
      numbered = ok.numbered;
      named = map_all marked_leg (λ l. l.group ≤ length c) (λ l. l.group ≤ length c) p (λ l q. rw (marked_group l) q) ok.named;
      spreads = λ g a b. rw (group_same g p a) (ok.spreads g a b);
      lines = λ x. ok.lines x ∙ sym (contracts_same x p);
      placed = map_all marked_leg (λ l. is_short l ≡ true → l.group ≢ 0) (λ l. is_short l ≡ true → l.group ≢ 0) p marked_placed ok.placed;
      claims = λ g a b. rw (group_same g p a) (ok.claims g a b);
    } in
    record {
      old = old;
      paid =
          map_all marked_leg (λ l. is_long l ≡ true → l.group ≡ 0 → is_paid l ≡ true) (λ l. is_short l ≡ true → l.group ≢ 0) p
          (λ l k. marked_long l) ok.placed;
    }
