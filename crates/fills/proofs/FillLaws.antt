-- A fill's action and the record that it is otherwise, as code takes them.
use Prim.Native.Nat.{ℕ, zero, suc, ◌+◌, ◌-◌, ◌*◌, ◌/◌, ◌≤◌, ◌<◌}
use mathlib.Core.Path.{◌≡◌, refl, sym, ap, ◌∙◌}
use mathlib.Core.Bool.{Bool, true, false, cond, not, ◌&&◌, and-false, and-eq-true_iff, false≢true}
use mathlib.Core.List.{List}
use native.Mathlib.Decide.{dec_le, ℕ_discrete}
use native.Mathlib.Omega.{arith}
use lib.ListN.{length, get_or, set, drop, length-set}
use lib.Dec.{eqb}
use lib.Seq.{get_or-drop, get_or-take, get_or-set_other}
use borrow.Author.Tests.{eqb-true, eq-eqb, lt-leb, lt-ltb, le-ltb}
use Rattle.records.specs.Bytes.{le_at}
use Rattle.records.specs.Chunks.{chunk_at}
use Rattle.records.specs.Legs.{leg_fields, leg_of, is_paid, in_range, good_leg}
use Rattle.records.specs.Tables.{good_record, good_unpaid}
use Rattle.records.specs.Within.{within}
use Rattle.records.specs.declared.legs.Leg.{Leg}
use Rattle.records.specs.declared.tables.Kind.TheVariants.{Holdings}
use Rattle.records.proofs.ChunkLaws.{record_size}
use Rattle.records.proofs.TableLaws.{ranges}
use Rattle.records.proofs.PutLaws.{put_one}
use Rattle.fills.specs.Fills.{action_at, action_of, plain_of, fill_leg, good_fill}
use Rattle.fills.specs.Rows.{unmarked, held_of, opened, closed}
use Rattle.fills.specs.Steps.Links.{leg_in_play}
use Rattle.fills.specs.Played.{open_number, close_number, fill_number, number_over, rows_after}

pub action_is : (xs : List ℕ) (i : ℕ) → get_or xs (32 * i + action_at) 0 ≡ action_of (chunk_at 32 xs i)
unfolding le_at
action_is xs i = rw (get_or-take 32 (drop (32 * i) xs) action_at 0 (omega arith), get_or-drop (32 * i) xs action_at 0) (omega arith)

-- a part copied, with the action's byte set to 0
pub plain_is : (part out : List ℕ) → action_at < length part → out ≡ part → set out action_at 0 ≡ plain_of part
unfolding plain_of
plain_is part out h o = rw o (put_one part action_at 0 h)

-- ---- a good record

pub good_range : (xs : List ℕ) → good_record Holdings xs ≡ true → in_range 0 (leg_of xs) ≡ true
unfolding good_leg
good_range xs e =
    let p = (and-eq-true_iff (eqb (length xs) 32) _).0 e in
    ((and-eq-true_iff (in_range 0 (leg_of xs)) _).0 p.1).0

pub good_size : (xs : List ℕ) → good_record Holdings xs ≡ true → length xs ≡ 32
unfolding good_leg
good_size xs e = eqb-true (length xs) 32 ((and-eq-true_iff (eqb (length xs) 32) _).0 e).0

pub plain_record : (xs : List ℕ) → good_unpaid xs ≡ true → good_record Holdings xs ≡ true
unfolding good_unpaid
plain_record xs e = ((and-eq-true_iff (good_record Holdings xs) _).0 e).0

pub plain_unpaid : (xs : List ℕ) → good_unpaid xs ≡ true → (leg_of xs).paid ≡ 0
unfolding good_unpaid
plain_unpaid xs e =
    let m = (ranges 0 (leg_of xs) (good_range xs (plain_record xs e))).paid in
    let n = ((and-eq-true_iff (good_record Holdings xs) (not (is_paid (leg_of xs)))).0 e).1 in
    elim (ℕ_discrete (leg_of xs).paid 1) [
      | yes p ↦ absurd (false≢true (sym (ap not (eq-eqb (leg_of xs).paid 1 p)) ∙ n))
      | no p ↦ unmarked_is (leg_of xs).paid m p
    ]
  where
    unmarked_is : (n : ℕ) → n ≤ 1 → (n ≡ 1 → ⊥) → n ≡ 0
    unmarked_is n h p =
        elim (ℕ_discrete n 0) [
          | yes q ↦ q
          | no q ↦ absurd (p (omega arith))
        ]

-- ---- the records of both tables

plain_byte : (xs : List ℕ) (p : ℕ) → p < action_at → action_at < length xs → get_or (plain_of xs) p 0 ≡ get_or xs p 0
unfolding plain_of
plain_byte xs p h r =
    ap (λ (l : List ℕ). get_or l p 0) (sym (put_one xs action_at 0 r)) ∙ get_or-set_other xs action_at p 0 0 (λ e. omega arith)

plain_number : (xs : List ℕ) (at w : ℕ) → at + w ≤ action_at → action_at < length xs → le_at (plain_of xs) at w ≡ le_at xs at w
unfolding le_at
plain_number xs at zero h r = refl
plain_number xs at (suc w) h r = rw (plain_byte xs at (omega arith) r, plain_number xs (at + 1) w (omega arith) r)

plain_fields : (xs : List ℕ) → action_at < length xs → leg_fields (plain_of xs) ≡ leg_fields xs
unfolding leg_fields
plain_fields xs r =
    rw (
      plain_number xs 0 2 (omega arith) r,
      plain_number xs 2 1 (omega arith) r,
      plain_number xs 3 1 (omega arith) r,
      plain_number xs 4 1 (omega arith) r,
      plain_number xs 5 1 (omega arith) r,
      plain_number xs 6 2 (omega arith) r,
      plain_number xs 8 4 (omega arith) r,
      plain_number xs 12 4 (omega arith) r,
      plain_number xs 16 4 (omega arith) r,
      plain_number xs 20 4 (omega arith) r,
      plain_number xs 24 1 (omega arith) r,
      plain_number xs 25 1 (omega arith) r,
    )

plain_size : (xs : List ℕ) → action_at < length xs → length (plain_of xs) ≡ length xs
unfolding plain_of
plain_size xs r = ap length (sym (put_one xs action_at 0 r)) ∙ simp length-set

-- a fill's leg is read with its action in place
plain_leg : (xs : List ℕ) → length xs ≡ 32 → leg_of xs ≡ fill_leg xs
unfolding leg_of
plain_leg xs e = rw (plain_size xs (omega arith), e) (sym (plain_fields xs (omega arith)))

pub leg_start : (h f : List ℕ) (i : ℕ) → i < length h / 32 → leg_in_play h f i ≡ unmarked (chunk_at 32 h i)
unfolding leg_in_play
leg_start h f i a = rw (lt-ltb i (length h / 32) a)

pub leg_fill : (h f : List ℕ) (i : ℕ) → i < length f / 32 → leg_in_play h f (length h / 32 + i) ≡ fill_leg (chunk_at 32 f i)
unfolding leg_in_play
leg_fill h f i a =
    let q : length h / 32 + i - length h / 32 ≡ i = omega arith in
    rw (le-ltb (length h / 32 + i) (length h / 32) (omega arith), q) (plain_leg (chunk_at 32 f i) (record_size f i a))

-- ---- a fill by its action

-- neither 1 nor 2
neither : (n : ℕ) → (n ≡ 1 → ⊥) → (n ≡ 2 → ⊥) → within 1 2 n ≡ false
neither n a b =
    elim (dec_le 1 n) [
      | no k ↦ rw (lt-leb 1 n (omega arith))
      | yes j ↦ rw (lt-leb n 2 (above n a b j), and-false)
    ]
  where
    above : (n : ℕ) → (n ≡ 1 → ⊥) → (n ≡ 2 → ⊥) → 1 ≤ n → 2 < n
    above n a b j =
        elim (ℕ_discrete n 1) [
          | yes p ↦ absurd (a p)
          | no p ↦ elim (ℕ_discrete n 2) [
            | yes q ↦ absurd (b q)
            | no q ↦ omega arith
          ]
        ]

module _ (xs : List ℕ) (rows : List Leg) where
  abbrev Said : ℕ → List Leg → Type 0
  Said number after = (number_over rows xs ≡ number) × (rows_after rows xs ≡ cond (eqb number 0) after rows)

  said : (number : ℕ) (after : List Leg) → number_over rows xs ≡ number → cond (eqb (action_of xs) 1) (opened (fill_leg xs) rows) (closed (fill_leg xs) rows) ≡ after → Said number after
  unfolding rows_after
  said number after e f = (e, rw (e, f))

  pub open_fill : good_unpaid (plain_of xs) ≡ true → action_of xs ≡ 1
      → Said (open_number (held_of (fill_leg xs) rows) (length rows) (fill_leg xs).contracts.0) (opened (fill_leg xs) rows)
  unfolding number_over fill_number good_fill
  open_fill g a = said _ _ (rw (a, g)) (rw a)

  pub close_fill : good_unpaid (plain_of xs) ≡ true → action_of xs ≡ 2
      → Said (close_number (held_of (fill_leg xs) rows) (fill_leg xs).contracts.0) (closed (fill_leg xs) rows)
  unfolding number_over fill_number good_fill
  close_fill g a = said _ _ (rw (a, g)) (rw a)

  bad_fill : good_fill xs ≡ false → (number_over rows xs ≡ 4) × (rows_after rows xs ≡ rows)
  unfolding number_over fill_number rows_after
  bad_fill b = (rw b, rw b)

  pub bad_record : good_unpaid (plain_of xs) ≡ false → (number_over rows xs ≡ 4) × (rows_after rows xs ≡ rows)
  unfolding good_fill
  bad_record b = bad_fill (rw (b, and-false))

  pub bad_action : (action_of xs ≡ 1 → ⊥) → (action_of xs ≡ 2 → ⊥) → (number_over rows xs ≡ 4) × (rows_after rows xs ≡ rows)
  unfolding good_fill
  bad_action a b = bad_fill (ap (λ (t : Bool). t && good_unpaid (plain_of xs)) (neither (action_of xs) a b))
