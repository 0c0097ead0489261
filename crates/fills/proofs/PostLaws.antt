-- A posting that is done, or refused with its number.
use Rattle.std.specs.Prelude.{Option, None, Some}
use Prim.Native.Nat.{ℕ, suc, ◌+◌, ◌-◌, ◌≤◌, ◌<◌, min}
use mathlib.Core.Path.{◌≡◌, refl, sym, ap, ◌∙◌}
use mathlib.Core.Bool.{Bool, true, false, not, cond, false≢true, and-eq-true_iff}
use mathlib.Core.List.{List}
use mathlib.Core.Logic.{∥∥₁_elim}
use mathlib.Core.HLevel.{⊥_prop}
use native.Mathlib.Decide.{dec_le}
use native.Mathlib.Omega.{arith}
use lib.Dec.{eqb}
use lib.ListN.{length, get_or, set}
use borrow.Author.Tests.{le-leb, lt-leb, eq-eqb, ne_eqb}
use Rattle.records.specs.Legs.{in_range, contracts_from, plus_contracts}
use Rattle.records.specs.Lines.{same_line_side}
use Rattle.records.specs.Limits.{most_legs, most_contracts}
use Rattle.records.specs.declared.counts.Contracts.{Contracts}
use Rattle.records.specs.declared.legs.Leg.{Leg}
use Rattle.records.proofs.LineLaws.{swap_line}
use Rattle.records.proofs.TableLaws.{ranges}
use Rattle.fills.specs.Rows.{held_of, opened, closed}
use Rattle.fills.specs.Played.{open_number, close_number}
use Rattle.fills.specs.Steps.Links.{bucket_of, is_row, Ended}
use Rattle.fills.specs.Steps.Standing.{rows_to, Live, Stand, refused_with}
use Rattle.fills.proofs.HeldLaws.{rows_others, lot_held, lot_opened, lot_closed}
use Rattle.fills.proofs.LinkLaws.{same_bucket}
use Rattle.fills.proofs.PlaceLaws.{held_none, opened_none}
use Rattle.fills.proofs.RowLaws.{rows_some}
use Rattle.fills.proofs.StandLaws.{stand_skip, stand_changed, stand_gone, stand_new, live_before}

-- a posting of record k with this number, 0 where it is not refused: rows `after` stand then, and `before` where it is
pub record Posted (leg : ℕ → Leg) (k number : ℕ) (after before : List Leg) (held links : List ℕ) (n : ℕ) (answer : Option ℕ) : Type 0 where
  pub answered : answer ≡ refused_with number
  pub stand : Stand leg (k + 1) held links n (cond (eqb number 0) after before)

-- record k opened, and closed, over n rows of the records before it
abbrev pub Opening : (ℕ → Leg) → ℕ → List ℕ → ℕ → List ℕ → List ℕ → ℕ → Option ℕ → Type 0
Opening leg k before n held links m answer =
    Posted leg k (open_number (held_of (leg k) (rows_to leg before k)) n (leg k).contracts.0) (opened (leg k) (rows_to leg before k)) (rows_to leg before k) held links m answer

abbrev pub Closing : (ℕ → Leg) → ℕ → List ℕ → List ℕ → List ℕ → ℕ → Option ℕ → Type 0
Closing leg k before held links m answer =
    Posted leg k (close_number (held_of (leg k) (rows_to leg before k)) (leg k).contracts.0) (closed (leg k) (rows_to leg before k)) (rows_to leg before k) held links m answer

module _ {leg : ℕ → Leg} {k refused : ℕ} {after before : List Leg} {held links : List ℕ} {n : ℕ} where
  posted_done : refused ≡ 0 → Stand leg (k + 1) held links n after → Posted leg k refused after before held links n None
  posted_done e s = record { answered = rw e; stand = rw e s }

  posted_not : (number : ℕ) → refused ≡ number → eqb number 0 ≡ false → Stand leg (k + 1) held links n before
      → Posted leg k refused after before held links n (Some number)
  posted_not number e z s = record { answered = rw (e, z); stand = rw (e, z) s }

-- ---- the numbers

pub open_done : (held lines n : ℕ) → 1 ≤ held → held + n ≤ most_contracts → open_number held lines n ≡ 0
open_done held lines n a b = rw (ne_eqb held 0 (λ e. omega arith), le-leb (held + n) most_contracts b)

pub open_past : (held lines n : ℕ) → 1 ≤ held → most_contracts < held + n → open_number held lines n ≡ 19
open_past held lines n a b = rw (ne_eqb held 0 (λ e. omega arith), lt-leb (held + n) most_contracts b)

pub open_new : (held lines n : ℕ) → held ≡ 0 → lines < most_legs → n ≤ most_contracts → open_number held lines n ≡ 0
open_new held lines n e a b = rw (eq-eqb held 0 e, lt-leb most_legs lines a, le-leb (held + n) most_contracts (omega arith))

pub open_full : (held lines n : ℕ) → held ≡ 0 → most_legs ≤ lines → open_number held lines n ≡ 19
open_full held lines n e a = rw (eq-eqb held 0 e, le-leb most_legs lines a)

pub close_done : (held n : ℕ) → n ≤ held → close_number held n ≡ 0
close_done held n h = rw (le-leb n held h)

pub close_past : (held n : ℕ) → held < n → close_number held n ≡ 18
close_past held n h = rw (lt-leb n held h)

false_where : (b : Bool) → (b ≡ true → ⊥) → b ≡ false
false_where true f = absurd (f refl)
false_where false f = refl

at_least_one : (a : ℕ) → (a ≡ 0 → ⊥) → 1 ≤ a
at_least_one a n =
    elim (dec_le 1 a) [
      | yes h ↦ h
      | no h ↦ absurd (n (omega arith))
    ]

-- ---- record k over rows that stand, the search for its line and side having ended at link `at`

module _ {leg : ℕ → Leg} {k : ℕ} {held links : List ℕ} {n : ℕ} (s : Stand leg k held links n (rows_to leg held k)) (small : k < 1280)
    (g : in_range 0 (leg k) ≡ true) (at : ℕ) (ended : Ended (is_row leg held (leg k)) links (bucket_of (leg k)) at) where
  abbrev size : ℕ
  size = (leg k).contracts.0

  size_fits : (1 ≤ size) × (size ≤ most_contracts)
  size_fits = (ranges 0 (leg k) g).contracts

  -- at a row
  module _ (n' : get_or links at 0 ≡ 0 → ⊥) where
    abbrev j : ℕ
    j = get_or links at 0 - 1

    t : get_or links at 0 ≡ suc j
    t = omega arith

    abbrev lot : ℕ
    lot = get_or held j 0

    row_is : (not (eqb lot 0) ≡ true) × (same_line_side (leg k) (leg j) ≡ true)
    row_is = (and-eq-true_iff (not (eqb lot 0)) (same_line_side (leg k) (leg j))).0 (ended.found j t)

    live : Live held j
    live e = false≢true (sym (ap not (eq-eqb lot 0 e)) ∙ row_is.0)

    some : 1 ≤ lot
    some = at_least_one lot live

    there : j < k
    there = live_before s j live

    room : j < length held
    room = omega (arith, there, s.held_room)

    pub inside : j < 1280
    inside = omega (arith, there)

    others : (i : ℕ) → (i ≡ j → ⊥) → Live held i → same_line_side (leg k) (leg i) ≡ false
    others i m l = false_where _ (λ a. m (s.apart i j l live (sym (swap_line (leg k) (leg i) (leg j) a) ∙ row_is.1)))

    held_is : held_of (leg k) (rows_to leg held k) ≡ lot
    held_is = lot_held leg held k j there room live (leg k) row_is.1 others

    pub rows_held : 1 ≤ n
    rows_held = omega (arith, rows_some (leg k) (rows_to leg held k) (omega (arith, held_is, some)), s.count)

    -- their sum, as code adds them
    pub add_done : (v : ℕ) → v ≡ min (lot + size) 4294967295 → v ≤ most_contracts → Opening leg k held n (set held j v) links n None
    add_done v e m =
        posted_done (rw held_is (open_done lot n size some (omega arith)))
        (rw (lot_opened leg held k j there room live (leg k) row_is.1 others v (omega arith))
        (stand_skip (stand_changed s small j live v (λ z. live (omega arith)))))

    pub add_past : (v : ℕ) → v ≡ min (lot + size) 4294967295 → most_contracts < v → Opening leg k held n held links n (Some 19)
    add_past v e m = posted_not 19 (rw held_is (open_past lot n size some (omega arith))) refl (stand_skip s)

    pub take_some : (m : ℕ) → m ≡ size → m < lot → Closing leg k held (set held j (lot - m)) links n None
    take_some m e h =
        posted_done (rw held_is (close_done lot size (omega arith)))
        (rw (lot_closed leg held k j there room live (leg k) row_is.1 others (lot - m) (omega arith) (omega arith))
        (stand_skip (stand_changed s small j live (lot - m) (λ z. omega arith))))

    pub take_all : (m : ℕ) → m ≡ size → m ≡ lot → Closing leg k held (set held j 0) (set links at (get_or links (1024 + j) 0)) (n - 1) None
    take_all m e h =
        posted_done (rw held_is (close_done lot size (omega arith)))
        (rw (lot_closed leg held k j there room live (leg k) row_is.1 others 0 (omega arith) (omega arith))
        (stand_skip (stand_gone s small j live at t)))

    pub take_past : (m : ℕ) → m ≡ size → lot ≤ m → (m ≡ lot → ⊥) → Closing leg k held held links n (Some 18)
    take_past m e h other = posted_not 18 (rw held_is (close_past lot size (omega arith))) refl (stand_skip s)

  -- at the free link: there is no row
  module _ (free : get_or links at 0 ≡ 0) where
    missing : (i : ℕ) → Live held i → same_line_side (leg k) (leg i) ≡ false
    missing i l =
        false_where _
        (λ a. ∥∥₁_elim (s.linked i l) ⊥_prop (λ d. ended.none free i (rw (same_bucket (leg k) (leg i) a) d) (rw (ne_eqb (get_or held i 0) 0 l, a))))

    held_not : held_of (leg k) (rows_to leg held k) ≡ 0
    held_not = held_none (leg k) (rows_to leg held k) (rows_others leg (leg k) held k (λ i h l. missing i l))

    pub new_done : n < most_legs → (v w : ℕ) → v ≡ size → w ≡ suc k → Opening leg k held n (set held k v) (set links at w) (n + 1) None
    new_done h v w e f =
        posted_done (open_new _ n size held_not h size_fits.1)
        (rw (opened_none (leg k) (rows_to leg held k) (rows_others leg (leg k) held k (λ i h l. missing i l)), f)
        (stand_new s small at ended.path free missing v e (λ z. omega (arith, size_fits.0)) h))

    pub new_full : most_legs ≤ n → Opening leg k held n held links n (Some 19)
    new_full h = posted_not 19 (open_full _ n size held_not h) refl (stand_skip s)

    pub take_none : Closing leg k held held links n (Some 18)
    take_none = posted_not 18 (close_past _ size (omega (arith, held_not, size_fits.0))) refl (stand_skip s)

-- ---- contracts as code adds them

pub sum_is : {a m : ℕ} {x y : Leg} {made sum : Contracts} → made ≡ contracts_from a → sum ≡ plus_contracts made x.contracts → m ≡ sum.0 → x ≡ y
    → m ≡ min (a + y.contracts.0) 4294967295
sum_is {a} em es en ex = rw (en, es, em) (ap (λ (l : Leg). min (a + l.contracts.0) 4294967295) ex)
