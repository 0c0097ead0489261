-- Contracts are neither made nor lost: what each accepted fill opens or closes, summed by line and side.
use Prim.Native.Nat.{ℕ, ◌+◌, ◌≤◌}
use mathlib.Core.Path.{◌≡◌, refl, ◌∙◌}
use mathlib.Core.Bool.{Bool, true, false, cond, ◌&&◌, and-eq-true_iff}
use mathlib.Core.List.{List, [], ◌∷◌, ◌++◌}
use native.Mathlib.Decide.{dec_le}
use native.Mathlib.Omega.{arith}
use lib.Dec.{eqb}
use borrow.Author.Tests.{eqb-true, eqb-false, eq-eqb}
use Rattle.records.specs.Lines.{same_line_side, contracts_of}
use Rattle.records.specs.Lists.{only, sum_of, All}
use Rattle.records.specs.Within.{within}
use Rattle.records.specs.declared.legs.Leg.{Leg}
use Rattle.records.proofs.LineLaws.{line_sym, swap_line}
use Rattle.records.proofs.ListLaws.{all_map}
use Rattle.records.proofs.Measures.{sum_append}
use Rattle.records.proofs.TableLaws.{within_true}
use Rattle.records.specs.Tables.{good_unpaid}
use Rattle.fills.specs.Fills.{action_of, is_open, is_close, plain_of, fill_leg, good_fill}
use Rattle.fills.specs.Rows.{held_of, opened, closed, merged_rows}
use Rattle.fills.specs.Played.{number_over, rows_after, played_over}
use Rattle.fills.specs.Ledger.{Ledger, empty_ledger, started_from, ledger_after, StandFor, Apart}
use Rattle.fills.specs.Balance.{accepted_over, opened_in, closed_in}
use Rattle.fills.specs.Demands.{ContractsKept}
use Rattle.fills.proofs.LedgerLaws.{fill_good, fill_close, after_stands, start_stands, ledger_stands}
use Rattle.fills.proofs.MergeLaws.{held_opened, held_merged}
use Rattle.fills.proofs.RowLaws.{held_like, held_closed}

-- ---- rows apart: the contracts of a line and side are those of its one row

contracts_more : (x y : Leg) (ys : List Leg) → contracts_of x (y ∷ ys) ≡ only (same_line_side x y) y.contracts.0 + contracts_of x ys
unfolding contracts_of sum_of
contracts_more x y ys = refl

-- none in rows of which no row is of it
pub contracts_apart : (x : Leg) (rows : List Leg) → All (λ y. same_line_side y x ≡ false) rows → contracts_of x rows ≡ 0
unfolding contracts_of sum_of
contracts_apart x [] a = refl
contracts_apart x (y ∷ ys) a =
    let no : only (same_line_side x y) y.contracts.0 ≡ 0 = rw (line_sym x y, a.0) in
    omega (arith, no, contracts_more x y ys, contracts_apart x ys a.1)

contracts_none : (x z : Leg) (rows : List Leg) → same_line_side x z ≡ true → All (λ w. same_line_side z w ≡ false) rows → contracts_of x rows ≡ 0
contracts_none x z rows e a = contracts_apart x rows (all_map rows (λ w h. line_sym w x ∙ swap_line x z w e ∙ h) a)

contracts_held : (x : Leg) (rows : List Leg) → Apart rows → contracts_of x rows ≡ held_of x rows
unfolding contracts_of sum_of held_of
contracts_held x [] a = refl
contracts_held x (y ∷ ys) a = contracts_more x y ys ∙ go (same_line_side x y) refl (contracts_held x ys a.1)
  where
    go : (b : Bool) → same_line_side x y ≡ b → contracts_of x ys ≡ held_of x ys
        → only (same_line_side x y) y.contracts.0 + contracts_of x ys ≡ cond (same_line_side x y) y.contracts.0 (held_of x ys)
    go true e r = rw e (omega (arith, contracts_none x y ys e a.0))
    go false e r = rw e (omega arith)

-- ---- one fill

module _ (x : Leg) (f : List ℕ) where
  here : Bool
  here = same_line_side x (fill_leg f)

  lot : ℕ
  lot = (fill_leg f).contracts.0

  opens : (b : Bool) → is_open f ≡ b → opened_in x (f ∷ []) ≡ cond b (only here lot) 0
  unfolding opened_in sum_of here lot
  opens true e = rw e (omega arith)
  opens false e = rw e

  closes : (b : Bool) → is_close f ≡ b → closed_in x (f ∷ []) ≡ cond b (only here lot) 0
  unfolding closed_in sum_of here lot
  closes true e = rw e (omega arith)
  closes false e = rw e

  none_opened : opened_in x [] ≡ 0
  unfolding opened_in sum_of
  none_opened = refl

  none_closed : closed_in x [] ≡ 0
  unfolding closed_in sum_of
  none_closed = refl

-- an action is one of the two
opens_only : (f : List ℕ) → is_open f ≡ true → is_close f ≡ false
opens_only f e = rw (eqb-true (action_of f) 1 e)

closes_only : (f : List ℕ) → good_fill f ≡ true → is_open f ≡ false → is_close f ≡ true
unfolding good_fill
closes_only f g e =
    let w = within_true 1 2 (action_of f) ((and-eq-true_iff (within 1 2 (action_of f)) (good_unpaid (plain_of f))).0 g).0 in
    elim (dec_le (action_of f) 1) [
      | yes h ↦ absurd (eqb-false (action_of f) 1 e (omega (arith, w.0)))
      | no h ↦ eq-eqb (action_of f) 2 (omega (arith, w.1))
    ]

module _ (x : Leg) (rows : List Leg) (g : Ledger) (s : StandFor rows g) (f : List ℕ) where
  accepted : List (List ℕ)
  accepted = cond (eqb (number_over rows f) 0) (f ∷ []) []

  Even : List Leg → List (List ℕ) → Type 0
  Even after fills = held_of x after + closed_in x fills ≡ held_of x rows + opened_in x fills

  open_even : is_open f ≡ true → Even (opened (fill_leg f) rows) (f ∷ [])
  unfolding Even here lot
  open_even q = omega (arith, held_opened x (fill_leg f) rows, opens x f true q, closes x f false (opens_only f q))

  close_even : is_open f ≡ false → good_fill f ≡ true → (fill_leg f).contracts.0 ≤ held_of (fill_leg f) rows → Even (closed (fill_leg f) rows) (f ∷ [])
  unfolding Even here lot
  close_even q good enough = go (same_line_side x (fill_leg f)) refl
    where
      go : (b : Bool) → same_line_side x (fill_leg f) ≡ b → held_of x (closed (fill_leg f) rows) + closed_in x (f ∷ []) ≡ held_of x rows + opened_in x (f ∷ [])
      go true e =
          let h = rw (line_sym (fill_leg f) x ∙ e) at (held_closed (fill_leg f) x rows s.apart) in
          let c = rw e at (closes x f true (closes_only f good q)) in
          omega (arith, h, c, opens x f false q, held_like x (fill_leg f) rows e)
      go false e =
          let h = rw (line_sym (fill_leg f) x ∙ e) at (held_closed (fill_leg f) x rows s.apart) in
          let c = rw e at (closes x f true (closes_only f good q)) in
          omega (arith, h, c, opens x f false q)

  step_even : Even (rows_after rows f) accepted
  unfolding Even accepted rows_after number_over
  step_even = go (eqb (number_over rows f) 0) refl (is_open f) refl
    where
      go : (b : Bool) → eqb (number_over rows f) 0 ≡ b → (o : Bool) → is_open f ≡ o
          → Even (cond b (cond o (opened (fill_leg f) rows) (closed (fill_leg f) rows)) rows) (cond b (f ∷ []) [])
      go true e true q = open_even q
      go true e false q =
          let z = eqb-true (number_over rows f) 0 e in
          close_even q (fill_good (held_of (fill_leg f) rows) _ f z) (fill_close (held_of (fill_leg f) rows) _ f z q)
      go false e o q = omega (arith, none_opened x f, none_closed x f)

-- ---- any list of fills

opened_append : (x : Leg) (a b : List (List ℕ)) → opened_in x (a ++ b) ≡ opened_in x a + opened_in x b
unfolding opened_in
opened_append x a b = sum_append (λ f. only (is_open f && same_line_side x (fill_leg f)) (fill_leg f).contracts.0) a b

closed_append : (x : Leg) (a b : List (List ℕ)) → closed_in x (a ++ b) ≡ closed_in x a + closed_in x b
unfolding closed_in
closed_append x a b = sum_append (λ f. only (is_close f && same_line_side x (fill_leg f)) (fill_leg f).contracts.0) a b

over_even : (x : Leg) (rows : List Leg) (g : Ledger) (fills : List (List ℕ)) → StandFor rows g
    → held_of x (played_over rows fills) + closed_in x (accepted_over rows fills) ≡ held_of x rows + opened_in x (accepted_over rows fills)
unfolding played_over accepted_over Even accepted
over_even x rows g [] s = omega (arith, none_opened x [], none_closed x [])
over_even x rows g (f ∷ fs) s =
    let one : Even x rows g s f (rows_after rows f) (accepted x rows g s f) = step_even x rows g s f in
    let rest = over_even x (rows_after rows f) (ledger_after g f) fs (after_stands rows g s f) in
    omega (
      arith,
      one,
      rest,
      opened_append x (accepted x rows g s f) (accepted_over (rows_after rows f) fs),
      closed_append x (accepted x rows g s f) (accepted_over (rows_after rows f) fs),
    )

pub contracts_kept : ContractsKept
contracts_kept legs fills a x =
    let start = start_stands legs a in
    omega (
      arith,
      contracts_held x (played_over (merged_rows legs) fills) (ledger_stands legs fills a).apart,
      held_merged x legs,
      over_even x (merged_rows legs) (started_from empty_ledger legs) fills start,
    )
