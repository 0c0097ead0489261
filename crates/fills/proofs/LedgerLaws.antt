-- The rows stand for the ledger, after any list of fills; and each fill is refused as the ledger says.
use Prim.Native.Nat.{ℕ, ◌+◌, ◌-◌, ◌≤◌}
use mathlib.Core.Path.{◌≡◌, refl, sym, ◌∙◌}
use mathlib.Core.Bool.{Bool, true, false, cond, ◌&&◌, and-eq-true_iff}
use mathlib.Core.List.{List, [], ◌∷◌}
use native.Mathlib.Decide.{dec_le}
use native.Mathlib.Omega.{arith}
use lib.Dec.{eqb}
use lib.ListN.{length}
use borrow.Author.Tests.{eqb-true, eqb-false, ne_eqb, lt-leb}
use Rattle.records.specs.Legs.{in_range}
use Rattle.records.specs.Lines.{same_line_side}
use Rattle.records.specs.Lists.{only}
use Rattle.records.specs.Within.{within}
use Rattle.records.specs.declared.legs.Leg.{Leg}
use Rattle.records.proofs.LineLaws.{line_sym}
use Rattle.records.proofs.TableLaws.{ranges}
use Rattle.records.specs.Tables.{good_unpaid}
use Rattle.fills.specs.Fills.{action_of, is_open, plain_of, fill_leg, good_fill}
use Rattle.fills.specs.Rows.{held_of, opened, closed, merged_into, merged_rows}
use Rattle.fills.specs.Played.{open_number, close_number, fill_number, number_over, rows_after, played_over, refused_over}
use Rattle.fills.specs.Ledger.{Ledger, empty_ledger, counts, posted, with_more, with_less, started_from, number_in, ledger_after, ledger_over, refused_by, StandFor, Filled}
use Rattle.fills.specs.Demands.{LedgerStands, LedgerRefuses, LedgerStarts}
use Rattle.fills.proofs.FillLaws.{good_range, plain_record, plain_unpaid}
use Rattle.fills.proofs.MergeLaws.{held_opened, held_merged}
use Rattle.fills.proofs.RowLaws.{held_like, held_closed, apart_opened, apart_closed, some_opened, some_closed, length_opened_is, length_closed_is, rows_some}

some_held : (n : ℕ) → eqb n 0 ≡ false → 1 ≤ n
some_held n k = elim (dec_le 1 n) [ yes h ↦ h | no h ↦ absurd (eqb-false n 0 k (omega arith)) ]

and_right : (a b : Bool) → (a && b) ≡ true → b ≡ true
and_right a b e = ((and-eq-true_iff a b).0 e).1

enough : (n held : ℕ) → close_number held n ≡ 0 → n ≤ held
enough n held e =
    elim (dec_le n held) [
      | yes h ↦ h
      | no h ↦ let q : close_number held n ≡ 18 = rw (lt-leb n held (omega arith)) in absurd (omega (arith, e, q))
    ]

-- ---- one leg opened or closed

module _ (x : Leg) (rows : List Leg) (g : Ledger) (s : StandFor rows g) (one : 1 ≤ x.contracts.0) where
  -- how many lines are held then
  opened_lines : (held : ℕ) → held_of x rows ≡ held → length (opened x rows) ≡ g.lines - counts held + counts (held + x.contracts.0)
  opened_lines held e =
      let o = length_opened_is x rows s.some in
      let c : counts (held + x.contracts.0) ≡ 1 = rw (ne_eqb (held + x.contracts.0) 0 (λ z. omega arith)) in
      rw c (go (eqb held 0) refl (rw e at o))
    where
      go : (b : Bool) → eqb held 0 ≡ b → length (opened x rows) ≡ length rows + (1 - counts held) → length (opened x rows) ≡ g.lines - counts held + 1
      go true k o = rw k (omega (arith, rw k at o, s.lines))
      go false k o = rw k (omega (arith, rw k at o, s.lines, rows_some x rows (rw e (some_held held k))))

  pub opened_stands : StandFor (opened x rows) (with_more x g)
  unfolding posted
  opened_stands =
      record {
        held = λ y. held_opened y x rows ∙ go y (same_line_side x y) refl;
        lines = opened_lines (g.held x) (s.held x);
        apart = apart_opened x rows s.apart;
        some = some_opened x rows one s.some;
      }
    where
      go : (y : Leg) (b : Bool) → same_line_side x y ≡ b
          → held_of y rows + only (same_line_side y x) x.contracts.0 ≡ cond (same_line_side x y) (g.held x + x.contracts.0) (g.held y)
      go y true e = rw (line_sym y x, e) (omega (arith, held_like x y rows e, s.held x))
      go y false e = rw (line_sym y x, e) (omega (arith, s.held y))

  module _ (enough : x.contracts.0 ≤ held_of x rows) where
    closed_lines : (held : ℕ) → held_of x rows ≡ held → length (closed x rows) ≡ g.lines - counts held + counts (held - x.contracts.0)
    closed_lines held e =
        let c : counts held ≡ 1 = rw (ne_eqb held 0 (λ z. omega arith)) in
        let o = rw e at (length_closed_is x rows one enough) in
        rw c (omega (arith, o, s.lines, rows_some x rows (omega arith)))

    pub closed_stands : StandFor (closed x rows) (with_less x g)
    unfolding posted
    closed_stands =
        record {
          held = λ y. held_closed x y rows s.apart ∙ rw (s.held x, s.held y);
          lines = closed_lines (g.held x) (s.held x);
          apart = apart_closed x rows s.apart;
          some = some_closed x rows enough s.some;
        }

-- ---- one fill

-- what a fill that is not refused says
module _ (held lines : ℕ) (xs : List ℕ) (z : fill_number held lines xs ≡ 0) where
  pub fill_good : good_fill xs ≡ true
  unfolding fill_number
  fill_good = go (good_fill xs) refl z
    where
      go : (b : Bool) → good_fill xs ≡ b
          → ◌≡◌ {A = ℕ} (cond b (cond (is_open xs) (open_number held lines (fill_leg xs).contracts.0) (close_number held (fill_leg xs).contracts.0)) 4) 0
          → good_fill xs ≡ true
      go true e q = e
      go false e q = absurd (omega (arith, q))

  fill_plain : good_unpaid (plain_of xs) ≡ true
  unfolding good_fill
  fill_plain = and_right (within 1 2 (action_of xs)) (good_unpaid (plain_of xs)) fill_good

  pub fill_unpaid : (fill_leg xs).paid ≡ 0
  fill_unpaid = plain_unpaid (plain_of xs) fill_plain

  pub fill_range : in_range 0 (fill_leg xs) ≡ true
  fill_range = good_range (plain_of xs) (plain_record (plain_of xs) fill_plain)

  pub fill_one : 1 ≤ (fill_leg xs).contracts.0
  fill_one = (ranges 0 (fill_leg xs) fill_range).contracts.0

  pub fill_open : is_open xs ≡ true → open_number held lines (fill_leg xs).contracts.0 ≡ 0
  unfolding fill_number
  fill_open o = rw (fill_good, o) at z

  pub fill_close : is_open xs ≡ false → (fill_leg xs).contracts.0 ≤ held
  unfolding fill_number
  fill_close o = enough (fill_leg xs).contracts.0 held (rw (fill_good, o) at z)

module _ (rows : List Leg) (g : Ledger) (s : StandFor rows g) (xs : List ℕ) where
  pub same_number : number_over rows xs ≡ number_in g xs
  unfolding number_over number_in
  same_number = rw (s.held (fill_leg xs), s.lines)

  pub after_stands : StandFor (rows_after rows xs) (ledger_after g xs)
  unfolding rows_after ledger_after number_over
  after_stands = rw (← same_number) (go (eqb (number_over rows xs) 0) refl (is_open xs) refl)
    where
      go : (b : Bool) → eqb (number_over rows xs) 0 ≡ b → (o : Bool) → is_open xs ≡ o
          → StandFor (cond b (cond o (opened (fill_leg xs) rows) (closed (fill_leg xs) rows)) rows) (cond b (cond o (with_more (fill_leg xs) g) (with_less (fill_leg xs) g)) g)
      go true e true q =
          let z = eqb-true (number_over rows xs) 0 e in
          opened_stands (fill_leg xs) rows g s (fill_one (held_of (fill_leg xs) rows) (length rows) xs z)
      go true e false q =
          let z = eqb-true (number_over rows xs) 0 e in
          closed_stands (fill_leg xs) rows g s (fill_one (held_of (fill_leg xs) rows) (length rows) xs z) (fill_close (held_of (fill_leg xs) rows) (length rows) xs z q)
      go false e o q = s

-- ---- any list of fills

over_stands : (rows : List Leg) (g : Ledger) (fills : List (List ℕ)) → StandFor rows g → StandFor (played_over rows fills) (ledger_over g fills)
unfolding played_over ledger_over
over_stands rows g [] s = s
over_stands rows g (f ∷ fs) s = over_stands (rows_after rows f) (ledger_after g f) fs (after_stands rows g s f)

over_refuses : (i : ℕ) (rows : List Leg) (g : Ledger) (fills : List (List ℕ)) → StandFor rows g → refused_over i rows fills ≡ refused_by i g fills
unfolding refused_over refused_by
over_refuses i rows g [] s = refl
over_refuses i rows g (f ∷ fs) s = rw (same_number rows g s f, over_refuses (i + 1) (rows_after rows f) (ledger_after g f) fs (after_stands rows g s f))

-- ---- the starting table

into_stands : (rows : List Leg) (g : Ledger) (legs : List Leg) → Filled legs → StandFor rows g → StandFor (merged_into rows legs) (started_from g legs)
unfolding merged_into started_from
into_stands rows g [] a s = s
into_stands rows g (x ∷ xs) a s = into_stands (opened x rows) (with_more x g) xs a.1 (opened_stands x rows g s a.0)

pub start_stands : (legs : List Leg) → Filled legs → StandFor (merged_rows legs) (started_from empty_ledger legs)
unfolding held_of
start_stands legs a = into_stands [] empty_ledger legs a (record { held = λ x. refl; lines = refl; apart = tt; some = tt })

-- ---- 'Each is answered as a plain ledger from line and side to contracts would.'

pub ledger_stands : LedgerStands
ledger_stands legs fills a = over_stands (merged_rows legs) (started_from empty_ledger legs) fills (start_stands legs a)

pub ledger_refuses : LedgerRefuses
ledger_refuses legs fills a = over_refuses 0 (merged_rows legs) (started_from empty_ledger legs) fills (start_stands legs a)

pub ledger_starts : LedgerStarts
ledger_starts legs a x = sym ((start_stands legs a).held x) ∙ held_merged x legs
