-- The result of a call that is not refused is a table of holdings, in which each line and side stands once.
use Rattle.std.specs.Prelude.{Result, Ok, Err}
use Prim.Native.Nat.{ℕ, suc, ◌+◌, ◌-◌, ◌*◌, ◌/◌, ◌%◌, ◌≤◌, ◌<◌}
use mathlib.Core.Path.{◌≡◌, refl, sym, ap, ◌∙◌}
use mathlib.Core.Bool.{Bool, true, false, cond, ◌&&◌}
use mathlib.Core.List.{List, [], ◌∷◌, ◌++◌, map, append_assoc, append-nil}
use native.Mathlib.Decide.{dec_le}
use native.Mathlib.Omega.{arith}
use lib.Dec.{eqb, leb}
use lib.ListN.{length, take, length-append}
use borrow.Author.Tests.{leb-true, le-leb, eq-eqb, eqb-true}
use Rattle.records.specs.Chunks.{chunks, records_of}
use Rattle.records.specs.Legs.{leg_bytes, leg_of, in_range, with_contracts, with_paid}
use Rattle.records.specs.Lines.{same_line_side, contracts_of}
use Rattle.records.specs.Lists.{All}
use Rattle.records.specs.Listed.{indices_of, numbers_of}
use Rattle.records.specs.Order.{Check, first_of}
use Rattle.records.specs.Limits.{most_legs, most_contracts}
use Rattle.records.specs.Tables.{good_record, table_checks, field_checks, check_call, whole_table}
use Rattle.records.specs.Written.{left_after}
use Rattle.records.specs.declared.legs.Leg.{Leg}
use Rattle.records.specs.declared.tables.Kind.TheVariants.{Holdings}
use Rattle.records.proofs.LegLaws.{contracts_range, paid_range, leg_good}
use Rattle.records.proofs.LineLaws.{line_sym}
use Rattle.records.proofs.ListLaws.{map_all}
use Rattle.records.proofs.PassLaws.{Pass, clear, unclear, pass_left, pass_right, pass_both, each_pass}
use Rattle.records.proofs.PutLaws.{put_front, left_stands}
use Rattle.records.proofs.TableLaws.{ranges, fields_good}
use Rattle.records.proofs.ChunkLaws.{length_rows}
use Rattle.fills.specs.Fills.{is_open, fill_leg}
use Rattle.fills.specs.Rows.{held_of, fewer, opened, closed, merged_into, merged_rows, bytes_of, unmarked, starting_legs}
use Rattle.fills.specs.Played.{open_number, number_over, rows_after, played_over, refused_over}
use Rattle.fills.specs.Calls.{play_start, ask_past, play_room, play_checks, rows_played, refused_in, play_answer, play_call, has_played}
use Rattle.fills.specs.Ledger.{Apart, Filled}
use Rattle.fills.specs.Demands.{CallStands, ResultSound, ResultUnpaid, ResultStays, LeftByPlay, PlayLeaves}
use Rattle.fills.proofs.BalanceLaws.{contracts_apart}
use Rattle.fills.proofs.FillLaws.{good_range}
use Rattle.fills.proofs.LedgerLaws.{fill_range, fill_unpaid, fill_open, fill_close, ledger_stands, ledger_refuses}
use Rattle.fills.proofs.MergeLaws.{held_merged, merged_snoc, length_opened}
use Rattle.fills.proofs.PartLaws.{all_mid}
use Rattle.fills.proofs.PlayLaws.{Tabled, tables_clear}
use Rattle.fills.proofs.RowLaws.{all_opened, all_closed, left_some, length_opened_is}
use Rattle.fills.proofs.BytesLaws.{length_bytes, records_back, legs_back}
use Rattle.fills.proofs.UnpaidLaws.{unpaid, starting_is, unpaid_same, start_same}
use Rattle.records.specs.declared.refusals.Refusal.{Refusal}
use Rattle.fills.specs.declared.calls.Tally.{Tally}
use Rattle.fills.specs.Calls.{tally}

-- rows that make a table of holdings
record Fine (rows : List Leg) : Type 0 where
  pub few : length rows ≤ most_legs
  pub good : All (λ l. in_range 0 l ≡ true) rows
  pub unpaid : All (λ l. l.paid ≡ 0) rows

filled : (rows : List Leg) → All (λ l. in_range 0 l ≡ true) rows → Filled rows
filled [] a = tt
filled (x ∷ xs) a = ((ranges 0 x a.0).contracts.0, filled xs a.1)

-- ---- they stay so

good_opened : (x : Leg) (rows : List Leg) → in_range 0 x ≡ true → held_of x rows + x.contracts.0 ≤ most_contracts
    → All (λ l. in_range 0 l ≡ true) rows → All (λ l. in_range 0 l ≡ true) (opened x rows)
good_opened x rows g h a =
    all_opened (λ l. in_range 0 l ≡ true) x rows
    (λ y k e. contracts_range 0 (y.contracts.0 + x.contracts.0) y k (omega (arith, (ranges 0 x g).contracts.0)) (omega arith)) g a

good_closed : (x : Leg) (rows : List Leg) → x.contracts.0 ≤ held_of x rows
    → All (λ l. in_range 0 l ≡ true) rows → All (λ l. in_range 0 l ≡ true) (closed x rows)
good_closed x rows h a =
    all_closed (λ l. in_range 0 l ≡ true) x rows
    (λ y k e n. contracts_range 0 (y.contracts.0 - x.contracts.0) y k (left_some y.contracts.0 x.contracts.0 (omega arith) n) (omega (arith, (ranges 0 y k).contracts.1))) a

unpaid_opened : (x : Leg) (rows : List Leg) → x.paid ≡ 0 → All (λ l. l.paid ≡ 0) rows → All (λ l. l.paid ≡ 0) (opened x rows)
unfolding with_contracts
unpaid_opened x rows p a = all_opened (λ l. l.paid ≡ 0) x rows (λ y k e. k) p a

unpaid_closed : (x : Leg) (rows : List Leg) → All (λ l. l.paid ≡ 0) rows → All (λ l. l.paid ≡ 0) (closed x rows)
unfolding with_contracts
unpaid_closed x rows a = all_closed (λ l. l.paid ≡ 0) x rows (λ y k e n. k) a

length_closed : (x : Leg) (rows : List Leg) → length (closed x rows) ≤ length rows
unfolding closed
length_closed x [] = omega arith
length_closed x (y ∷ ys) = go (same_line_side x y) (eqb y.contracts.0 x.contracts.0) (length_closed x ys)
  where
    go : (b s : Bool) → length (closed x ys) ≤ length ys → length (cond b (cond s [] (fewer y x ∷ []) ++ ys) (y ∷ closed x ys)) ≤ suc (length ys)
    go true true h = omega arith
    go true false h = omega arith
    go false s h = omega arith

-- what an opening that is not refused says
opens_fits : (held lines n : ℕ) → open_number held lines n ≡ 0 → held + n ≤ most_contracts
opens_fits held lines n e = go (eqb held 0 && leb most_legs lines) e
  where
    go : (b : Bool) → ◌≡◌ {A = ℕ} (cond b 19 (cond (leb (held + n) most_contracts) 0 19)) 0 → held + n ≤ most_contracts
    go true q = absurd (omega (arith, q))
    go false q = fits (leb (held + n) most_contracts) refl q
      where
        fits : (b : Bool) → leb (held + n) most_contracts ≡ b → ◌≡◌ {A = ℕ} (cond b 0 19) 0 → held + n ≤ most_contracts
        fits true k q = leb-true (held + n) most_contracts k
        fits false k q = absurd (omega (arith, q))

opens_room : (held lines n : ℕ) → open_number held lines n ≡ 0 → held ≡ 0 → lines < most_legs
opens_room held lines n e z =
    elim (dec_le most_legs lines) [
      | yes h ↦ let q : open_number held lines n ≡ 19 = rw (eq-eqb held 0 z, le-leb most_legs lines h) in absurd (omega (arith, e, q))
      | no h ↦ omega arith
    ]

fine_opened : (x : Leg) (rows : List Leg) → in_range 0 x ≡ true → x.paid ≡ 0 → open_number (held_of x rows) (length rows) x.contracts.0 ≡ 0 → Fine rows → Fine (opened x rows)
fine_opened x rows g u e f =
    record {
      few = go (eqb (held_of x rows) 0) refl (length_opened_is x rows (filled rows f.good));
      good = good_opened x rows g (opens_fits (held_of x rows) (length rows) x.contracts.0 e) f.good;
      unpaid = unpaid_opened x rows u f.unpaid;
    }
  where
    go : (b : Bool) → eqb (held_of x rows) 0 ≡ b → length (opened x rows) ≡ length rows + (1 - cond b 0 1) → length (opened x rows) ≤ most_legs
    go true k o = omega (arith, o, opens_room (held_of x rows) (length rows) x.contracts.0 e (eqb-true (held_of x rows) 0 k))
    go false k o = omega (arith, o, f.few)

fine_closed : (x : Leg) (rows : List Leg) → x.contracts.0 ≤ held_of x rows → Fine rows → Fine (closed x rows)
fine_closed x rows h f =
    record {
      few = omega (arith, length_closed x rows, f.few);
      good = good_closed x rows h f.good;
      unpaid = unpaid_closed x rows f.unpaid;
    }

fine_after : (rows : List Leg) (xs : List ℕ) → Fine rows → Fine (rows_after rows xs)
unfolding rows_after number_over
fine_after rows xs f = go (eqb (number_over rows xs) 0) refl (is_open xs) refl
  where
    go : (b : Bool) → eqb (number_over rows xs) 0 ≡ b → (o : Bool) → is_open xs ≡ o
        → Fine (cond b (cond o (opened (fill_leg xs) rows) (closed (fill_leg xs) rows)) rows)
    go true e true q =
        let z = eqb-true (number_over rows xs) 0 e in
        let held = held_of (fill_leg xs) rows in
        fine_opened (fill_leg xs) rows (fill_range held (length rows) xs z) (fill_unpaid held (length rows) xs z) (fill_open held (length rows) xs z q) f
    go true e false q =
        let z = eqb-true (number_over rows xs) 0 e in
        fine_closed (fill_leg xs) rows (fill_close (held_of (fill_leg xs) rows) (length rows) xs z q) f
    go false e o q = f

fine_over : (rows : List Leg) (fills : List (List ℕ)) → Fine rows → Fine (played_over rows fills)
unfolding played_over
fine_over rows [] f = f
fine_over rows (x ∷ xs) f = fine_over (rows_after rows x) xs (fine_after rows x f)

-- ---- the starting rows

-- the records before, merged: in range, not marked, and no more than they were
record Started (before : List Leg) : Type 0 where
  pub good : All (λ l. in_range 0 l ≡ true) (merged_rows before)
  pub unpaid : All (λ l. l.paid ≡ 0) (merged_rows before)
  pub few : length (merged_rows before) ≤ length before

started : (before rest : List Leg) (i : ℕ) → Started before → Pass (ask_past before i rest) → All (λ l. in_range 0 l ≡ true) rest → All (λ l. l.paid ≡ 0) rest → Started (before ++ rest)
unfolding ask_past
started before [] i s p a u = rw (append-nil before) s
started before (x ∷ xs) i s p a u =
    let h = leb-true (contracts_of x before + x.contracts.0) most_contracts p.0 in
    let g = good_opened x (merged_rows before) a.0 (omega (arith, held_merged x before)) s.good in
    let l : length (before ++ x ∷ []) ≡ length before + 1 = length-append before (x ∷ []) in
    let next : Started (before ++ x ∷ []) =
    record {
      good = rw (merged_snoc before x) g;
      unpaid = rw (merged_snoc before x) (unpaid_opened x (merged_rows before) u.0 s.unpaid);
      few = rw (merged_snoc before x) (omega (arith, length_opened x (merged_rows before), s.few));
    } in
    rw (← append_assoc before (x ∷ []) xs) (started (before ++ x ∷ []) xs (i + 1) next p.1 a.1 u.1)

-- ---- a call that is not refused

same_tally : {t u : Tally} → ◌≡◌ {A = Result Tally Refusal} (Ok t) (Ok u) → t ≡ u
same_tally e = cc

tally_rows : {rows refused n k : ℕ} → ◌≡◌ {A = Result Tally Refusal} (Ok (tally rows refused)) (Ok (tally n k)) → rows ≡ n
tally_rows e = ap (λ (t : Tally). t.rows) (same_tally e)

tally_refused : {rows refused n k : ℕ} → ◌≡◌ {A = Result Tally Refusal} (Ok (tally rows refused)) (Ok (tally n k)) → refused ≡ k
tally_refused e = ap (λ (t : Tally). t.refused) (same_tally e)

pub record Passed (h f : List ℕ) : Type 0 where
  pub tabled : Tabled h f
  pub lots : Pass (ask_past [] 0 (starting_legs h))

pub passed : (h f : List ℕ) (result indices numbers n k : ℕ) → play_call h f result indices numbers ≡ Ok (tally n k) → Passed h f × (n ≡ length (rows_played h f))
unfolding play_call play_checks
passed h f result indices numbers n k e = go (first_of checks) refl e
  where
    room : List Check
    room = play_room (length f / 32) result indices numbers

    checks : List Check
    checks = play_start h f ++ (ask_past [] 0 (starting_legs h) ++ room)

    go : (v : Result Unit Refusal) → first_of checks ≡ v → play_answer v (length (rows_played h f)) (length (refused_in h f)) ≡ Ok (tally n k) → Passed h f × (n ≡ length (rows_played h f))
    go (Ok tt) q r =
        let p = clear checks q in (
          record {
            tabled = tables_clear h f (unclear (play_start h f) (pass_left (play_start h f) (ask_past [] 0 (starting_legs h) ++ room) p));
            lots = pass_left (ask_past [] 0 (starting_legs h)) room (pass_right (play_start h f) (ask_past [] 0 (starting_legs h) ++ room) p);
          },
          sym (tally_rows r),
        )
    go (Err x) q r = let z : ◌≡◌ {A = ℕ} 0 1 = cc in absurd (omega arith)

legs_good : (h : List ℕ) → first_of (field_checks Holdings h) ≡ Ok tt → All (λ l. in_range 0 l ≡ true) (starting_legs h)
unfolding starting_legs unmarked
legs_good h e =
    map_all unmarked (λ l. in_range 0 l ≡ true) (λ r. good_record Holdings r ≡ true) (records_of h) (λ r g. paid_range 0 0 (leg_of r) (good_range r g) (omega arith))
    (fields_good Holdings h e)

each_unpaid : (rs : List (List ℕ)) → All (λ l. l.paid ≡ 0) (map unmarked rs)
unfolding unmarked with_paid
each_unpaid [] = tt
each_unpaid (r ∷ rs) = (refl, each_unpaid rs)

legs_unpaid : (h : List ℕ) → All (λ l. l.paid ≡ 0) (starting_legs h)
unfolding starting_legs
legs_unpaid h = each_unpaid (records_of h)

length_starting : (h : List ℕ) → length (starting_legs h) ≡ length h / 32
unfolding starting_legs
length_starting h = length_rows unmarked h

none_started : Started []
unfolding merged_into
none_started = record { good = tt; unpaid = tt; few = omega arith }

module _ (h f : List ℕ) (p : Passed h f) where
  rows_fine : Fine (rows_played h f)
  unfolding rows_played
  rows_fine =
      let s = started [] (starting_legs h) 0 none_started p.lots (legs_good h p.tabled.fields) (legs_unpaid h) in
      fine_over (merged_rows (starting_legs h)) (records_of f)
      (record { few = omega (arith, s.few, length_starting h, p.tabled.torn); good = s.good; unpaid = s.unpaid })

  rows_apart : Apart (rows_played h f)
  unfolding rows_played
  rows_apart = (ledger_stands (starting_legs h) (records_of f) (filled (starting_legs h) (legs_good h p.tabled.fields))).apart

listed : (h f : List ℕ) (result indices numbers n k : ℕ) → play_call h f result indices numbers ≡ Ok (tally n k) → k ≡ length (refused_in h f)
unfolding play_call
listed h f result indices numbers n k e = go (first_of (play_checks h f result indices numbers)) e
  where
    go : (v : Result Unit Refusal) → play_answer v (length (rows_played h f)) (length (refused_in h f)) ≡ Ok (tally n k) → k ≡ length (refused_in h f)
    go (Ok tt) r = sym (tally_refused r)
    go (Err x) r = let z : ◌≡◌ {A = ℕ} 0 1 = cc in absurd (omega arith)

-- ---- its table

records_good : (rows : List Leg) → All (λ l. in_range 0 l ≡ true) rows → All (λ r. good_record Holdings r ≡ true) (records_of (bytes_of rows))
records_good rows a =
    rw (records_back rows) (map_all leg_bytes (λ r. good_record Holdings r ≡ true) (λ l. in_range 0 l ≡ true) rows (λ l e. leg_good 0 l e) a)

whole_bytes : (rows : List Leg) → Fine rows → whole_table Holdings (length (bytes_of rows)) ≡ true
whole_bytes rows f =
    let l = length_bytes rows in
    rw (eq-eqb (length (bytes_of rows) % 32) 0 (omega arith), le-leb (length (bytes_of rows) / 32) most_legs (omega (arith, f.few)))

table_sound : (rows : List Leg) → Fine rows → check_call Holdings (bytes_of rows) ≡ Ok (length rows)
unfolding check_call table_checks field_checks
table_sound rows f =
    let l = length_bytes rows in
    let q : length (bytes_of rows) / 32 ≡ length rows = omega arith in
    let p : Pass (table_checks Holdings (bytes_of rows)) = (whole_bytes rows f, each_pass (good_record Holdings) 4 1 0 (records_of (bytes_of rows)) (records_good rows f.good)) in
    rw (unclear (table_checks Holdings (bytes_of rows)) p, q)

pub result_sound : ResultSound
result_sound h f result indices numbers n k e =
    let p = passed h f result indices numbers n k e in
    table_sound (rows_played h f) (rows_fine h f p.0) ∙ ap Ok (sym p.1)

-- 'replayed holdings get mark 0'
pub result_unpaid : ResultUnpaid
result_unpaid h f result indices numbers n k e =
    let fine = rows_fine h f (passed h f result indices numbers n k e).0 in
    rw (legs_back (rows_played h f)) fine.unpaid

-- ---- played over by no fills

-- rows that are not marked are started from as they are
starting_same : (rows : List Leg) → Fine rows → starting_legs (bytes_of rows) ≡ rows
starting_same rows f = starting_is (bytes_of rows) ∙ ap (map unpaid) (legs_back rows) ∙ unpaid_same rows f.unpaid

pub opened_new : (x : Leg) (rows : List Leg) → All (λ y. same_line_side y x ≡ false) rows → opened x rows ≡ rows ++ x ∷ []
unfolding opened
opened_new x [] a = refl
opened_new x (y ∷ ys) a = rw (line_sym x y, a.0, opened_new x ys a.1)

apart_front : (a b : List Leg) (x : Leg) → Apart (a ++ x ∷ b) → All (λ y. same_line_side y x ≡ false) a
apart_front [] b x p = tt
apart_front (y ∷ a) b x p = (all_mid (λ w. same_line_side y w ≡ false) a b x p.0, apart_front a b x p.1)

-- rows that are apart already
pub merged_apart : (rows legs : List Leg) → Apart (rows ++ legs) → merged_into rows legs ≡ rows ++ legs
unfolding merged_into
merged_apart rows [] a = sym (append-nil rows)
merged_apart rows (x ∷ xs) a =
    rw (opened_new x rows (apart_front rows xs x a))
    (merged_apart (rows ++ x ∷ []) xs (rw (append_assoc rows (x ∷ []) xs) a) ∙ append_assoc rows (x ∷ []) xs)

again : (rows : List Leg) → Fine rows → Apart rows → rows_played (bytes_of rows) [] ≡ rows
unfolding rows_played played_over chunks
again rows f a = rw (starting_same rows f) (merged_apart [] rows a)

-- no fill is played, and none refused
none_refused : (h : List ℕ) → refused_in h [] ≡ []
unfolding refused_in refused_over chunks
none_refused h = refl

past_apart : (before rest : List Leg) (i : ℕ) → Apart (before ++ rest) → All (λ l. in_range 0 l ≡ true) rest → Pass (ask_past before i rest)
unfolding ask_past
past_apart before [] i a g = tt
past_apart before (x ∷ xs) i a g = (
  le-leb (contracts_of x before + x.contracts.0) most_contracts
      (omega (arith, contracts_apart x before (apart_front before xs x a), (ranges 0 x g.0).contracts.1)),
  past_apart (before ++ x ∷ []) xs (i + 1) (rw (append_assoc before (x ∷ []) xs) a) g.1,
)

-- a table of rows apart, played over by no fills, is refused nothing
again_clear : (rows : List Leg) (room i j : ℕ) → Fine rows → Apart rows → 8192 ≤ room → first_of (play_checks (bytes_of rows) [] room i j) ≡ Ok tt
unfolding play_checks play_start field_checks play_room
again_clear rows room i j f a h =
    let w = whole_bytes rows f in
    let fields : Pass (play_start (bytes_of rows) []) =
    (rw w, each_pass (good_record Holdings) 4 1 0 (records_of (bytes_of rows)) (records_good rows f.good)) in
    let lots : Pass (ask_past [] 0 (starting_legs (bytes_of rows))) = rw (starting_same rows f) (past_apart [] rows 0 a f.good) in
    let room-there : Pass (play_room 0 room i j) = (le-leb 8192 room h, (rw (le-leb 0 i (omega arith), le-leb 0 j (omega arith)), tt)) in
    unclear (play_checks (bytes_of rows) [] room i j)
    (pass_both (play_start (bytes_of rows) []) (ask_past [] 0 (starting_legs (bytes_of rows)) ++ play_room 0 room i j) fields
    (pass_both (ask_past [] 0 (starting_legs (bytes_of rows))) (play_room 0 room i j) lots room-there))

again_done : (rows : List Leg) (room i j : ℕ) → Fine rows → Apart rows → 8192 ≤ room → play_call (bytes_of rows) [] room i j ≡ Ok (tally (length rows) 0)
unfolding play_call
again_done rows room i j f a h = rw (again_clear rows room i j f a h, again rows f a, none_refused (bytes_of rows))

-- the records that a call leaves at the front of its result
pub left_records : (rows : List Leg) (result : List ℕ) (n k : ℕ) → n ≡ length rows → take (32 * n) (left_after (has_played (Ok (tally n k))) (bytes_of rows) result) ≡ bytes_of rows
left_records rows result n k e =
    let m : 32 * n ≡ length (bytes_of rows) = omega (arith, length_bytes rows) in
    rw m (put_front result (bytes_of rows))

pub result_stays : ResultStays
result_stays h f result indices numbers n k e room i j r =
    let q = passed h f (length result) indices numbers n k e in
    let rows = rows_played h f in
    let fine = rows_fine h f q.0 in
    let apart = rows_apart h f q.0 in
    rw (left_records rows result n k q.1) (again_done rows room i j fine apart r ∙ ap (λ (m : ℕ). (Ok (tally m 0))) (sym q.1), ap bytes_of (again rows fine apart))

-- ---- rows and ledger of a call

pub call_stands : CallStands
unfolding rows_played refused_in
call_stands h f result indices numbers n k e =
    let p = (passed h f result indices numbers n k e).0 in
    let some = filled (starting_legs h) (legs_good h p.tabled.fields) in
    rw (← start_same h) (ledger_stands (starting_legs h) (records_of f) some, ledger_refuses (starting_legs h) (records_of f) some)

-- ---- what is left in the lent slices

pub play_leaves : PlayLeaves
play_leaves h f d i m = go (play_call h f (length d) (length i) (length m)) refl
  where
    go : (r : Result Tally Refusal) → play_call h f (length d) (length i) (length m) ≡ r → LeftByPlay r h f d i m
    go (Ok t) e = (
      length_bytes (rows_played h f) ∙ ap (λ (n : ℕ). 32 * n) (sym (passed h f (length d) (length i) (length m) t.rows t.refused e).1),
      sym (listed h f (length d) (length i) (length m) t.rows t.refused e),
      left_stands d (bytes_of (rows_played h f)),
      left_stands i (indices_of (refused_in h f)),
      left_stands m (numbers_of (refused_in h f)),
    )
    go (Err r) e = (refl, refl, refl)
