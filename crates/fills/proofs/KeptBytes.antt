-- What no fill touches comes out byte for byte: a record of the starting table, and the whole of it.
use Prim.Native.Nat.{ℕ, ◌+◌, ◌/◌, ◌<◌}
use mathlib.Core.Path.{◌≡◌, refl, sym, ap, ◌∙◌}
use mathlib.Core.Bool.{Bool, true, false, cond, false≢true}
use mathlib.Core.List.{List, [], ◌∷◌, ◌++◌, map, map-append, flatten}
use native.Mathlib.Omega.{arith}
use lib.Dec.{eqb}
use lib.ListN.{length}
use Rattle.records.specs.Bytes.{AllBytes}
use Rattle.records.specs.Chunks.{records_of}
use Rattle.records.specs.Legs.{contracts_from, with_paid, leg_of, leg_bytes}
use Rattle.records.specs.Lines.{same_line_side}
use Rattle.records.specs.Lists.{All}
use Rattle.records.specs.Tables.{good_record, legs_of}
use Rattle.records.specs.declared.legs.Leg.{Leg}
use Rattle.records.specs.declared.tables.Kind.TheVariants.{Holdings}
use Rattle.records.proofs.ChunkLaws.{chunks_each}
use Rattle.records.proofs.JoinLaws.{join_cut}
use Rattle.records.proofs.LineLaws.{with_line_lem, paid_line}
use Rattle.records.proofs.ListLaws.{map_all}
use Rattle.records.proofs.RecordLaws.{record_back}
use Rattle.records.proofs.TableLaws.{fields_good}
use Rattle.fills.specs.Fills.{is_open, fill_leg}
use Rattle.fills.specs.Rows.{more, fewer, opened, closed, merged_into, merged_rows, bytes_of, unmarked, starting_legs}
use Rattle.fills.specs.Played.{number_over, rows_after, played_over}
use Rattle.fills.specs.Calls.{rows_played}
use Rattle.fills.specs.Ledger.{Apart}
use Rattle.fills.specs.Balance.{accepted_over}
use Rattle.fills.specs.Demands.{Untouched, UntouchedStays, StartingStays}
use Rattle.fills.proofs.PartLaws.{all_mid}
use Rattle.fills.proofs.ResultLaws.{Passed, passed, opened_new, merged_apart, left_records}
use Rattle.fills.proofs.RowLaws.{all_opened}
use Rattle.fills.proofs.BytesLaws.{records_back}
use Rattle.fills.proofs.UnpaidLaws.{starting_is, unpaid_same}

-- l stands among these
abbrev In : {A : Type 0} → A → List A → Type 0
In {A} l rows = (before : List A) × (after : List A) × (rows ≡ before ++ l ∷ after)

-- ---- a row stays where no other row, and no accepted fill, is of its line and side

module _ (l : Leg) where
  abbrev Other : Leg → Type 0
  Other y = same_line_side y l ≡ false

  opened_beside : (y : Leg) (us vs : List Leg) → Other y → In l (opened y (us ++ l ∷ vs))
  unfolding opened
  opened_beside y [] vs e = ([], opened y vs, rw e)
  opened_beside y (u ∷ us) vs e = go (same_line_side y u) (opened_beside y us vs e)
    where
      go : (b : Bool) → In l (opened y (us ++ l ∷ vs)) → In l (cond b (more u y ∷ (us ++ l ∷ vs)) (u ∷ opened y (us ++ l ∷ vs)))
      go true s = (more u y ∷ us, vs, refl)
      go false s = (u ∷ s.0, s.1, ap (λ (t : List Leg). u ∷ t) s.2)

  closed_beside : (y : Leg) (us vs : List Leg) → Other y → In l (closed y (us ++ l ∷ vs))
  unfolding closed
  closed_beside y [] vs e = ([], closed y vs, rw e)
  closed_beside y (u ∷ us) vs e = go (same_line_side y u) (eqb u.contracts.0 y.contracts.0) (closed_beside y us vs e)
    where
      go : (b s : Bool) → In l (closed y (us ++ l ∷ vs)) → In l (cond b (cond s [] (fewer u y ∷ []) ++ (us ++ l ∷ vs)) (u ∷ closed y (us ++ l ∷ vs)))
      go true true r = (us, vs, refl)
      go true false r = (fewer u y ∷ us, vs, refl)
      go false s r = (u ∷ r.0, r.1, ap (λ (t : List Leg). u ∷ t) r.2)

  in_opened : (y : Leg) (rows : List Leg) → Other y → In l rows → In l (opened y rows)
  in_opened y rows e s = rw s.2 (opened_beside y s.0 s.1 e)

  in_closed : (y : Leg) (rows : List Leg) → Other y → In l rows → In l (closed y rows)
  in_closed y rows e s = rw s.2 (closed_beside y s.0 s.1 e)

  in_merged : (rows legs : List Leg) → In l rows → All Other legs → In l (merged_into rows legs)
  unfolding merged_into
  in_merged rows [] s a = s
  in_merged rows (x ∷ xs) s a = in_merged (opened x rows) xs (in_opened x rows a.0 s) a.1

  merged_new : (rows before after : List Leg) → All Other rows → All Other before → All Other after → In l (merged_into rows (before ++ l ∷ after))
  unfolding merged_into
  merged_new rows [] after r b a = in_merged (opened l rows) after (rows, [], opened_new l rows r) a
  merged_new rows (x ∷ xs) after r b a =
      merged_new (opened x rows) xs after
      (all_opened Other x rows (λ y k e. with_line_lem y l (contracts_from (y.contracts.0 + x.contracts.0)) ∙ k) b.0 r) b.1 a

  in_after : (rows : List Leg) (f : List ℕ) → In l rows → (eqb (number_over rows f) 0 ≡ true → Other (fill_leg f)) → In l (rows_after rows f)
  unfolding rows_after
  in_after rows f s h = go (eqb (number_over rows f) 0) (is_open f) h
    where
      go : (b o : Bool) → (b ≡ true → Other (fill_leg f)) → In l (cond b (cond o (opened (fill_leg f) rows) (closed (fill_leg f) rows)) rows)
      go true true h = in_opened (fill_leg f) rows (h refl) s
      go true false h = in_closed (fill_leg f) rows (h refl) s
      go false o h = s

  -- of a fill, and of those after it
  accepted_parts : (b : Bool) (f : List ℕ) (rest : List (List ℕ)) → All (λ x. Other (fill_leg x)) (cond b (f ∷ []) [] ++ rest)
      → (b ≡ true → Other (fill_leg f)) × All (λ x. Other (fill_leg x)) rest
  accepted_parts true f rest a = (λ e. a.0, a.1)
  accepted_parts false f rest a = (λ e. absurd (false≢true e), a)

  in_over : (rows : List Leg) (fills : List (List ℕ)) → In l rows → All (λ x. Other (fill_leg x)) (accepted_over rows fills) → In l (played_over rows fills)
  unfolding played_over accepted_over
  in_over rows [] s a = s
  in_over rows (f ∷ fs) s a =
      let p = accepted_parts (eqb (number_over rows f) 0) f (accepted_over (rows_after rows f) fs) a in
      in_over (rows_after rows f) fs (in_after rows f s p.0) p.1

-- ---- a record

unmarked_same : (x : List ℕ) → (leg_of x).paid ≡ 0 → unmarked x ≡ leg_of x
unfolding unmarked with_paid
unmarked_same x p = ap (with_paid (leg_of x)) (sym p)

module _ (h f x : List ℕ) (u : Untouched h f x) where
  starting : starting_legs h ≡ map unmarked u.before ++ leg_of x ∷ map unmarked u.after
  unfolding starting_legs
  starting =
      ap (map unmarked) u.stands
      ∙ map-append unmarked u.before (x ∷ u.after)
      ∙ ap (λ (l : Leg). map unmarked u.before ++ l ∷ map unmarked u.after) (unmarked_same x u.unpaid)

  others : (rs : List (List ℕ)) → All (λ y. same_line_side (leg_of y) (leg_of x) ≡ false) rs → All (λ y. same_line_side y (leg_of x) ≡ false) (map unmarked rs)
  unfolding unmarked
  others rs a =
      map_all unmarked (λ y. same_line_side y (leg_of x) ≡ false) (λ y. same_line_side (leg_of y) (leg_of x) ≡ false) rs (λ y e. paid_line (leg_of y) (leg_of x) 0 ∙ e) a

  row_stays : In (leg_of x) (rows_played h f)
  unfolding rows_played
  row_stays =
      in_over (leg_of x) (merged_rows (starting_legs h)) (records_of f)
      (rw starting (merged_new (leg_of x) [] (map unmarked u.before) (map unmarked u.after) tt (others u.before u.first) (others u.after u.last)))
      u.played

bytes_in : (l : Leg) (rows : List Leg) → In l rows → In (leg_bytes l) (records_of (bytes_of rows))
bytes_in l rows s =
    (map leg_bytes s.0, map leg_bytes s.1, records_back rows ∙ ap (map leg_bytes) s.2 ∙ map-append leg_bytes s.0 (l ∷ s.1))

module _ (h f : List ℕ) (p : Passed h f) (a : AllBytes h) where
  all_bytes : All AllBytes (records_of h)
  all_bytes = chunks_each (λ b. b < 256) 32 (length h / 32) h a

  all_good : All (λ r. good_record Holdings r ≡ true) (records_of h)
  all_good = fields_good Holdings h p.tabled.fields

  record_stays : (x : List ℕ) → Untouched h f x → In x (records_of (bytes_of (rows_played h f)))
  record_stays x u =
      let of-x : (P : List ℕ → Type 0) → All P (records_of h) → P x = λ P q. all_mid P u.before u.after x (rw u.stands at q) in
      let same : leg_bytes (leg_of x) ≡ x = record_back 0 x (of-x AllBytes all_bytes) (of-x (λ r. good_record Holdings r ≡ true) all_good) in
      rw same at (bytes_in (leg_of x) (rows_played h f) (row_stays h f x u))

  -- ---- the whole table

  each_record : (rs : List (List ℕ)) → All AllBytes rs → All (λ r. good_record Holdings r ≡ true) rs → bytes_of (map leg_of rs) ≡ flatten rs
  unfolding bytes_of flatten
  each_record [] b g = refl
  each_record (r ∷ rs) b g = rw (record_back 0 r b.0 g.0, each_record rs b.1 g.1)

  table_back : bytes_of (legs_of h) ≡ h
  unfolding legs_of
  table_back = each_record (records_of h) all_bytes all_good ∙ join_cut 32 (length h / 32) h (omega (arith, p.tabled.whole))

pub untouched_stays : UntouchedStays
untouched_stays h f result indices numbers n k a e x u =
    let q = passed h f (length result) indices numbers n k e in
    rw (left_records (rows_played h f) result n k q.1) (record_stays h f q.0 a x u)

-- where no fill is accepted

none_after : (rows : List Leg) (f : List ℕ) (rest : List (List ℕ)) → cond (eqb (number_over rows f) 0) (f ∷ []) [] ++ rest ≡ []
    → (rows_after rows f ≡ rows) × (rest ≡ [])
unfolding rows_after
none_after rows f rest e = go (eqb (number_over rows f) 0) e
  where
    go : (b : Bool) → cond b (f ∷ []) [] ++ rest ≡ []
        → (cond b (cond (is_open f) (opened (fill_leg f) rows) (closed (fill_leg f) rows)) rows ≡ rows) × (rest ≡ [])
    go true q = absurd (omega (arith, ap length q))
    go false q = (refl, q)

none_played : (rows : List Leg) (fills : List (List ℕ)) → accepted_over rows fills ≡ [] → played_over rows fills ≡ rows
unfolding accepted_over played_over
none_played rows [] e = refl
none_played rows (f ∷ fs) e =
    let s = none_after rows f (accepted_over (rows_after rows f) fs) e in none_played (rows_after rows f) fs s.1 ∙ s.0

legs_stay : (h f : List ℕ) → Apart (legs_of h) → All (λ l. l.paid ≡ 0) (legs_of h) → accepted_over (merged_rows (starting_legs h)) (records_of f) ≡ []
    → rows_played h f ≡ legs_of h
unfolding rows_played
legs_stay h f apart marks e =
    let legs : starting_legs h ≡ legs_of h = starting_is h ∙ unpaid_same (legs_of h) marks in
    none_played (merged_rows (starting_legs h)) (records_of f) e ∙ ap merged_rows legs ∙ merged_apart [] (legs_of h) apart

pub starting_stays : StartingStays
starting_stays h f result indices numbers n k a e apart marks none =
    let q = passed h f (length result) indices numbers n k e in
    rw (legs_stay h f apart marks none, table_back h f q.0 a)
