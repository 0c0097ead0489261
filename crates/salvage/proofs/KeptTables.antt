-- The tables of kept blocks: the writer takes them, where they are within their limits.
use Rattle.std.specs.Prelude.{Ok}
use mathlib.Core.Path.{◌≡◌, refl}
use mathlib.Core.Bool.{Bool, true, false, cond}
use mathlib.Core.List.{List, [], ◌∷◌}
use Prim.Native.Nat.{ℕ, ◌+◌, ◌*◌, ◌/◌, ◌%◌, ◌≤◌}
use native.Mathlib.Omega.{arith}
use lib.ListN.{length}
use borrow.Author.Tests.{eq-eqb, eqb-true}
use Rattle.records.specs.Lists.{All, keep, sum_of}
use Rattle.records.specs.Order.{first_of}
use Rattle.records.specs.Tables.{table_number, in_limit, whole_table, whole_tables}
use Rattle.records.specs.declared.tables.Kind.{Kind}
use Rattle.records.specs.declared.tables.Kind.TheVariants.{Holdings, Placement, Claims}
use Rattle.records.proofs.ListLaws.{all_map}
use Rattle.records.proofs.PassLaws.{Pass, unclear}
use Rattle.blocks.specs.Forms.{named}
use Rattle.blocks.specs.Block.{origin_of, kind_of}
use Rattle.blocks.specs.File.{count_as, records_as, joined, tables_of, within_limits, fields_of}
use Rattle.blocks.specs.Alone.{own_tables}
use Rattle.blocks.specs.Writer.{taken_tables, write_checks}
use Rattle.blocks.specs.Steps.Bounds.{Sized}
use Rattle.blocks.specs.declared.forms.Origin.{Origin}
use Rattle.blocks.proofs.Laws.{kind_from, shape_is, length_joined, some_not_empty, GoodRecords, pass_good, good_pass, table_of_lem, own_records, good_joined, SoundAlone, sound_sized}
use Rattle.salvage.specs.Kept.{drop_number, is_kept, kept_of}
use Rattle.salvage.specs.Steps.AllKept.{AllKept}
use Rattle.salvage.proofs.SoundLaws.{kept_is}

pub keep_holds : {A : Type 0} (t : A → Bool) (l : List A) → All (λ x. t x ≡ true) (keep t l)
unfolding keep
keep_holds t [] = tt
keep_holds t (x ∷ l) = go (t x) refl (keep_holds t l)
  where
    go : (b : Bool) → t x ≡ b → All (λ y. t y ≡ true) (keep t l) → All (λ y. t y ≡ true) (cond b (x ∷ keep t l) (keep t l))
    go true e r = (e, r)
    go false e r = r

pub kept_all : (lead : Origin) (bs : List (List ℕ)) → AllKept lead (kept_of lead bs)
unfolding kept_of
kept_all lead bs = all_map (keep (is_kept lead) bs) (λ b e. eqb-true (drop_number lead b) 0 e) (keep_holds (is_kept lead) bs)

pub kept_sound : (lead : Origin) (bs : List (List ℕ)) → AllKept lead bs → All SoundAlone bs
kept_sound lead bs a = all_map bs (λ b e. (kept_is lead b e).0) a

pub sized_all : (bs : List (List ℕ)) → All SoundAlone bs → All Sized bs
sized_all bs a = all_map bs (λ b s. sound_sized b s) a

-- ---- each field in its range

sound_records : (kind : Kind) (b : List ℕ) → SoundAlone b → GoodRecords kind (records_as kind b)
sound_records kind b s = rw (own_records kind b) at (pass_good (own_tables b) s.fields kind)

fields_pass : (bs : List (List ℕ)) → All SoundAlone bs → Pass (fields_of (tables_of bs))
fields_pass bs a =
    good_pass (tables_of bs) (λ kind. rw (table_of_lem kind bs) (good_joined kind bs (sized_all bs a) (all_map bs (λ b s. sound_records kind b s) a)))

-- ---- within their limits, and not empty

pub limits_whole : (bs : List (List ℕ)) → All Sized bs
    → whole_tables (length (joined Holdings bs)) (length (joined Placement bs)) (length (joined Claims bs)) ≡ within_limits bs
unfolding within_limits
limits_whole bs s =
    let one : (kind : Kind) → whole_table kind (length (joined kind bs)) ≡ in_limit kind (sum_of (count_as kind) bs) =
    λ kind. whole kind (length (joined kind bs)) (sum_of (count_as kind) bs) (length_joined kind bs s) in
    rw (one Holdings, one Placement, one Claims)
  where
    whole : (kind : Kind) (bytes n : ℕ) → bytes ≡ 32 * n → whole_table kind bytes ≡ in_limit kind n
    whole kind bytes n e =
        let q : bytes / 32 ≡ n = omega arith in
        rw (eq-eqb (bytes % 32) 0 (omega arith), q)

some_records : (bs : List (List ℕ)) → All SoundAlone bs → 1 ≤ length bs
    → 1 ≤ length (joined Holdings bs) + length (joined Placement bs) + length (joined Claims bs)
unfolding sum_of
some_records [] a h = absurd (omega arith)
some_records (b ∷ bs) a h =
    let head = (shape_is (origin_of b).form b a.0.shape).head in
    let k = kind_from (kind_of b) head.kind.0 head.kind.1 in
    by k.0
    (rw (length_joined k.0 (b ∷ bs) (sized_all (b ∷ bs) a), eq-eqb (kind_of b) (table_number k.0) k.1) (omega (arith, head.count.0)))
  where
    by : (kind : Kind) → 1 ≤ length (joined kind (b ∷ bs))
        → 1 ≤ length (joined Holdings (b ∷ bs)) + length (joined Placement (b ∷ bs)) + length (joined Claims (b ∷ bs))
    by Holdings q = omega arith
    by Placement q = omega arith
    by Claims q = omega arith

lead_named : (lead : Origin) (bs : List (List ℕ)) → AllKept lead bs → 1 ≤ length bs → named lead.form lead.account ≡ true
lead_named lead [] a h = absurd (omega arith)
lead_named lead (b ∷ bs) a h = let k = kept_is lead b a.0 in rw k.1 at k.0.account

-- the writer has no refusal but 17
pub writes_kept : (lead : Origin) (bs : List (List ℕ)) → AllKept lead bs → 1 ≤ length bs → within_limits bs ≡ true
    → first_of (write_checks lead (tables_of bs)) ≡ Ok tt
unfolding write_checks taken_tables tables_of
writes_kept lead bs a n w =
    let sound = kept_sound lead bs a in
    let some = some_not_empty (length (joined Holdings bs)) (length (joined Placement bs)) (length (joined Claims bs)) (some_records bs sound n) in
    unclear (write_checks lead (tables_of bs))
    (rw (limits_whole bs (sized_all bs sound), w) some, (lead_named lead bs a n, fields_pass bs sound))
