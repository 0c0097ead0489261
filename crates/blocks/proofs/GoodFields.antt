-- Each field in its range: of a table, of blocks one after the other, and of each of them.
use mathlib.Core.Path.{◌≡◌, refl, ◌∙◌}
use mathlib.Core.Bool.{true}
use mathlib.Core.List.{List, [], ◌∷◌, ◌++◌, append-nil, flat_map}
use Prim.Native.Nat.{ℕ}
use Rattle.records.specs.Chunks.{chunks, records_of}
use Rattle.records.specs.Lists.{All}
use Rattle.records.specs.Tables.{good_record, table_number, field_checks, fields_checks}
use Rattle.records.specs.declared.tables.Kind.{Kind}
use Rattle.records.specs.declared.tables.Kind.TheVariants.{Holdings, Placement, Claims}
use Rattle.records.proofs.ChunkLaws.{records_append}
use Rattle.records.proofs.ListLaws.{all_append}
use Rattle.records.proofs.PassLaws.{Pass, pass_left, pass_right, pass_both, pass_each, each_pass}
use Rattle.blocks.specs.File.{Tables, table_of, count_as, records_as, joined, tables_of, fields_of}
use Rattle.blocks.specs.Alone.{own_tables}
use Rattle.blocks.specs.Steps.Bounds.{Sized}
use Rattle.blocks.proofs.FileLaws.{length_records_as}

module _ {A : Type 0} (P : A → Type 0) where
  pub all_left : (a b : List A) → All P (a ++ b) → All P a
  all_left [] b p = tt
  all_left (x ∷ a) b p = (p.0, all_left a b p.1)

  pub all_right : (a b : List A) → All P (a ++ b) → All P b
  all_right [] b p = p
  all_right (x ∷ a) b p = all_right a b p.1

abbrev pub GoodRecords : Kind → List ℕ → Type 0
GoodRecords kind table = All (λ x. good_record kind x ≡ true) (records_of table)

pub pass_good : (t : Tables) → Pass (fields_of t) → (kind : Kind) → GoodRecords kind (table_of kind t)
unfolding fields_checks field_checks
pass_good t p Holdings = pass_each (good_record Holdings) 4 (table_number Holdings) 0 (records_of t.holdings) (pass_left (field_checks Holdings t.holdings) _ p)
pass_good t p Placement =
    pass_each (good_record Placement) 4 (table_number Placement) 0 (records_of t.placement)
    (pass_left (field_checks Placement t.placement) _ (pass_right (field_checks Holdings t.holdings) _ p))
pass_good t p Claims =
    pass_each (good_record Claims) 4 (table_number Claims) 0 (records_of t.claims)
    (pass_right (field_checks Placement t.placement) _ (pass_right (field_checks Holdings t.holdings) _ p))

pub good_pass : (t : Tables) → ((kind : Kind) → GoodRecords kind (table_of kind t)) → Pass (fields_of t)
unfolding fields_checks field_checks
good_pass t g =
    let one : (kind : Kind) → Pass (field_checks kind (table_of kind t)) =
    λ kind. each_pass (good_record kind) 4 (table_number kind) 0 (records_of (table_of kind t)) (g kind) in
    pass_both (field_checks Holdings t.holdings) _ (one Holdings) (pass_both (field_checks Placement t.placement) _ (one Placement) (one Claims))

pub table_of_lem : (kind : Kind) (bs : List (List ℕ)) → table_of kind (tables_of bs) ≡ joined kind bs
unfolding tables_of
table_of_lem Holdings bs = refl
table_of_lem Placement bs = refl
table_of_lem Claims bs = refl

pub own_records : (kind : Kind) (b : List ℕ) → table_of kind (own_tables b) ≡ records_as kind b
unfolding flat_map
own_records kind b = table_of_lem kind (b ∷ []) ∙ append-nil (records_as kind b)

-- of blocks one after the other, and of each
pub good_joined : (kind : Kind) (bs : List (List ℕ)) → All Sized bs → All (λ b. GoodRecords kind (records_as kind b)) bs → GoodRecords kind (joined kind bs)
unfolding flat_map chunks
good_joined kind [] s g = tt
good_joined kind (b ∷ bs) s g =
    rw (records_append (count_as kind b) (records_as kind b) (joined kind bs) (length_records_as kind b s.0))
    (all_append (λ x. good_record kind x ≡ true) (records_of (records_as kind b)) (records_of (joined kind bs)) g.0 (good_joined kind bs s.1 g.1))

pub good_parts : (kind : Kind) (bs : List (List ℕ)) → All Sized bs → GoodRecords kind (joined kind bs) → All (λ b. GoodRecords kind (records_as kind b)) bs
unfolding flat_map
good_parts kind [] s g = tt
good_parts kind (b ∷ bs) s g =
    let P : List ℕ → Type 0 = λ x. good_record kind x ≡ true in
    let both : All P (records_of (records_as kind b) ++ records_of (joined kind bs)) =
    rw (records_append (count_as kind b) (records_as kind b) (joined kind bs) (length_records_as kind b s.0)) at g in (
      all_left P (records_of (records_as kind b)) (records_of (joined kind bs)) both,
      good_parts kind bs s.1 (all_right P (records_of (records_as kind b)) (records_of (joined kind bs)) both),
    )
