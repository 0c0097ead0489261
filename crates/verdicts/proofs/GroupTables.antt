-- The records of one group as a table of their own: its group is the same, and its call answers as before.
use mathlib.Core.Path.{◌≡◌, refl, sym}
use mathlib.Core.Bool.{Bool, true}
use mathlib.Core.List.{List, [], ◌∷◌, ◌++◌, append-nil, flatten}
use Prim.Native.Nat.{ℕ, ◌+◌, ◌*◌, ◌/◌, ◌%◌, ◌≤◌}
use native.Mathlib.Omega.{arith}
use lib.Dec.{eqb}
use lib.ListN.{length}
use borrow.Author.Tests.{eq-eqb, ne_eqb, le-leb}
use Rattle.records.specs.Chunks.{chunks, chunk_at, records_of}
use Rattle.records.specs.Legs.{leg_of}
use Rattle.records.specs.Lists.{keep, All}
use Rattle.records.specs.Tables.{most_legs, good_record, field_checks, table_checks, whole_table, legs_of}
use Rattle.records.specs.declared.legs.Leg.{Leg}
use Rattle.records.specs.declared.tables.Kind.TheVariants.{Placement}
use Rattle.records.proofs.ChunkLaws.{chunks_more, chunks_whole, length_chunks}
use Rattle.records.proofs.JoinLaws.{flatten_append, flatten_one, length_flatten, records_joined}
use Rattle.records.proofs.ListLaws.{all_keep, length_keep, keep_map, keep_keep, keep_append}
use Rattle.records.proofs.PassLaws.{Pass, clear, unclear, pass_left, pass_right, pass_both, pass_each, each_pass}
use Rattle.records.proofs.TableLaws.{whole}
use Rattle.spreads.specs.Calls.{group_checks}
use Rattle.spreads.specs.Spreads.{group_of, group_in, group_rule}
use Rattle.spreads.proofs.Laws.{rule_to_spread, spread_to_rule}
use Rattle.verdicts.specs.Steps.Groups.{GroupPasses, group_table, worksheet_lines}

-- ---- those of one group

abbrev of_group : ℕ → List ℕ → Bool
of_group g r = eqb (leg_of r).group g

parts_whole : (g i : ℕ) (xs : List ℕ) → 32 * i ≤ length xs → All (λ r. length r ≡ 32) (keep (of_group g) (chunks 32 i xs))
parts_whole g i xs h = all_keep (λ r. length r ≡ 32) (of_group g) (chunks 32 i xs) (chunks_whole 32 i xs h)

-- ---- the loop that copies them: those of the first i records

unfoldable pub copied_to : ℕ → List ℕ → ℕ → List ℕ
copied_to g xs i = flatten (keep (of_group g) (chunks 32 i xs))

module _ (g : ℕ) (xs : List ℕ) where
  pub copied_none : [] ≡ copied_to g xs 0
  unfolding copied_to chunks keep flatten
  copied_none = refl

  module _ (i : ℕ) where
    copied_next : copied_to g xs (i + 1) ≡ copied_to g xs i ++ flatten (keep (of_group g) (chunk_at 32 xs i ∷ []))
    unfolding copied_to
    copied_next =
        rw (chunks_more 32 i xs, keep_append (of_group g) (chunks 32 i xs) (chunk_at 32 xs i ∷ []))
        (flatten_append (keep (of_group g) (chunks 32 i xs)) (keep (of_group g) (chunk_at 32 xs i ∷ [])))

    module _ {l : Leg} (is : l ≡ leg_of (chunk_at 32 xs i)) where
      pub copied_in : l.group ≡ g → copied_to g xs i ++ chunk_at 32 xs i ≡ copied_to g xs (i + 1)
      unfolding keep
      copied_in e = rw (copied_next, ← is, eq-eqb l.group g e, flatten_one (chunk_at 32 xs i))

      pub copied_out : (l.group ≡ g → ⊥) → copied_to g xs i ≡ copied_to g xs (i + 1)
      unfolding keep flatten
      copied_out e = rw (copied_next, ← is, ne_eqb l.group g e) (sym (append-nil (copied_to g xs i)))

    -- no more than there are
    pub copied_short : 32 * i ≤ length xs → length (copied_to g xs i) ≤ 32 * i
    unfolding copied_to
    copied_short h =
        omega (
          arith,
          length_flatten 32 (keep (of_group g) (chunks 32 i xs)) (parts_whole g i xs h),
          length_keep (of_group g) (chunks 32 i xs),
          length_chunks 32 i xs,
        )

  pub copied_all : copied_to g xs (length xs / 32) ≡ group_table xs g
  unfolding copied_to group_table
  copied_all = refl

-- ---- the table of them

module _ (xs : List ℕ) (g : ℕ) where
  abbrev parts : List (List ℕ)
  parts = keep (of_group g) (records_of xs)

  whole_parts : All (λ r. length r ≡ 32) parts
  whole_parts = parts_whole g (length xs / 32) xs (omega arith)

  table_records : records_of (group_table xs g) ≡ parts
  unfolding group_table
  table_records = records_joined parts whole_parts

  -- its legs are those of the group
  table_legs : legs_of (group_table xs g) ≡ group_in xs g
  unfolding legs_of group_of
  table_legs = rw table_records (keep_map leg_of (λ l. eqb l.group g) (records_of xs))

  table_group : group_in (group_table xs g) g ≡ group_in xs g
  unfolding group_of
  table_group = rw table_legs (keep_keep (λ l. eqb l.group g) (legs_of xs))

  pub table_lines : worksheet_lines (group_table xs g) g ≡ worksheet_lines xs g
  table_lines = rw table_group

  -- refusals would name other records of it; but it is a spread just as the group is
  table_rule : Pass (group_rule g (legs_of xs)) → Pass (group_rule g (legs_of (group_table xs g)))
  table_rule p = spread_to_rule g (legs_of (group_table xs g)) (rw table_group (rule_to_spread g (legs_of xs) p))

  length_table : length (group_table xs g) ≡ 32 * length parts
  unfolding group_table
  length_table = length_flatten 32 parts whole_parts

  -- no longer than the placement
  table_whole : whole_table Placement (length xs) ≡ true → whole_table Placement (length (group_table xs g)) ≡ true
  table_whole w =
      let n = length (group_table xs g) in
      let rest : n % 32 ≡ 0 = omega (arith, length_table) in
      let few : n / 32 ≤ most_legs =
      omega (arith, length_table, length_keep (of_group g) (records_of xs), length_chunks 32 (length xs / 32) xs, whole Placement (length xs) w) in
      rw (rest, le-leb (n / 32) most_legs few)

  table_fields : Pass (field_checks Placement xs) → Pass (field_checks Placement (group_table xs g))
  unfolding field_checks
  table_fields p =
      each_pass (good_record Placement) 4 2 0 (records_of (group_table xs g))
      (rw table_records (all_keep (λ r. good_record Placement r ≡ true) (of_group g) (records_of xs) (pass_each (good_record Placement) 4 2 0 (records_of xs) p)))

  pub table_answered : GroupPasses xs g → GroupPasses (group_table xs g) g
  unfolding group_checks table_checks
  table_answered a =
      let p = clear (group_checks xs g) a in
      let t = pass_left (table_checks Placement xs) (group_rule g (legs_of xs)) p in
      unclear (group_checks (group_table xs g) g)
      (pass_both (table_checks Placement (group_table xs g)) (group_rule g (legs_of (group_table xs g)))
      (table_whole t.0, table_fields t.1)
      (table_rule (pass_right (table_checks Placement xs) (group_rule g (legs_of xs)) p)))

  pub placement_short : GroupPasses xs g → length xs ≤ 8192
  unfolding group_checks table_checks
  placement_short a =
      let t = pass_left (table_checks Placement xs) (group_rule g (legs_of xs)) (clear (group_checks xs g) a) in
      omega (arith, whole Placement (length xs) t.0)
