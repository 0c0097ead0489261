use Rattle.std.specs.Prelude.{Result, Err}
use Rattle.std.proofs.Common.{◌≡◌, ◌+◌, ◌*◌, ◌/◌, ◌<◌, ◌≤◌, ℕ, List, [], sym, ap, ◌∙◌, length, arith}
use lib.ListN.{get_or}
use Rattle.records.specs.Chunks.{chunks, chunk_at, records_of}
use Rattle.records.specs.Lists.{All}
use Rattle.records.specs.Order.{first_of}
use Rattle.records.specs.Tables.{table_number, good_record, field_checks}
use Rattle.records.specs.declared.refusals.Refusal.{Refusal}
use Rattle.records.specs.declared.tables.Kind.{Kind}
use Rattle.records.proofs.OrderLaws.{or_else, moved, ask_none}
use Rattle.blocks.specs.File.{blocks_of, count_as, records_as, joined}
use Rattle.blocks.specs.Steps.Bounds.{Sized}
use Rattle.blocks.proofs.FileLaws.{blocks_from, blocks_all, blocks_step, blocks_none, blocks_long, few_as, length_records_as, sized_at, part_is_as, joined_none}
use Rattle.blocks.proofs.FieldLaws.{fault_from, fault_step, fault_place}
use Rattle.blocks.proofs.fields.kind_fault.Goals as goal

none : (kind : Kind) (f : List ℕ) (i : ℕ) → length f / 512 ≤ i → records_of (joined kind (blocks_from f i)) ≡ []
unfolding chunks
none kind f i h = rw (joined_none kind (blocks_from f i) (blocks_none f i h))

-- this block, block i: how many records of the kind it has, and what is found from here on, by what is found in it
module _ (kind : Kind) (f : List ℕ) (bs : List (List ℕ)) (i : ℕ) (p : List ℕ) (x : Result Unit Refusal) (all : All Sized (blocks_of f))
    (e : bs ≡ blocks_of f) (h : i < length bs) (q : p ≡ records_as kind (get_or bs i [])) (fault : x ≡ first_of (field_checks kind p)) where
  sized : Sized (chunk_at 512 f i)
  sized = sized_at f i (part_is_as kind f bs i p e h q).0 all

  counted : (length p ≡ 32 * count_as kind (chunk_at 512 f i)) × (count_as kind (chunk_at 512 f i) ≤ 15)
  counted =
      let b = chunk_at 512 f i in
      (ap length (part_is_as kind f bs i p e h q).1 ∙ length_records_as kind b sized, few_as kind b sized)

  found : x ≡ first_of (field_checks kind (records_as kind (chunk_at 512 f i)))
  found = fault ∙ ap (λ (s : List ℕ). first_of (field_checks kind s)) (part_is_as kind f bs i p e h q).1

  step : (first : ℕ) (y : Result Unit Refusal) → x ≡ y
      → fault_from kind first (blocks_from f i) ≡ or_else (moved first y) (fault_from kind (first + count_as kind (chunk_at 512 f i)) (blocks_from f (i + 1)))
  step first y w =
      fault_step kind (chunk_at 512 f i) sized first (blocks_from f i) (blocks_from f (i + 1)) (blocks_step f i (part_is_as kind f bs i p e h q).0)
      ∙ rw (sym found ∙ w)

  place : (r : Refusal) → x ≡ Err r → r.place < count_as kind (chunk_at 512 f i)
  place r w = fault_place kind (chunk_at 512 f i) sized r (sym found ∙ w)

pub loop-block-init : goal.loop-block-init
unfolding field_checks
loop-block-init c = (c.blocks_of-block-items.ensures.value, omega arith, rw (blocks_all c.args.file.now))

pub loop-block-preserved : goal.loop-block-preserved
loop-block-preserved c =
    let l = c.loop-block in
    let k = counted c.args.kind c.args.file.now _ l.block-index _ _ c.requires l.invariant.0 c.loop-block-test.true c.records_as-part.ensures.value c.field_fault.ensures in
    let n : length c.records_as-part.result.now / 32 ≡ count_as c.args.kind (chunk_at 512 c.args.file.now l.block-index) = omega (arith, k.0) in
    let found = step c.args.kind c.args.file.now _ l.block-index _ _ c.requires l.invariant.0 c.loop-block-test.true c.records_as-part.ensures.value c.field_fault.ensures l.first _ c.in_default.is in
    (l.invariant.0, omega (arith, n, k.1, l.invariant.1), l.invariant.2 ∙ found ∙ rw n)

pub overflow_add-result : goal.overflow_add-result
overflow_add-result c =
    let l = c.loop-block in
    let k = counted c.args.kind c.args.file.now _ l.block-index _ _ c.requires l.invariant.0 c.loop-block-test.true c.records_as-part.ensures.value c.field_fault.ensures in
    let at = place c.args.kind c.args.file.now _ l.block-index _ _ c.requires l.invariant.0 c.loop-block-test.true c.records_as-part.ensures.value c.field_fault.ensures c.in-Err.refusal c.in-Err.is in
    omega (arith, k.1, at, l.invariant.1)

pub returns-in-Err : goal.returns-in-Err
returns-in-Err c =
    let l = c.loop-block in
    let found = step c.args.kind c.args.file.now _ l.block-index _ _ c.requires l.invariant.0 c.loop-block-test.true c.records_as-part.ensures.value c.field_fault.ensures l.first _ c.in-Err.is in
    sym (l.invariant.2 ∙ found)

pub returns : goal.returns
returns c =
    let l = c.loop-block in
    let kind = c.args.kind in
    let f = c.args.file.now in
    let left = records_of (joined kind (blocks_from f l.block-index)) in
    sym (l.invariant.2 ∙ ask_none (good_record kind) 4 (table_number kind) l.first left (none kind f l.block-index (omega (arith, blocks_long f _ l.invariant.0))))
