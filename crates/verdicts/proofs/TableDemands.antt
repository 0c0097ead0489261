-- The demands of specs/TableDemands.antt, proved.
use mathlib.Core.Path.{◌≡◌, refl, ap, ◌∙◌}
use mathlib.Core.List.{List, [], ◌∷◌}
use Prim.Native.Nat.{ℕ, zero, suc}
use native.Mathlib.Omega.{arith}
use lib.IntN.{pos}
use lib.ListN.{length}
use Rattle.records.specs.Lists.{sum_of, most, All}
use Rattle.records.specs.Tables.{legs_of, claims_of}
use Rattle.records.specs.declared.legs.Leg.{Leg}
use Rattle.records.proofs.ListLaws.{all_append}
use Rattle.records.proofs.Measures.{sum_append}
use Rattle.blocks.specs.File.{tables_in}
use Rattle.blocks.proofs.Laws.{moved_alike}
use Rattle.spreads.specs.Spreads.{group_of}
use Rattle.spreads.specs.Strikes.{loss_of}
use Rattle.spreads.specs.Boxes.{LongBox, half_of, margin_of}
use Rattle.spreads.specs.Work.{total}
use Rattle.spreads.proofs.Laws.{total_ext, margin_nets, no_box_test, box_margin, other_margin}
use Rattle.sheets.specs.Sheets.{claim_for, total_of}
use Rattle.sheets.proofs.Laws.{total_claims}
use Rattle.verdicts.specs.TableText.{shown_of, shown_in, table_text}
use Rattle.verdicts.specs.TableDemands.{TableReadsBack, TableTotal, TableMargins, TableBoxes, MovedTable, RefusedPrints}
use Rattle.verdicts.proofs.Demands.{file_iff, moved_verdict}
use Rattle.verdicts.proofs.ReadBack.{table_read}
use Rattle.verdicts.proofs.Worksheets.{length_nets}

module _ (placement : List Leg) where
  shown_total : (n : ℕ) → sum_of (λ s. s.margin) (shown_in n placement) ≡ total n (λ g. margin_of (group_of g placement))
  unfolding sum_of shown_in total
  shown_total zero = refl
  shown_total (suc n) =
      omega (arith, sum_append (λ s. s.margin) (shown_in n placement) (shown_of (suc n) (group_of (suc n) placement) ∷ []), shown_total n)

  shown_margins : (n : ℕ) → All (λ s. ¬ LongBox (group_of s.group placement) → s.margin ≡ most loss_of s.nets) (shown_in n placement)
  unfolding shown_in
  shown_margins zero = tt
  shown_margins (suc n) =
      let legs = group_of (suc n) placement in
      all_append _ (shown_in n placement) _ (shown_margins n) ((λ other. other_margin legs (no_box_test legs other) ∙ margin_nets legs), tt)

  shown_boxes : (n : ℕ)
      → All (λ s. (b : LongBox (group_of s.group placement)) → s.margin ≡ half_of b.units b.low b.high) (shown_in n placement)
  unfolding shown_in
  shown_boxes zero = tt
  shown_boxes (suc n) = all_append _ (shown_in n placement) _ (shown_boxes n) (box_margin (group_of (suc n) placement), tt)

  shown_even : (n : ℕ) → All (λ s. length s.nets ≡ length s.strikes) (shown_in n placement)
  unfolding shown_in
  shown_even zero = tt
  shown_even (suc n) = all_append _ (shown_in n placement) _ (shown_even n) (length_nets (group_of (suc n) placement), tt)

pub table_reads_back : TableReadsBack
unfolding table_text
table_reads_back file n total work e =
    let p = legs_of (tables_in file).placement in
    rw e (table_read (shown_in n p) (shown_even p n))

pub table_total : TableTotal
table_total file n amount work e =
    let k = (file_iff file n (pos amount) work).0 e in
    let p = legs_of (tables_in file).placement in
    let c = claims_of (tables_in file).claims in
    let a : amount ≡ total_of c = cc k.3 in
    rw (table_reads_back file n (pos amount) work e)
    (omega (
      arith,
      shown_total p n,
      ap (λ (m : ℕ). total m (λ g. margin_of (group_of g p))) k.2,
      total_claims c,
      total_ext (length c) (claim_for c) (λ g. margin_of (group_of g p)) k.1.rule.old.claims,
    ))

pub table_margins : TableMargins
table_margins file n total work e = rw (table_reads_back file n (pos total) work e) (shown_margins (legs_of (tables_in file).placement) n)

pub table_boxes : TableBoxes
table_boxes file n total work e = rw (table_reads_back file n (pos total) work e) (shown_boxes (legs_of (tables_in file).placement) n)

pub moved_table : MovedTable
unfolding table_text
moved_table from to file out n a x = rw (moved_verdict from to file out n a x, (moved_alike from to file out n a x).1)

pub refused_prints : RefusedPrints
unfolding table_text
refused_prints file r e = rw e
