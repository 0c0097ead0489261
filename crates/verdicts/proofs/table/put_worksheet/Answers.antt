use Rattle.std.specs.Prelude.{Result, Ok}
use Rattle.std.proofs.Common.{◌≡◌, ℕ, ◌≤◌, List, sym, ◌∙◌, length, take}
use lib.IntN.{ℤ}
use lib.Seq.{length-take-le}
use Rattle.records.specs.Written.{left_after}
use Rattle.records.specs.declared.refusals.Refusal.{Refusal}
use Rattle.spreads.specs.Calls.{worksheet_call, has_listed}
use Rattle.spreads.specs.Spreads.{group_in}
use Rattle.spreads.specs.Strikes.{strikes_of, nets_of}
use Rattle.verdicts.specs.Steps.Groups.{GroupPasses}
use Rattle.verdicts.proofs.Worksheets.{entries_are, never_refused, length_nets, listed_front}
use Rattle.verdicts.proofs.table.put_worksheet.Goals as goal

module _ (p : List ℕ) (g : ℕ) (a : GroupPasses p g) (r : Result ℕ Refusal) (e : r ≡ worksheet_call p g 256 256) (n : ℕ) (q : r ≡ Ok n) where
  strikes : (d l : List ℕ) → l ≡ left_after (has_listed r) (strikes_of (group_in p g)) d → (n ≤ length l) × (take n l ≡ strikes_of (group_in p g))
  strikes d l s = listed_front (strikes_of (group_in p g)) d l r n s q (entries_are p g a e q)

  nets : (d l : List ℤ) → l ≡ left_after (has_listed r) (nets_of (group_in p g)) d → (n ≤ length l) × (take n l ≡ nets_of (group_in p g))
  nets d l s = listed_front (nets_of (group_in p g)) d l r n s q (entries_are p g a e q ∙ sym (length_nets (group_in p g)))

pub slice_bounds-strikes-end : goal.slice_bounds-strikes-end
slice_bounds-strikes-end c =
    (strikes c.args.placement.now c.args.g c.requires.group_passes _ c.worksheet.ensures.value _ c.in-Ok.is _ _ c.worksheet.ensures.strikes_out_after).0

pub slice_bounds-put_strike_lines-end : goal.slice_bounds-put_strike_lines-end
slice_bounds-put_strike_lines-end c =
    sym
    (length-take-le _ _
    (strikes c.args.placement.now c.args.g c.requires.group_passes _ c.worksheet.ensures.value _ c.in-Ok.is _ _ c.worksheet.ensures.strikes_out_after).0)

pub slice_bounds-nets-end : goal.slice_bounds-nets-end
slice_bounds-nets-end c =
    (nets c.args.placement.now c.args.g c.requires.group_passes _ c.worksheet.ensures.value _ c.in-Ok.is _ _ c.worksheet.ensures.nets_out_after).0

pub slice_bounds-put_strike_lines-end-in-Ok : goal.slice_bounds-put_strike_lines-end-in-Ok
slice_bounds-put_strike_lines-end-in-Ok c =
    sym
    (length-take-le _ _
    (nets c.args.placement.now c.args.g c.requires.group_passes _ c.worksheet.ensures.value _ c.in-Ok.is _ _ c.worksheet.ensures.nets_out_after).0)

pub put_strike_lines-requires-clause-nets_in_bounds : goal.put_strike_lines-requires-clause-nets_in_bounds
put_strike_lines-requires-clause-nets_in_bounds c =
    let s = strikes c.args.placement.now c.args.g c.requires.group_passes _ c.worksheet.ensures.value _ c.in-Ok.is _ _ c.worksheet.ensures.strikes_out_after in
    let t = nets c.args.placement.now c.args.g c.requires.group_passes _ c.worksheet.ensures.value _ c.in-Ok.is _ _ c.worksheet.ensures.nets_out_after in
    rw (s.1, t.1) c.requires.g_in_bounds

pub returns-in-Ok : goal.returns-in-Ok
returns-in-Ok c =
    let s = strikes c.args.placement.now c.args.g c.requires.group_passes _ c.worksheet.ensures.value _ c.in-Ok.is _ _ c.worksheet.ensures.strikes_out_after in
    let t = nets c.args.placement.now c.args.g c.requires.group_passes _ c.worksheet.ensures.value _ c.in-Ok.is _ _ c.worksheet.ensures.nets_out_after in
    rw (s.1, t.1) at c.put_strike_lines.ensures

pub returns-in-Err : goal.returns-in-Err
returns-in-Err c = absurd (never_refused c.args.placement.now c.args.g c.requires.group_passes c.worksheet.ensures.value c.in-Err.is)
