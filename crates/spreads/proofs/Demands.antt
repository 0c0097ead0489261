-- The statements of specs/Demands.antt, each with the law that proves it.
use Rattle.std.specs.Prelude.{Result, Ok, Err}
use Prim.Native.Nat.{ℕ, ◌+◌, ◌-◌, ◌≤◌, ◌<◌}
use mathlib.Core.Path.{◌≡◌, refl, sym, ◌∙◌}
use mathlib.Core.Bool.{Bool, true, ◌&&◌}
use mathlib.Core.List.{List, [], ◌∷◌, ◌++◌}
use native.Mathlib.Omega.{arith}
use lib.Dec.{leb}
use lib.IntN.{ℤ, pos}
use lib.ListN.{length, drop, get_or, length-map, get_or-append}
use borrow.Author.Tests.{le-leb}
use Rattle.records.specs.Order.{Check, ask, first_of, groups}
use Rattle.records.specs.Tables.{table_checks, legs_of}
use Rattle.records.specs.Written.{put_at, left_after}
use Rattle.records.specs.declared.tables.Kind.TheVariants.{Placement}
use Rattle.records.proofs.OrderLaws.{first_then}
use Rattle.records.proofs.PassLaws.{Pass, clear, unclear, pass_left, pass_right, pass_both, pass_groups, groups_pass}
use Rattle.records.proofs.PutLaws.{put_front, put_past}
use Rattle.spreads.specs.Prices.{net, at}
use Rattle.spreads.specs.Spreads.{group_of, group_in, group_rule, Spread}
use Rattle.spreads.specs.Strikes.{strikes_of, nets_of}
use Rattle.spreads.specs.Boxes.{margin_of}
use Rattle.spreads.specs.Calls.{group_checks, margin_call, listed_answer, listed_after, strikes_listed, worksheet_call, has_listed, margins_from, groups_checks, margins_call}
use Rattle.spreads.specs.Demands.{taken_together, SpreadIff, RefusalsName, LegsBeside, PointsOnce, StrikesExact, WorstIsGreatest, MarginRight, MarginGiven, MarginsRight, MarginsGiven, WorksheetRight, WorksheetGiven, Leaves, WorksheetLeaves, MarginsLeave, BoxIff, BoxAnyOrder, BoxAnySplit, BoxNets, MarginsByKind, FitIff, CashRight, CashGiven, JoiningNeverCosts, JoiningCosts, JoiningLoses, JoinedBoxCosts}
use Rattle.spreads.proofs.RuleLaws.{rule_to_spread, spread_to_rule, no_refusal_to_spread, spread_to_no_refusal}
use Rattle.spreads.proofs.Naming.{refusals_name}
use Rattle.spreads.proofs.Earlier.{legs_beside}
use Rattle.spreads.proofs.PointLaws.{one_place}
use Rattle.spreads.proofs.StrikeLaws.{strikes_have, strikes_from, strikes_ascending}
use Rattle.spreads.proofs.Nets.{worst_greatest}
use Rattle.spreads.proofs.MarginLists.{length_margins, margin_at}
use Rattle.spreads.proofs.Merge.{merge, taken_together_together}
use Rattle.spreads.proofs.Cover.{cover, nothing_less, covers_each}
use Rattle.spreads.proofs.CashLaws.{fit_facts, facts_fit, due_mills, answered, given}
use Rattle.spreads.proofs.BoxLaws.{test_to_box, box_to_test, no_box_test, box_margin, other_margin, box_nets, box_worst, join_margins}
use Rattle.spreads.proofs.Bench.{joined_box_costs}
use Rattle.spreads.proofs.BoxOrder.{box_swap, box_split, box_join}
use Rattle.records.specs.declared.refusals.Refusal.{Refusal}

pub spread_iff : SpreadIff
spread_iff g placement = (no_refusal_to_spread g placement, spread_to_no_refusal g placement)

-- ---- 'Point at the leg'

pub refusals_named : RefusalsName
refusals_named = refusals_name

pub named_beside : LegsBeside
named_beside = legs_beside

pub points_once : PointsOnce
points_once = one_place

-- ---- the strikes, and the greatest loss

pub strikes_exact : StrikesExact
strikes_exact legs = (strikes_have legs, strikes_from legs, strikes_ascending legs)

pub worst_is_greatest : WorstIsGreatest
worst_is_greatest = worst_greatest

-- ---- European long boxes

pub box_iff : BoxIff
box_iff legs = (test_to_box legs, box_to_test legs)

pub box_any_order : BoxAnyOrder
box_any_order a b x y = (box_swap a b x y, box_swap a b y x)

pub box_any_split : BoxAnySplit
box_any_split a b l m n = (box_split a b l m n, box_join a b l m n)

pub boxes_net : BoxNets
boxes_net = box_nets

pub margins_by_kind : MarginsByKind
margins_by_kind legs = record { box = box_margin legs; other = λ h. other_margin legs (no_box_test legs h) }

-- ---- cash accounts

pub fit_iff : FitIff
fit_iff legs = (fit_facts legs, facts_fit legs)

pub cash_right : CashRight
cash_right placement g mills e =
    let p = answered placement g mills e in
    record {
      spread = p.0;
      fit = p.1;
      margin = p.2;
      covers = covers_each p.0.underlying.0 mills (group_in placement g) p.0.underlying.1 (λ d n. rw p.2 (cover (group_in placement g) p.0.calls p.0.puts d n));
      least = λ m h all. let x = nothing_less (group_in placement g) m (rw p.2 at h) in omega (arith, all 1 (omega arith) (at x.0.strike), x.2);
      box = λ b. p.2 ∙ box_worst (group_in placement g) b;
    }

pub cash_given : CashGiven
cash_given = given

-- ---- margin

pub margin_right : MarginRight
unfolding margin_call group_checks
margin_right placement g mills e =
    let a = due_mills _ (margin_of (group_in placement g)) mills e in
    let rule = group_rule g (legs_of placement) in
    (rule_to_spread g (legs_of placement) (pass_right (table_checks Placement placement) rule (clear _ a.0)), a.1)

pub margin_given : MarginGiven
unfolding margin_call group_checks
margin_given placement g t s =
    rw (first_then (table_checks Placement placement) (group_rule g (legs_of placement)) t, spread_to_no_refusal g (legs_of placement) s)

-- ---- a call that lists

-- it has refused nothing, and answers how many entries it lists
entries_are : (f : Result Unit Refusal) (k n : ℕ) → listed_answer f k ≡ Ok n → (f ≡ Ok tt) × (n ≡ k)
entries_are (Ok _) k n e = (refl, cc)
entries_are (Err r) k n e = let z : ◌≡◌ {A = ℕ} 0 1 = cc in absurd (omega arith)

entries_after : (cs : List Check) (room : Bool) (k n : ℕ) → listed_after cs room k ≡ Ok n → Pass cs × (n ≡ k)
entries_after cs room k n e =
    let p = entries_are (first_of (cs ++ ask room 17 0 k ∷ [])) k n e in (pass_left cs (ask room 17 0 k ∷ []) (clear _ p.0), p.1)

-- and where nothing is refused and there is room, it lists them
listed_after_lem : (cs : List Check) (room : Bool) (k : ℕ) → Pass cs → room ≡ true → listed_after cs room k ≡ Ok k
unfolding first_of
listed_after_lem cs room k p e = rw (first_then cs (ask room 17 0 k ∷ []) (unclear cs p), e)

leaves : {A : Type 0} (answer : Result ℕ Refusal) (entries before : List A) → ((n : ℕ) → answer ≡ Ok n → n ≡ length entries)
    → Leaves answer entries before (left_after (has_listed answer) entries before)
leaves (Ok n) entries before h = rw (h n refl) (put_front before entries, put_past before entries)
leaves (Err r) entries before h = refl

module _ (placement : List ℕ) (g a b : ℕ) where
  worksheet_spread : (n : ℕ) → worksheet_call placement g a b ≡ Ok n → Spread g (group_in placement g)
  unfolding strikes_listed group_checks
  worksheet_spread n e =
      let k = length (strikes_of (group_in placement g)) in
      let rule = group_rule g (legs_of placement) in
      let p = entries_after (table_checks Placement placement ++ rule) (leb k a && leb k b) k n e in
      rule_to_spread g (legs_of placement) (pass_right (table_checks Placement placement) rule p.0)

  worksheet_strikes : (n : ℕ) → worksheet_call placement g a b ≡ Ok n → n ≡ length (strikes_of (group_in placement g))
  unfolding strikes_listed
  worksheet_strikes n e =
      let k = length (strikes_of (group_in placement g)) in
      (entries_after (group_checks placement g) (leb k a && leb k b) k n e).1

  worksheet_nets : (n : ℕ) → worksheet_call placement g a b ≡ Ok n → n ≡ length (nets_of (group_in placement g))
  unfolding nets_of
  worksheet_nets n e = worksheet_strikes n e ∙ sym (length-map (strikes_of (group_in placement g)) (net (group_in placement g)))

pub worksheet_right : WorksheetRight
worksheet_right placement g strikes nets n e =
    let legs = group_in placement g in
    let a = length strikes in
    let b = length nets in (
      worksheet_spread placement g a b n e,
      worksheet_strikes placement g a b n e,
      rw (worksheet_strikes placement g a b n e) (put_front strikes (strikes_of legs)),
      rw (worksheet_nets placement g a b n e) (put_front nets (nets_of legs)),
    )

pub worksheet_given : WorksheetGiven
unfolding strikes_listed group_checks
worksheet_given placement g a b t s ha hb =
    let k = length (strikes_of (group_in placement g)) in
    let rule = group_rule g (legs_of placement) in
    listed_after_lem (table_checks Placement placement ++ rule) (leb k a && leb k b) k
    (pass_both (table_checks Placement placement) rule (clear _ t) (spread_to_rule g (legs_of placement) s)) (rw (le-leb k a ha, le-leb k b hb))

-- ---- what is left in a lent slice

pub worksheet_leaves : WorksheetLeaves
worksheet_leaves placement g strikes nets =
    let a = length strikes in
    let b = length nets in
    let answer = worksheet_call placement g a b in (
      leaves answer (strikes_of (group_in placement g)) strikes (worksheet_strikes placement g a b),
      leaves answer (nets_of (group_in placement g)) nets (worksheet_nets placement g a b),
    )

margins_listed : (placement : List ℕ) (n room m : ℕ) → margins_call placement n room ≡ Ok m → m ≡ length (margins_from (legs_of placement) 1 n)
unfolding margins_call
margins_listed placement n room m e =
    (entries_after (groups_checks placement n) (leb n room) n m e).1 ∙ sym (length_margins (legs_of placement) 1 n)

-- what stands in the list stands in the slice
margin_left : (out margins : List ℤ) (k : ℕ) → k < length margins → get_or (put_at out 0 margins) k (pos 0) ≡ get_or margins k (pos 0)
unfolding put_at
margin_left out margins k h = get_or-append margins (drop (0 + length margins) out) (pos 0) k h

pub margins_right : MarginsRight
unfolding margins_call groups_checks
margins_right placement n out m e =
    let legs = legs_of placement in
    let rules = groups n (λ g. group_rule g legs) in
    let p = entries_after (table_checks Placement placement ++ rules) (leb n (length out)) n m e in
    let spreads = pass_groups n (λ g. group_rule g legs) (pass_right (table_checks Placement placement) rules p.0) in
    let few : (g : ℕ) → 1 ≤ g → g ≤ n → g - 1 < length (margins_from legs 1 n) = λ g i j. omega (arith, length_margins legs 1 n) in (
      p.1,
      λ g i j.
          let back : g - 1 + 1 ≡ g = omega arith in (
            rule_to_spread g legs (spreads g i j),
            margin_left out (margins_from legs 1 n) (g - 1) (few g i j) ∙ rw back at (margin_at legs (pos 0) n (g - 1) (omega arith)),
          ),
    )

pub margins_given : MarginsGiven
unfolding margins_call groups_checks
margins_given placement n room t s h =
    let legs = legs_of placement in
    let rules = groups n (λ g. group_rule g legs) in
    listed_after_lem (table_checks Placement placement ++ rules) (leb n room) n
    (pass_both (table_checks Placement placement) rules (clear _ t) (groups_pass n _ (λ g i j. spread_to_rule g legs (s g i j)))) (le-leb n room h)

pub margins_leave : MarginsLeave
margins_leave placement n out =
    leaves (margins_call placement n (length out)) (margins_from (legs_of placement) 1 n) out (margins_listed placement n (length out))

-- ---- joining groups

pub joining_loses : JoiningLoses
joining_loses g k placement ne sg sk =
    merge g k (group_of g placement) (group_of k placement) (taken_together g k placement) sg sk (taken_together_together g k placement ne)

pub joining_costs : JoiningCosts
joining_costs g k placement ne sg sk other =
    join_margins g k (group_of g placement) (group_of k placement) (taken_together g k placement) sg sk (taken_together_together g k placement ne)
    (no_box_test (taken_together g k placement) other)

pub joining_never_costs : JoiningNeverCosts
joining_never_costs g k placement ne sg sk joined = joining_costs g k placement ne sg sk

-- that long boxes must be excepted is computed in Bench
pub exception_needed : JoinedBoxCosts
exception_needed = joined_box_costs
