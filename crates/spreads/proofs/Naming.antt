-- The refusal of a group: its number, found as if each named the group; and its place, found by the number.
use Rattle.std.specs.Prelude.{Result, Ok, Err, Option, is_none, Some, None, is_some}
use Prim.Native.Nat.{ℕ, ◌+◌, ◌<◌}
use mathlib.Core.Path.{◌≡◌, refl, sym, ap, ◌∙◌}
use mathlib.Core.Bool.{Bool, true, false, not, cond}
use mathlib.Core.List.{List, [], ◌∷◌, map}
use native.Mathlib.Omega.{arith}
use lib.Dec.{eqb}
use lib.ListN.{length, take, get_or}
use lib.Seq.{take-length}
use borrow.Author.Tests.{ne_eqb, lt-ltb}
use Rattle.records.specs.Lists.{all_of}
use Rattle.records.specs.Order.{Check, refuse, first_of}
use Rattle.records.specs.Tables.{legs_of}
use Rattle.records.specs.declared.legs.Leg.{Leg}
use Rattle.records.specs.declared.refusals.Refusal.{Refusal}
use Rattle.records.proofs.ListLaws.{all_take}
use Rattle.records.proofs.PassLaws.{first_all}
use Rattle.records.proofs.TableLaws.{Ranges}
use Rattle.spreads.specs.Spreads.{group_of, one_of, none_doubled, none_outlives, group_rule}
use Rattle.spreads.specs.Steps.Gathered.{gathered, six_to_thirteen, rule_kept, fact_checks}
use Rattle.spreads.specs.Steps.Search.{first_pair}
use Rattle.spreads.specs.Steps.Members.{Checked, legs_at, MembersOf, OneGroup}
use Rattle.spreads.specs.Steps.Pointing.{points_at_leg, condition_of, place_of, Breaks, index_in, broken_at, facts_broken}
use Rattle.spreads.specs.Demands.{Points, Named, RefusalsName}
use Rattle.spreads.specs.declared.facts.Facts.{Facts}
use Rattle.spreads.proofs.MemberLaws.{length_at, members_are, members_ranges}
use Rattle.spreads.proofs.SearchLaws.{get_or_any}
use Rattle.spreads.proofs.PairLaws.{clear_is, no_later, later_found}
use Rattle.spreads.proofs.GatheredLaws.{found_checks, broken_by_lem}
use Rattle.records.proofs.LowestLaws.{lowest_same, kept_short}
use Rattle.spreads.proofs.PointLaws.{broken_place, points}

-- ---- the first check that fails, of any checks

-- the same check with another refusal
abbrev refusing : (Refusal → Refusal) → Check → Check
refusing f c = record { holds = c.holds; refusal = f c.refusal }

abbrev faulting : (Refusal → Refusal) → Result Unit Refusal → Result Unit Refusal
faulting f (Ok _) = Ok tt
faulting f (Err r) = Err (f r)

first_refusing : (f : Refusal → Refusal) (cs : List Check) → first_of (map (refusing f) cs) ≡ faulting f (first_of cs)
unfolding first_of
first_refusing f [] = refl
first_refusing f (c ∷ cs) = go c.holds (first_refusing f cs)
  where
    go : (b : Bool) → first_of (map (refusing f) cs) ≡ faulting f (first_of cs)
        → cond b (first_of (map (refusing f) cs)) (Err (f c.refusal)) ≡ faulting f (cond b (first_of cs) (Err c.refusal))
    go true e = e
    go false e = refl

-- ---- the rule

-- a refusal of group g, with its own place
abbrev placed : ℕ → List Leg → Refusal → Refusal
placed g placement r = refuse r.number 2 (place_of r.number g placement)

rule_placed : (g : ℕ) (placement : List Leg)
    → group_rule g placement ≡ map (refusing (placed g placement)) (six_to_thirteen g (rule_kept g (group_of g placement)))
unfolding group_rule place_of condition_of
rule_placed g placement = refl

rule_fault : (g : ℕ) (placement : List Leg)
    → first_of (group_rule g placement) ≡ faulting (placed g placement) (first_of (six_to_thirteen g (rule_kept g (group_of g placement))))
rule_fault g placement = rw (rule_placed g placement) (first_refusing (placed g placement) (six_to_thirteen g (rule_kept g (group_of g placement))))

-- a refusal that points at a leg is of legs that break what it asks
rule_breaks : (g : ℕ) (legs : List Leg) (r : Refusal) → first_of (six_to_thirteen g (rule_kept g legs)) ≡ Err r → Breaks r.number legs
unfolding condition_of
rule_breaks g legs =
    first_all (λ r. Breaks r.number legs) (six_to_thirteen g (rule_kept g legs))
    (no, (λ h e. h, (λ h e. h, (λ h e. h, (λ h e. h, (no, (no, (λ h e. h, tt))))))))
  where
    no : {b : Bool} {P : Type 0} → b ≡ false → ◌≡◌ {A = Bool} false true → P
    no h e = let z : ◌≡◌ {A = ℕ} 0 1 = cc in absurd (omega arith)

-- ---- as it is found of the legs of group g

some_clear : (p : Option (ℕ × ℕ)) → is_some p ≡ not (is_none p)
some_clear (Some x) = refl
some_clear None = refl

module _ (g : ℕ) (xs ms : List ℕ) (c : Checked xs) (m : MembersOf xs g ms) where
  pub one_group : OneGroup xs ms
  one_group = record { checked = c; number = g; members = m }

  module _ {f : Facts} (e : f ≡ gathered (legs_at xs ms)) {pair : Option (ℕ × ℕ)} (p : pair ≡ first_pair (legs_at xs ms)) {found : Bool} (d : found ≡ is_some pair)
      {a : Result Unit Refusal} (n : a ≡ first_of (fact_checks g f found)) where
    named : a ≡ first_of (six_to_thirteen g (rule_kept g (legs_at xs ms)))
    named = n ∙ ap first_of (found_checks one_group f found e (d ∙ (some_clear pair ∙ rw (p, clear_is (legs_at xs ms)))) g)

    rule_named : first_of (group_rule g (legs_of xs)) ≡ faulting (placed g (legs_of xs)) a
    rule_named = rw named (rw (members_are xs g m) (rule_fault g (legs_of xs)))

    pub none_refused : a ≡ Ok tt → (Ok tt) ≡ first_of (group_rule g (legs_of xs))
    none_refused q = rw (rule_named, q)

    pub refused_breaks : {r : Refusal} → a ≡ Err r → Breaks r.number (legs_at xs ms)
    refused_breaks {r} q = rule_breaks g (legs_at xs ms) r (sym named ∙ q)

    pub refused_placed : {r : Refusal} → a ≡ Err r → {place : ℕ} → place ≡ place_of r.number g (legs_of xs) → {b : Result Unit Refusal} → b ≡ Err (refuse r.number 2 place)
        → b ≡ first_of (group_rule g (legs_of xs))
    refused_placed q h k = k ∙ rw (rule_named, q, h)

-- ---- the leg

empty_keeps : (number : ℕ) → condition_of number [] ≡ true
unfolding condition_of one_of none_doubled none_outlives all_of
empty_keeps number = go (eqb number 7) (eqb number 8) (eqb number 9) (eqb number 10)
  where
    go : (a b c d : Bool) → cond a (one_of (λ l. l.underlying)) (cond b (one_of (λ l. l.style)) (cond c (one_of (λ l. l.market)) (cond d none_doubled none_outlives))) [] ≡ true
    go true b c d = refl
    go false true c d = refl
    go false false true d = refl
    go false false false true = refl
    go false false false false = refl

module _ (xs ms : List ℕ) (number : ℕ) where
  -- the index of the leg, where there is one
  abbrev leg_index : Option ℕ
  leg_index = index_in (length (legs_at xs ms)) (broken_at (condition_of number) (legs_at xs ms))

  module _ (q : number ≡ 10) {pair : Option (ℕ × ℕ)} (p : pair ≡ first_pair (legs_at xs ms)) where
    pub pair_no_leg : pair ≡ None → None ≡ leg_index
    unfolding condition_of
    pair_no_leg e = rw q (no_later (legs_at xs ms) (sym p ∙ e))

    pub pair_leg : {later earlier : ℕ} → pair ≡ Some (later, earlier) → Some later ≡ leg_index
    unfolding condition_of
    pair_leg e = rw q (later_found (legs_at xs ms) (sym p ∙ e))

  pub facts_leg : OneGroup xs ms → (number ≡ 10 → ⊥) → {leg : Option ℕ} → leg ≡ index_in (length (legs_at xs ms)) (facts_broken number (legs_at xs ms))
      → leg ≡ leg_index
  unfolding facts_broken broken_at
  facts_leg o q e =
      e
      ∙ ap (index_in (length (legs_at xs ms)))
      (lowest_same _ _ 0 (length (legs_at xs ms))
      (λ k. broken_by_lem number (ne_eqb number 10 q) (take (k + 1) (legs_at xs ms)) (all_take (Ranges 32) (k + 1) (legs_at xs ms) (members_ranges o))))

  module _ (b : Breaks number (legs_at xs ms)) (h : points_at_leg number ≡ true) where
    leg_below : broken_at (condition_of number) (legs_at xs ms) < length (legs_at xs ms)
    unfolding broken_at
    leg_below =
        (kept_short (λ i. condition_of number (take i (legs_at xs ms))) (length (legs_at xs ms)) (empty_keeps number) (rw (take-length (legs_at xs ms)) (b h)))

    -- there is one
    leg_at_index : leg_index ≡ Some (broken_at (condition_of number) (legs_at xs ms))
    leg_at_index = rw (lt-ltb (broken_at (condition_of number) (legs_at xs ms)) (length (legs_at xs ms)) leg_below)

    pub leg_there : {leg : Option ℕ} → leg ≡ leg_index → leg ≡ None → ⊥
    leg_there e q = let z : Some (broken_at (condition_of number) (legs_at xs ms)) ≡ None = sym (e ∙ leg_at_index) ∙ q in cc

    module _ {leg : Option ℕ} (e : leg ≡ leg_index) {i : ℕ} (q : leg ≡ Some i) where
      leg_is : i ≡ broken_at (condition_of number) (legs_at xs ms)
      leg_is = let z : Some i ≡ Some (broken_at (condition_of number) (legs_at xs ms)) = sym q ∙ e ∙ leg_at_index in cc

      pub leg_short : i < length ms
      leg_short = rw (leg_is, ← length_at xs ms) leg_below

      pub leg_place : (g : ℕ) → MembersOf xs g ms → get_or ms i 0 ≡ place_of number g (legs_of xs)
      unfolding place_of
      leg_place g m =
          rw (h, broken_place (condition_of number) g (legs_of xs) (empty_keeps number), ← members_are xs g m, ← leg_is, ← m)
          (get_or_any ms i 0 (length (legs_of xs)) leg_short)

-- ---- what the refusals of a group name

module _ (g : ℕ) (placement : List Leg) where
  number_points : (n : ℕ) → Breaks n (group_of g placement) → points_at_leg n ≡ true → Points (condition_of n) g placement (place_of n g placement)
  unfolding place_of
  number_points n b h = rw h (points (condition_of n) g placement (empty_keeps n) (b h))

  number_named : (n : ℕ) → Breaks n (group_of g placement) → Named g placement (refuse n 2 (place_of n g placement))
  unfolding place_of condition_of
  number_named n b =
      record {
        table = refl;
        leg = λ e. rw e;
        underlying = λ e. rw e (rw e at (number_points n b (rw e)));
        style = λ e. rw e (rw e at (number_points n b (rw e)));
        market = λ e. rw e (rw e at (number_points n b (rw e)));
        series = λ e. rw e (rw e at (number_points n b (rw e)));
        calls = λ e. rw e;
        puts = λ e. rw e;
        lives = λ e. rw e (rw e at (number_points n b (rw e)));
      }

  fault_named : (f : Result Unit Refusal) → f ≡ first_of (six_to_thirteen g (rule_kept g (group_of g placement))) → (r : Refusal) → faulting (placed g placement) f ≡ Err r → Named g placement r
  fault_named (Ok _) e r q = let z : ◌≡◌ {A = ℕ} 0 1 = cc in absurd (omega arith)
  fault_named (Err k) e r q =
      let s : placed g placement k ≡ r = cc in
      rw s at (number_named k.number (rule_breaks g (group_of g placement) k (sym e)))

pub refusals_name : RefusalsName
refusals_name g placement r e = fault_named g placement _ refl r (sym (rule_fault g placement) ∙ e)
