-- Groups priced one after the other: none of the first k is refused, their margins stand in a list, and their work is added up.
use Rattle.std.specs.Prelude.{Result, Ok, Err}
use Prim.Native.Nat.{ℕ, ◌+◌, ◌≤◌, ◌<◌}
use mathlib.Core.Path.{◌≡◌, refl, sym, ap, ◌∙◌}
use mathlib.Core.List.{List}
use native.Mathlib.Numerals.{add-one}
use native.Mathlib.Omega.{arith}
use lib.IntN.{ℤ, pos}
use lib.ListN.{length, take, set}
use lib.Seq.{take-suc-set}
use Rattle.records.specs.Order.{first_of, groups}
use Rattle.records.specs.declared.legs.Leg.{Leg}
use Rattle.records.specs.declared.refusals.Refusal.{Refusal}
use Rattle.records.proofs.OrderLaws.{groups_none, groups_more, groups_stop}
use Rattle.spreads.specs.Spreads.{group_of, group_rule}
use Rattle.spreads.specs.Boxes.{margin_of}
use Rattle.spreads.specs.Calls.{margins_from}
use Rattle.spreads.specs.Work.{values_of, work_up_to}
use Rattle.spreads.specs.Steps.Found.{priced_as, asked_answer, AllPriced}
use Rattle.spreads.specs.declared.answers.Priced.{Priced}
use Rattle.spreads.specs.declared.prices.Worked.{Worked}
use Rattle.spreads.proofs.AnswerLaws.{answer_entries, answer_refused}
use Rattle.spreads.proofs.MarginLists.{margins_none, margins_more}
use Rattle.spreads.proofs.RuleLaws.{no_refusal_to_spread}
use Rattle.spreads.proofs.WorkLaws.{work_none, work_next}

-- ---- what a group is asked

pub asked_for : (f : Result Unit Refusal) (legs : List Leg) {a : Result Worked Refusal} {w : Worked} → a ≡ asked_answer f legs → a ≡ Ok w
    → (f ≡ Ok tt) × (w.mills ≡ margin_of legs) × (w.values ≡ values_of legs)
asked_for (Ok tt) legs {a} {w} e q =
    let s : Ok w ≡ Ok (record { mills = margin_of legs; values = values_of legs }) = sym q ∙ e in
    let r : w ≡ record { mills = margin_of legs; values = values_of legs } = cc in
    (refl, ap (λ (x : Worked). x.mills) r, ap (λ (x : Worked). x.values) r)
asked_for (Err r) legs e q = let z : ◌≡◌ {A = ℕ} 0 1 = cc in absurd (omega arith)

pub asked_refused : (f : Result Unit Refusal) (legs : List Leg) {a : Result Worked Refusal} {r : Refusal} → a ≡ asked_answer f legs → a ≡ Err r → f ≡ Err r
asked_refused (Ok _) legs e q = let z : ◌≡◌ {A = ℕ} 0 1 = cc in absurd (omega arith)
asked_refused (Err s) legs e q = cc

-- ---- the loop

pub record Pricing (n : ℕ) (placement : List Leg) (k work : ℕ) (list : List ℤ) : Type 0 where
  pub upto : k ≤ n
  pub few : k ≤ 32
  pub passed : first_of (groups k (λ g. group_rule g placement)) ≡ Ok tt
  pub worked : work ≡ work_up_to k placement
  pub priced : take k list ≡ margins_from placement 1 k

pub pricing_none : (n : ℕ) (placement : List Leg) (list : List ℤ) → Pricing n placement 0 0 list
pricing_none n placement list =
    record {
      upto = omega arith;
      few = omega arith;
      passed = groups_none _;
      worked = sym (work_none placement);
      priced = sym (margins_none placement);
    }

-- no group above 32 is a spread
pub pricing_room : (g : ℕ) (placement : List Leg) → first_of (group_rule g placement) ≡ Ok tt → g ≤ 32
pricing_room g placement e = (no_refusal_to_spread g placement e).numbered.1

module _ {n : ℕ} {placement : List Leg} {k work : ℕ} {list : List ℤ} (p : Pricing n placement k work list) where
  pub pricing_more : k < n → k < length list → first_of (group_rule (k + 1) placement) ≡ Ok tt
      → {v : ℤ} → v ≡ pos (margin_of (group_of (k + 1) placement)) → {m : ℕ} → m ≡ work + values_of (group_of (k + 1) placement)
      → Pricing n placement (k + 1) m (set list k v)
  pricing_more h room e {v} q {m} r =
      record {
        upto = omega arith;
        few = pricing_room (k + 1) placement e;
        passed = groups_more (λ g. group_rule g placement) k p.passed e;
        worked = r ∙ rw p.worked (sym (work_next placement k));
        priced = rw (margins_more placement k, ← p.priced, ← q) (rw add-one (take-suc-set list k v room));
      }

  pub pricing_stop : k < n → {r : Refusal} → first_of (group_rule (k + 1) placement) ≡ Err r → AllPriced n placement (priced_as n (Err r)) list
  pricing_stop h {r} e =
      record {
        listed = rw (groups_stop (λ g. group_rule g placement) k p.passed n r h e);
        values = refl;
        margins = λ q. let z : ◌≡◌ {A = ℕ} 0 1 = cc in absurd (omega arith);
      }

  pub pricing_done : n ≤ k → AllPriced n placement (priced_as n (Ok work)) list
  pricing_done h =
      let e : k ≡ n = omega (arith, p.upto) in
      record {
        listed = rw (rw e at p.passed);
        values = rw e at p.worked;
        margins = λ q. (omega (arith, p.few), rw e at p.priced);
      }

-- ---- what was priced

module _ {n : ℕ} {placement : List Leg} {priced : Priced} {list : List ℤ} (p : AllPriced n placement priced list) where
  abbrev first : Result Unit Refusal
  first = first_of (groups n (λ g. group_rule g placement))

  pub priced_refused : {r : Refusal} → priced.listed ≡ Err r → first ≡ Err r
  priced_refused q = answer_refused first n p.listed q

  pub priced_entries : {m : ℕ} → priced.listed ≡ Ok m
      → (first ≡ Ok tt) × (priced.listed ≡ Ok n) × (n ≤ 32) × (take n list ≡ margins_from placement 1 n)
  priced_entries q = let e = answer_entries first n p.listed q in let m = p.margins e.1 in (e.0, e.1, m.0, m.1)
