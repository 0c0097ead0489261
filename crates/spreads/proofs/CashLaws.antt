-- A group fit for a cash account: the facts and the check, the check as the code makes it, and the call's answers.
use Rattle.std.specs.Prelude.{Result, Ok, Err}
use Prim.Native.Nat.{ℕ, ◌≤◌, ◌<◌}
use mathlib.Core.Path.{◌≡◌, refl, sym, ◌∙◌}
use mathlib.Core.Bool.{true, false, ◌&&◌, and-eq-true_iff}
use mathlib.Core.List.{List, [], ◌∷◌, ◌++◌}
use native.Mathlib.Omega.{arith}
use lib.Dec.{eqb}
use lib.IntN.{ℤ, pos}
use lib.ListN.{length, drop, get_or}
use borrow.Author.Tests.{eqb-true, eq-eqb}
use Rattle.records.specs.Lists.{all_of}
use Rattle.records.specs.Legs.{is_european, is_cash}
use Rattle.records.specs.Order.{ask, refuse, first_of}
use Rattle.records.specs.Tables.{table_checks, legs_of}
use Rattle.records.specs.declared.legs.Leg.{Leg}
use Rattle.records.specs.declared.tables.Kind.TheVariants.{Placement}
use Rattle.records.specs.declared.refusals.Refusal.{Refusal}
use Rattle.records.proofs.ListLaws.{all_map, all_of_and, all_of_all, all_all_of}
use Rattle.records.proofs.OrderLaws.{first_then, first_stop}
use Rattle.records.proofs.PassLaws.{clear, pass_left, pass_right}
use Rattle.spreads.specs.Spreads.{one_of, group_of, group_in, group_rule, Spread}
use Rattle.spreads.specs.Cash.{FitForCash, is_fit, cash_rule, cash_call}
use Rattle.spreads.specs.Steps.Fitting.{cash_due, fits_cash}
use Rattle.spreads.specs.Calls.{due_answer}
use Rattle.spreads.specs.Steps.Members.{leg_at_place, legs_at}
use Rattle.spreads.specs.Strikes.{worst_loss}
use Rattle.spreads.proofs.BoxTest.{one_first}
use Rattle.spreads.proofs.MemberLaws.{legs_next, legs_end}
use Rattle.spreads.proofs.RuleLaws.{one_of_to_all, all_to_one_of, rule_to_spread, spread_to_no_refusal}

-- ---- the facts and the check

pub fit_facts : (legs : List Leg) → is_fit legs ≡ true → FitForCash legs
unfolding is_fit
fit_facts legs e =
    let p = (and-eq-true_iff (all_of is_european legs && all_of is_cash legs) (one_of (λ l. l.expiry) legs)).0 e in
    let q = (and-eq-true_iff (all_of is_european legs) (all_of is_cash legs)).0 p.0 in
    record {
      european = all_map legs (λ l h. eqb-true l.style 2 h) (all_of_all is_european legs q.0);
      cash = all_map legs (λ l h. eqb-true l.settlement 1 h) (all_of_all is_cash legs q.1);
      expiry = one_of_to_all (λ l. l.expiry) legs p.1;
    }

pub facts_fit : (legs : List Leg) → FitForCash legs → is_fit legs ≡ true
unfolding is_fit
facts_fit legs f =
    rw (
      all_all_of is_european legs (all_map legs (λ l h. eq-eqb l.style 2 h) f.european),
      all_all_of is_cash legs (all_map legs (λ l h. eq-eqb l.settlement 1 h) f.cash),
      all_to_one_of (λ l. l.expiry) legs f.expiry.0 f.expiry.1,
    )

-- ---- each leg by itself

fit_first : (legs ls : List Leg) (l : Leg) → legs ≡ l ∷ ls → all_of (fits_cash l.expiry) legs ≡ is_fit legs
unfolding is_fit fits_cash
fit_first legs ls l e =
    rw (
      all_of_and (λ k. is_european k && is_cash k) (λ k. eqb k.expiry l.expiry) legs,
      all_of_and is_european is_cash legs,
      one_first legs ls l e,
    )

module _ (xs ms : List ℕ) where
  pub none_fit : length ms ≤ 0 → true ≡ is_fit (legs_at xs ms)
  unfolding is_fit all_of one_of
  none_fit h = rw (legs_end xs ms 0 h)

  pub first_fits : 0 < length ms → {l : Leg} → l ≡ leg_at_place xs (get_or ms 0 0) → all_of (fits_cash l.expiry) (legs_at xs ms) ≡ is_fit (legs_at xs ms)
  first_fits h {l} e = fit_first (legs_at xs ms) (drop 1 (legs_at xs ms)) l (legs_next xs ms 0 l h e)

-- ---- the answer

module _ (g : ℕ) (legs : List Leg) where
  pub fit_due : is_fit legs ≡ true → Ok (pos (worst_loss legs)) ≡ cash_due g legs
  unfolding first_of
  fit_due e = rw e

  pub not_fit_due : is_fit legs ≡ false → Err (refuse 21 2 g) ≡ cash_due g legs
  unfolding first_of
  not_fit_due e = rw e

module _ (g : ℕ) (placement : List Leg) {f : Result Unit Refusal} (e : f ≡ first_of (group_rule g placement)) (mills : ℕ) where
  pub cash_stop : {r : Refusal} → f ≡ Err r → Err r ≡ due_answer (first_of (cash_rule g placement)) mills
  unfolding cash_rule
  cash_stop {r} q = rw (first_stop (group_rule g placement) (ask (is_fit (group_of g placement)) 21 2 g ∷ []) r (sym e ∙ q))

  pub cash_then : f ≡ Ok tt → {a : Result ℤ Refusal} → a ≡ due_answer (first_of (ask (is_fit (group_of g placement)) 21 2 g ∷ [])) mills
      → a ≡ due_answer (first_of (cash_rule g placement)) mills
  unfolding cash_rule
  cash_then q h = rw (first_then (group_rule g placement) (ask (is_fit (group_of g placement)) 21 2 g ∷ []) (sym e ∙ q)) h

-- ---- what the call's answer says

pub due_mills : (f : Result Unit Refusal) (w : ℕ) (m : ℤ) → due_answer f w ≡ Ok m → (f ≡ Ok tt) × (m ≡ pos w)
due_mills (Ok _) w m e = (refl, cc)
due_mills (Err r) w m e = let z : ◌≡◌ {A = ℕ} 0 1 = cc in absurd (omega arith)

same_mills : (m w : ℕ) → pos m ≡ pos w → m ≡ w
same_mills m w e = cc

pub answered : (xs : List ℕ) (g mills : ℕ) → cash_call xs g ≡ Ok (pos mills)
    → Spread g (group_in xs g) × FitForCash (group_in xs g) × (mills ≡ worst_loss (group_in xs g))
unfolding cash_call cash_rule
answered xs g mills e =
    let a = due_mills _ (worst_loss (group_in xs g)) (pos mills) e in
    let rule = group_rule g (legs_of xs) in
    let fit = ask (is_fit (group_in xs g)) 21 2 g ∷ [] in
    let p = pass_right (table_checks Placement xs) (rule ++ fit) (clear _ a.0) in
    (rule_to_spread g (legs_of xs) (pass_left rule fit p), fit_facts (group_in xs g) (pass_right rule fit p).0, same_mills mills (worst_loss (group_in xs g)) a.1)

pub given : (xs : List ℕ) (g : ℕ) → first_of (table_checks Placement xs) ≡ Ok tt → Spread g (group_in xs g) → FitForCash (group_in xs g)
    → cash_call xs g ≡ Ok (pos (worst_loss (group_in xs g)))
unfolding cash_call cash_rule
given xs g t s f =
    let rule = group_rule g (legs_of xs) in
    let fit = ask (is_fit (group_in xs g)) 21 2 g ∷ [] in
    rw (first_then (table_checks Placement xs) (rule ++ fit) t, first_then rule fit (spread_to_no_refusal g (legs_of xs) s))
    (sym (fit_due g (group_in xs g) (facts_fit (group_in xs g) f)))
