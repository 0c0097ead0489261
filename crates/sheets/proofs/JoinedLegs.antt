-- A placement whose last group is put into an earlier one: its groups, its lines, and what the rule asks of its legs.
use mathlib.Core.Path.{◌≡◌, refl, sym, ◌∙◌}
use mathlib.Core.Bool.{true, cond}
use mathlib.Core.List.{List, [], ◌∷◌}
use mathlib.Core.Logic.{◌≢◌}
use Prim.Native.Nat.{ℕ, ◌+◌, ◌*◌, ◌≤◌}
use native.Mathlib.Decide.{ℕ_discrete}
use native.Mathlib.Omega.{arith}
use lib.Dec.{eqb}
use borrow.Author.Tests.{eq-eqb, ne_eqb}
use Rattle.records.specs.Legs.{is_long, is_short, is_paid, with_group}
use Rattle.records.specs.Lines.{same_line_side, contracts_of}
use Rattle.records.specs.Lists.{All, only, sum_of, keep}
use Rattle.records.specs.declared.legs.Leg.{Leg}
use Rattle.records.proofs.ListLaws.{every, map_all}
use Rattle.records.proofs.Measures.{sum_ext, sum_keep, sum_lin, sum_map}
use Rattle.spreads.specs.Prices.{intrinsic, value, long_at, short_at, at}
use Rattle.spreads.specs.Spreads.{group_of}
use Rattle.spreads.proofs.Laws.{Together}
use Rattle.sheets.specs.Joined.{joined_leg, joined_placement}

module _ (last g : ℕ) where
  -- a leg of the last group, and any other
  pub either_way : (P : Leg → Type 0) (l : Leg) → (l.group ≡ last → P (with_group l g)) → (l.group ≢ last → P l) → P (joined_leg last g l)
  unfolding joined_leg
  either_way P l moved stays =
      elim (ℕ_discrete l.group last) [
        | yes e ↦ rw (eq-eqb l.group last e) (moved e)
        | no k ↦ rw (ne_eqb l.group last k) (stays k)
      ]

  -- ---- groups

  -- every group but the two stays
  pub group_stays : (k : ℕ) → k ≢ g → k ≢ last → (p : List Leg) → group_of k (joined_placement last g p) ≡ group_of k p
  unfolding group_of keep with_group
  group_stays k a b [] = refl
  group_stays k a b (l ∷ p) =
      rw (group_stays k a b p)
      (either_way (λ x. cond (eqb x.group k) (x ∷ keep (λ y. eqb y.group k) p) (keep (λ y. eqb y.group k) p)
      ≡ cond (eqb l.group k) (l ∷ keep (λ y. eqb y.group k) p) (keep (λ y. eqb y.group k) p)) l
      (λ e. rw (ne_eqb g k (λ q. a (sym q)), ne_eqb l.group k (λ q. b (sym q ∙ e))))
      (λ q. refl))

  -- in group g stand the legs of the two: so of any sum that does not look at the group
  joined_sum : g ≢ last → (f : Leg → ℕ) → ((l : Leg) → f (with_group l g) ≡ f l) → (p : List Leg)
      → sum_of f (group_of g (joined_placement last g p)) ≡ sum_of f (group_of g p) + sum_of f (group_of last p)
  unfolding group_of with_group
  joined_sum ne f blind p =
      omega (
        arith,
        sum_keep f (λ l. eqb l.group g) (joined_placement last g p),
        sum_map (joined_leg last g) (λ l. only (eqb l.group g) (f l)) p,
        sum_keep f (λ l. eqb l.group g) p,
        sum_keep f (λ l. eqb l.group last) p,
        sum_lin 1 1 1 (λ l. only (eqb (joined_leg last g l).group g) (f (joined_leg last g l))) (λ l. only (eqb l.group g) (f l)) (λ l. only (eqb l.group last) (f l)) p
            (every p
            (λ l.
            either_way (λ x. 1 * only (eqb x.group g) (f x) ≡ 1 * only (eqb l.group g) (f l) + 1 * only (eqb l.group last) (f l)) l
            (λ e. rw (eq-eqb g g refl, blind l, ne_eqb l.group g (λ q. ne (sym q ∙ e)), eq-eqb l.group last e) (omega arith))
            (λ k. rw (ne_eqb l.group last k) (omega arith)))),
      )

  pub joined_together : g ≢ last → (p : List Leg) → Together (group_of g p) (group_of last p) (group_of g (joined_placement last g p))
  unfolding long_at short_at value intrinsic with_group
  joined_together ne p =
      record {
        longs = λ n. joined_sum ne (λ l. only (is_long l) (value 1 (at n) l)) (λ l. refl) p;
        shorts = λ n. joined_sum ne (λ l. only (is_short l) (value 1 (at n) l)) (λ l. refl) p;
      }

  -- ---- what the rule of a sheet asks of the legs

  pub contracts_stay : (x : Leg) (p : List Leg) → contracts_of x (joined_placement last g p) ≡ contracts_of x p
  unfolding contracts_of same_line_side with_group
  contracts_stay x p =
      sum_map (joined_leg last g) (λ y. only (same_line_side x y) y.contracts.0) p
      ∙ sum_ext _ _ p
      (every p
      (λ y.
      either_way (λ z. only (same_line_side x z) z.contracts.0 ≡ only (same_line_side x y) y.contracts.0) y
      (λ e. refl)
      (λ k. refl)))

  pub all_named : (n : ℕ) → last ≡ n + 1 → g ≤ n → (p : List Leg) → All (λ l. l.group ≤ last) p → All (λ l. l.group ≤ n) (joined_placement last g p)
  unfolding with_group
  all_named n e h p =
      map_all (joined_leg last g) (λ l. l.group ≤ n) (λ l. l.group ≤ last) p
      (λ l q. either_way (λ x. x.group ≤ n) l (λ m. h) (λ k. omega arith))

  module _ (low : 1 ≤ g) where
    pub shorts_placed : (p : List Leg) → All (λ l. is_short l ≡ true → l.group ≢ 0) p → All (λ l. is_short l ≡ true → l.group ≢ 0) (joined_placement last g p)
    unfolding with_group
    shorts_placed p =
        map_all (joined_leg last g) (λ l. is_short l ≡ true → l.group ≢ 0) (λ l. is_short l ≡ true → l.group ≢ 0) p
        (λ l q. either_way (λ x. is_short x ≡ true → x.group ≢ 0) l (λ m s z. (let no : ⊥ = omega arith in no)) (λ k. q))

    pub longs_paid : (p : List Leg) → All (λ l. is_long l ≡ true → l.group ≡ 0 → is_paid l ≡ true) p
        → All (λ l. is_long l ≡ true → l.group ≡ 0 → is_paid l ≡ true) (joined_placement last g p)
    unfolding with_group
    longs_paid p =
        map_all (joined_leg last g) (λ l. is_long l ≡ true → l.group ≡ 0 → is_paid l ≡ true) (λ l. is_long l ≡ true → l.group ≡ 0 → is_paid l ≡ true) p
        (λ l q. either_way (λ x. is_long x ≡ true → x.group ≡ 0 → is_paid x ≡ true) l (λ m s z. absurd (omega arith)) (λ k. q))
