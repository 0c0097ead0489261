-- Legs that all have strikes of their own: no series among them is both long and short.
use Rattle.std.specs.Prelude.{Option, Some, None, is_none}
use Prim.Native.Nat.{ℕ, ◌≤◌, ◌<◌}
use mathlib.Core.Path.{◌≡◌, refl, sym, ap, ◌∙◌}
use mathlib.Core.Bool.{true, not}
use mathlib.Core.List.{List, [], ◌∷◌, Memᴰ}
use native.Mathlib.Omega.{arith}
use lib.ListN.{length}
use Rattle.records.specs.Lists.{All, all_of, Ascending}
use Rattle.records.specs.declared.legs.Leg.{Leg}
use Rattle.records.proofs.ListLaws.{all_all_of}
use Rattle.spreads.specs.Spreads.{doubled, none_doubled}
use Rattle.spreads.specs.Strikes.{insert, strikes_of}
use Rattle.spreads.specs.Steps.Search.{first_pair}
use Rattle.spreads.proofs.PairLaws.{clear_is, doubled_strike, refuted}
use Rattle.spreads.proofs.StrikeLaws.{insert_above, insert_same, insert_count, strikes_have, strikes_ascending, strikes_count}

-- ---- by what is in a list

module _ {A : Type 0} (P : A → Type 0) where
  all_in : (l : List A) {x : A} → All P l → Memᴰ x l → P x
  all_in [] a m = elim m [ ]
  all_in (y ∷ ys) a (Memᴰ.head q) = rw q a.0
  all_in (y ∷ ys) a (Memᴰ.tail m) = all_in ys a.1 m

  in_all : (l : List A) → ((x : A) → Memᴰ x l → P x) → All P l
  in_all [] f = tt
  in_all (y ∷ ys) f = (f y (Memᴰ.head refl), in_all ys (λ x m. f x (Memᴰ.tail m)))

-- ---- a strike that comes back

insert_in : (k : ℕ) (s : List ℕ) → Ascending s → Memᴰ k s → insert k s ≡ s
insert_in k [] a m = elim m [ ]
insert_in k (y ∷ ys) a (Memᴰ.head q) = insert_same k y ys q
insert_in k (y ∷ ys) a (Memᴰ.tail m) =
    rw (insert_above k y ys (all_in (λ j. y < j) ys a.0 m), insert_in k ys a.1 m)

-- the strike of one leg more, which another has
comes_back : (l : Leg) (ls : List Leg) {x : Leg} → Memᴰ x ls → l.strike ≡ x.strike → length (strikes_of (l ∷ ls)) < length (l ∷ ls)
unfolding strikes_of
comes_back l ls m e =
    let i = insert_in l.strike (strikes_of ls) (strikes_ascending ls) (rw e (all_in _ ls (strikes_have ls) m)) in
    rw i (omega (arith, strikes_count ls))

one_more : (l : Leg) (ls : List Leg) → length (strikes_of ls) < length ls → length (strikes_of (l ∷ ls)) < length (l ∷ ls)
unfolding strikes_of
one_more l ls h = omega (arith, insert_count l.strike (strikes_of ls), h)

two_at_one : (legs : List Leg) {a b : Leg} → Memᴰ a legs → Memᴰ b legs → (a ≡ b → ⊥) → a.strike ≡ b.strike
    → length (strikes_of legs) < length legs
two_at_one [] m o n e = elim m [ ]
two_at_one (l ∷ ls) (Memᴰ.head p) (Memᴰ.head q) n e = absurd (n (p ∙ sym q))
two_at_one (l ∷ ls) (Memᴰ.head p) (Memᴰ.tail m) n e = comes_back l ls m (rw (← p) e)
two_at_one (l ∷ ls) (Memᴰ.tail m) (Memᴰ.head q) n e = comes_back l ls m (rw (← q) (sym e))
two_at_one (l ∷ ls) (Memᴰ.tail m) (Memᴰ.tail o) n e = one_more l ls (two_at_one ls m o n e)

-- ---- no pair

module _ (legs : List Leg) (h : length legs ≤ length (strikes_of legs)) where
  none_two : {a b : Leg} → Memᴰ a legs → Memᴰ b legs → doubled a b ≡ true → ⊥
  none_two {a} {b} m o d =
      let p = doubled_strike a b d in
      let n : a ≡ b → ⊥ = λ e. absurd (omega (arith, p.0, p.1, ap (λ (l : Leg). l.side) e)) in
      absurd (omega (arith, h, two_at_one legs m o n p.2))

  apart_clear : none_doubled legs ≡ true
  unfolding none_doubled
  apart_clear =
      all_all_of (λ a. all_of (λ b. not (doubled a b)) legs) legs
      (in_all (λ a. all_of (λ b. not (doubled a b)) legs ≡ true) legs
      (λ a m. all_all_of (λ b. not (doubled a b)) legs (in_all (λ b. not (doubled a b) ≡ true) legs (λ b o. rw (refuted (doubled a b) (none_two m o))))))

clear_nothing : (p : Option (ℕ × ℕ)) → is_none p ≡ true → None ≡ p
clear_nothing (Some (j, i)) e = let z : ◌≡◌ {A = ℕ} 0 1 = cc in absurd (omega arith)
clear_nothing None e = refl

pub apart_nothing : (legs : List Leg) → length legs ≤ length (strikes_of legs) → None ≡ first_pair legs
apart_nothing legs h = clear_nothing (first_pair legs) (clear_is legs ∙ apart_clear legs h)
