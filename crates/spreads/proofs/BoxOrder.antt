-- A long box is one whatever the order of its records, and however a record is split.
use Prim.Native.Nat.{ℕ, ◌+◌, ◌*◌, ◌<◌}
use mathlib.Core.Path.{◌≡◌, refl, sym, ap, ◌∙◌}
use mathlib.Core.Bool.{Bool, true, false, ◌&&◌}
use mathlib.Core.List.{List, [], ◌∷◌, ◌++◌}
use native.Mathlib.Decide.{dec_lt}
use native.Mathlib.Omega.{arith}
use lib.Dec.{eqb}
use Rattle.records.specs.Lists.{only, sum_of, All}
use Rattle.records.specs.Legs.{with_contracts}
use Rattle.records.specs.declared.legs.Leg.{Leg}
use Rattle.spreads.specs.Strikes.{insert, strikes_of}
use Rattle.spreads.specs.Boxes.{units_at, is_box_leg, LongBox}
use Rattle.spreads.specs.Demands.{of_contracts}
use Rattle.spreads.proofs.Inserting.{inserting}
use Rattle.spreads.proofs.Inserting as at

-- ---- what two lists of legs share that are the same legs in another order, or split otherwise

abbrev kind_units : ℕ → ℕ → ℕ → List Leg → ℕ
kind_units side right k legs = units_at (λ l. eqb l.side side) (λ l. eqb l.right right) k legs

pub record SameLegs (a b : List Leg) : Type 0 where
  pub strikes : strikes_of a ≡ strikes_of b
  pub units : (side right k : ℕ) → kind_units side right k a ≡ kind_units side right k b
  pub style : All (λ l. l.style ≡ 2) a → All (λ l. l.style ≡ 2) b
  pub expiry : (e : ℕ) → All (λ l. l.expiry ≡ e) a → All (λ l. l.expiry ≡ e) b
  pub kinds : (low high : ℕ) → All (λ l. is_box_leg low high l ≡ true) a → All (λ l. is_box_leg low high l ≡ true) b

pub box_same : (a b : List Leg) → SameLegs a b → LongBox a → LongBox b
box_same a b s x =
    record {
      european = s.style x.european;
      low = x.low;
      high = x.high;
      strikes = sym s.strikes ∙ x.strikes;
      apart = x.apart;
      expiry = (x.expiry.0, s.expiry x.expiry.0 x.expiry.1);
      units = x.units;
      low_calls = sym (s.units 1 1 x.low) ∙ x.low_calls;
      high_calls = sym (s.units 2 1 x.high) ∙ x.high_calls;
      high_puts = sym (s.units 1 2 x.high) ∙ x.high_puts;
      low_puts = sym (s.units 2 2 x.low) ∙ x.low_puts;
      others = s.kinds x.low x.high x.others;
    }

-- ---- strikes inserted

module _ (k x : ℕ) (xs : List ℕ) where
  insert_before : k < x → insert k (x ∷ xs) ≡ k ∷ x ∷ xs
  insert_before h = elim (inserting k x xs) [ at.before a e ↦ e | at.behind a e ↦ absurd (omega arith) | at.there a e ↦ absurd (omega arith) ]

  insert_behind : x < k → insert k (x ∷ xs) ≡ x ∷ insert k xs
  insert_behind h = elim (inserting k x xs) [ at.before a e ↦ absurd (omega arith) | at.behind a e ↦ e | at.there a e ↦ absurd (omega arith) ]

  insert_there : k ≡ x → insert k (x ∷ xs) ≡ x ∷ xs
  insert_there h = elim (inserting k x xs) [ at.before a e ↦ absurd (omega arith) | at.behind a e ↦ absurd (omega arith) | at.there a e ↦ e ]

-- a lesser and a greater one
insert_less : (j k : ℕ) (s : List ℕ) → j < k → insert j (insert k s) ≡ insert k (insert j s)
unfolding insert
insert_less j k [] h = insert_before j k [] h ∙ sym (insert_behind k j [] h)
insert_less j k (x ∷ xs) h =
    elim (inserting j x xs) [
      | at.before a e ↦
          let r : insert k (insert j (x ∷ xs)) ≡ j ∷ insert k (x ∷ xs) = ap (insert k) e ∙ insert_behind k j (x ∷ xs) h in
          elim (inserting k x xs) [
            | at.before b f ↦ ap (insert j) f ∙ insert_before j k (x ∷ xs) h ∙ sym (r ∙ ap (λ (t : List ℕ). j ∷ t) f)
            | at.behind b f ↦ ap (insert j) f ∙ insert_before j x (insert k xs) a ∙ sym (r ∙ ap (λ (t : List ℕ). j ∷ t) f)
            | at.there b f ↦ ap (insert j) f ∙ e ∙ sym (r ∙ ap (λ (t : List ℕ). j ∷ t) f)
          ]
      | at.behind a e ↦
          let l : insert j (insert k (x ∷ xs)) ≡ x ∷ insert j (insert k xs) = ap (insert j) (insert_behind k x xs (omega arith)) ∙ insert_behind j x (insert k xs) a in
          let r : insert k (insert j (x ∷ xs)) ≡ x ∷ insert k (insert j xs) = ap (insert k) e ∙ insert_behind k x (insert j xs) (omega arith) in
          l ∙ ap (λ (t : List ℕ). x ∷ t) (insert_less j k xs h) ∙ sym r
      | at.there a e ↦
          let f = insert_behind k x xs (omega arith) in
          ap (insert j) f ∙ insert_there j x (insert k xs) a ∙ sym (ap (insert k) e ∙ f)
    ]

insert_swap : (j k : ℕ) (s : List ℕ) → insert j (insert k s) ≡ insert k (insert j s)
insert_swap j k s =
    elim (dec_lt j k) [
      | yes h ↦ insert_less j k s h
      | no h ↦ elim (dec_lt k j) [ yes g ↦ sym (insert_less k j s g) | no g ↦ let e : j ≡ k = omega arith in rw e ]
    ]

insert_twice : (k : ℕ) (s : List ℕ) → insert k s ≡ insert k (insert k s)
unfolding insert
insert_twice k [] = sym (insert_there k k [] refl)
insert_twice k (x ∷ xs) =
    elim (inserting k x xs) [
      | at.before a e ↦ e ∙ sym (ap (insert k) e ∙ insert_there k k (x ∷ xs) refl)
      | at.behind a e ↦ e ∙ ap (λ (t : List ℕ). x ∷ t) (insert_twice k xs) ∙ sym (ap (insert k) e ∙ insert_behind k x (insert k xs) a)
      | at.there a e ↦ e ∙ sym (ap (insert k) e ∙ e)
    ]

-- ---- the same behind some legs

same_after : (l : Leg) (a b : List Leg) → SameLegs a b → SameLegs (l ∷ a) (l ∷ b)
unfolding strikes_of units_at sum_of
same_after l a b s =
    record {
      strikes = ap (insert l.strike) s.strikes;
      units = λ side right k. omega (arith, s.units side right k);
      style = λ p. (p.0, s.style p.1);
      expiry = λ e p. (p.0, s.expiry e p.1);
      kinds = λ low high p. (p.0, s.kinds low high p.1);
    }

same_behind : (first a b : List Leg) → SameLegs a b → SameLegs (first ++ a) (first ++ b)
same_behind [] a b s = s
same_behind (l ∷ ls) a b s = same_after l (ls ++ a) (ls ++ b) (same_behind ls a b s)

-- ---- two neighbours exchanged

swapped : (x y : Leg) (b : List Leg) → SameLegs (x ∷ y ∷ b) (y ∷ x ∷ b)
unfolding strikes_of units_at sum_of
swapped x y b =
    record {
      strikes = insert_swap x.strike y.strike (strikes_of b);
      units = λ side right k. omega arith;
      style = λ p. (p.1.0, (p.0, p.1.1));
      expiry = λ e p. (p.1.0, (p.0, p.1.1));
      kinds = λ low high p. (p.1.0, (p.0, p.1.1));
    }

-- any order: neighbours may be exchanged anywhere
pub box_swap : (a b : List Leg) (x y : Leg) → LongBox (a ++ x ∷ y ∷ b) → LongBox (a ++ y ∷ x ∷ b)
box_swap a b x y = box_same _ _ (same_behind a (x ∷ y ∷ b) (y ∷ x ∷ b) (swapped x y b))

-- ---- a record split in two

kind_split : (t : Bool) (m n size : ℕ) → only t ((m + n) * size) ≡ only t (m * size) + only t (n * size)
kind_split true m n size = omega arith
kind_split false m n size = omega arith

split : (l : Leg) (m n : ℕ) (b : List Leg) → SameLegs (of_contracts (m + n) l ∷ b) (of_contracts m l ∷ of_contracts n l ∷ b)
unfolding with_contracts strikes_of units_at sum_of is_box_leg
split l m n b =
    record {
      strikes = insert_twice l.strike (strikes_of b);
      units = λ side right k. omega (arith, kind_split (eqb l.side side && eqb l.right right && eqb l.strike k) m n l.size);
      style = λ p. (p.0, (p.0, p.1));
      expiry = λ e p. (p.0, (p.0, p.1));
      kinds = λ low high p. (p.0, (p.0, p.1));
    }

pub box_split : (a b : List Leg) (l : Leg) (m n : ℕ) → LongBox (a ++ of_contracts (m + n) l ∷ b) → LongBox (a ++ of_contracts m l ∷ of_contracts n l ∷ b)
box_split a b l m n = box_same _ _ (same_behind a (of_contracts (m + n) l ∷ b) (of_contracts m l ∷ of_contracts n l ∷ b) (split l m n b))

-- and the other way, two records of one line made one
joined : (l : Leg) (m n : ℕ) (b : List Leg) → SameLegs (of_contracts m l ∷ of_contracts n l ∷ b) (of_contracts (m + n) l ∷ b)
unfolding with_contracts is_box_leg
joined l m n b =
    let s = split l m n b in
    record {
      strikes = sym s.strikes;
      units = λ side right k. sym (s.units side right k);
      style = λ p. (p.0, p.1.1);
      expiry = λ e p. (p.0, p.1.1);
      kinds = λ low high p. (p.0, p.1.1);
    }

pub box_join : (a b : List Leg) (l : Leg) (m n : ℕ) → LongBox (a ++ of_contracts m l ∷ of_contracts n l ∷ b) → LongBox (a ++ of_contracts (m + n) l ∷ b)
box_join a b l m n = box_same _ _ (same_behind a (of_contracts m l ∷ of_contracts n l ∷ b) (of_contracts (m + n) l ∷ b) (joined l m n b))
