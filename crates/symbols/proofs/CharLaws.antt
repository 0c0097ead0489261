-- Names, digits, sides and types as characters: none of them is a newline, and each says what it was written for.
use Prim.Native.Nat.{ℕ, ◌≤◌}
use mathlib.Core.Path.{◌≡◌, refl, sym}
use mathlib.Core.Bool.{Bool, true, false, cond, ◌&&◌, ◌||◌, and-eq-true_iff, false≢true}
use mathlib.Core.List.{List, [], ◌∷◌, ◌++◌}
use native.Mathlib.Omega.{arith}
use lib.Dec.{eqb, leb}
use lib.ListN.{length, get_or}
use borrow.Author.Tests.{eqb-true, le-leb, eqb-false}
use Rattle.records.specs.Dates.{real_date}
use Rattle.records.specs.Limits.{most_contracts}
use Rattle.records.specs.Legs.{in_range, terms_in_range}
use Rattle.records.specs.Lists.{all_of}
use Rattle.records.specs.Within.{within}
use Rattle.records.specs.declared.legs.Leg.{Leg}
use Rattle.records.proofs.ListLaws.{all_of_append}
use Rattle.records.proofs.TableLaws.{within_true}
use Rattle.symbols.specs.Digits.{blank, is_blank, is_letter, is_digit}
use Rattle.symbols.specs.Lines.{is_right, is_side, right_char, right_said, side_char, side_said}
use Rattle.symbols.specs.Roots.{good_name, padded}

pub real_date_lem : (l : Leg) → in_range 0 l ≡ true → real_date l.expiry ≡ true
unfolding in_range
real_date_lem l e =
    let terms = terms_in_range 0 l in
    let date = real_date l.expiry in
    let contracts = within 1 most_contracts l.contracts.0 in
    let settlement = within 0 2 l.settlement in
    let p = (and-eq-true_iff (terms && date && contracts && settlement) (within 0 1 l.paid)).0 e in
    let s = (and-eq-true_iff (terms && date && contracts) settlement).0 p.0 in
    let k = (and-eq-true_iff (terms && date) contracts).0 s.0 in
    ((and-eq-true_iff terms date).0 k.0).1

-- a leg of these fields
pub same_leg : (l : Leg) (g p : ℕ) → l.group ≡ g → l.paid ≡ p
    → record {
      group = g;
      side = l.side;
      right = l.right;
      style = l.style;
      market = l.market;
      size = l.size;
      underlying = l.underlying;
      strike = l.strike;
      expiry = l.expiry;
      contracts = l.contracts;
      settlement = l.settlement;
      paid = p;
    }
    ≡ l
same_leg l g p e f = rw (← e, ← f)

-- ---- a name has six characters, none of them a newline

pub name_six : (name : List ℕ) → good_name name ≡ true → length name ≡ 6
unfolding good_name
name_six name e =
    let p = (and-eq-true_iff _ (padded name)).0 e in
    eqb-true (length name) 6 ((and-eq-true_iff (eqb (length name) 6) _).0 p.0).0

padded_plain : (cs : List ℕ) → padded cs ≡ true → all_of (leb 32) cs ≡ true
unfolding padded all_of
padded_plain [] e = refl
padded_plain (c ∷ cs) e = go (is_blank c) refl e (padded_plain cs)
  where
    blanks : (xs : List ℕ) → all_of is_blank xs ≡ true → all_of (leb 32) xs ≡ true
    blanks [] a = refl
    blanks (x ∷ xs) a =
        let p = (and-eq-true_iff (is_blank x) (all_of is_blank xs)).0 a in
        rw (eqb-true x 32 p.0) (blanks xs p.1)

    above : (b d : Bool) → is_letter c ≡ b → is_digit c ≡ d → (b || d) ≡ true → leb 32 c ≡ true
    above true d p q r = le-leb 32 c (omega (arith, within_true 65 90 c p))
    above false true p q r = le-leb 32 c (omega (arith, within_true 48 57 c q))
    above false false p q r = absurd (false≢true r)

    go : (b : Bool) → is_blank c ≡ b → cond b (all_of is_blank cs) ((is_letter c || is_digit c) && padded cs) ≡ true
        → (padded cs ≡ true → all_of (leb 32) cs ≡ true) → (leb 32 c && all_of (leb 32) cs) ≡ true
    go true q r f = rw (eqb-true c 32 q) (blanks cs r)
    go false q r f =
        let p = (and-eq-true_iff (is_letter c || is_digit c) (padded cs)).0 r in
        rw (above (is_letter c) (is_digit c) refl refl p.0) (f p.1)

pub name_plain : (name : List ℕ) → good_name name ≡ true → all_of (leb 32) name ≡ true
unfolding good_name
name_plain name e = padded_plain name ((and-eq-true_iff (eqb (length name) 6 && is_letter (get_or name 0 0)) (padded name)).0 e).1

pub plain_append : (a b : List ℕ) → all_of (leb 32) a ≡ true → all_of (leb 32) b ≡ true → all_of (leb 32) (a ++ b) ≡ true
plain_append a b p q = rw (all_of_append (leb 32) a b, p, q)

pub digits_plain : (ds : List ℕ) → all_of is_digit ds ≡ true → all_of (leb 32) ds ≡ true
unfolding all_of
digits_plain [] e = refl
digits_plain (d ∷ ds) e =
    let p = (and-eq-true_iff (is_digit d) (all_of is_digit ds)).0 e in
    rw (le-leb 32 d (omega (arith, within_true 48 57 d p.0))) (digits_plain ds p.1)

-- ---- sides and types, as characters

pub right_is : (r : ℕ) → is_right (right_char r) ≡ true
right_is r = go (eqb r 1)
  where
    go : (b : Bool) → is_right (cond b 67 80) ≡ true
    go true = refl
    go false = refl

pub side_is : (s : ℕ) → is_side (side_char s) ≡ true
side_is s = go (eqb s 1)
  where
    go : (b : Bool) → is_side (cond b 76 83) ≡ true
    go true = refl
    go false = refl

pub right_plain : (r : ℕ) → all_of (leb 32) (right_char r ∷ []) ≡ true
unfolding all_of
right_plain r = go (eqb r 1)
  where
    go : (b : Bool) → (leb 32 (cond b 67 80) && true) ≡ true
    go true = refl
    go false = refl

pub side_plain : (s : ℕ) → all_of (leb 32) (blank ∷ side_char s ∷ blank ∷ []) ≡ true
unfolding all_of
side_plain s = go (eqb s 1)
  where
    go : (b : Bool) → (leb 32 blank && (leb 32 (cond b 76 83) && (leb 32 blank && true))) ≡ true
    go true = refl
    go false = refl

pub right_back : (r : ℕ) → 1 ≤ r → r ≤ 2 → right_said (right_char r) ≡ r
right_back r h g = go (eqb r 1) refl
  where
    go : (b : Bool) → eqb r 1 ≡ b → right_said (cond b 67 80) ≡ r
    go true e = sym (eqb-true r 1 e)
    go false e = let f = eqb-false r 1 e in omega arith

pub side_back : (s : ℕ) → 1 ≤ s → s ≤ 2 → side_said (side_char s) ≡ s
side_back s h g = go (eqb s 1) refl
  where
    go : (b : Bool) → eqb s 1 ≡ b → side_said (cond b 76 83) ≡ s
    go true e = sym (eqb-true s 1 e)
    go false e = let f = eqb-false s 1 e in omega arith
