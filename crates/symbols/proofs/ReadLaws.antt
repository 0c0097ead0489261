-- What a line says is written as that line, whatever the terms of its root; and the leg of a line is in its ranges.
use Prim.Native.Nat.{ℕ, suc, ◌+◌, ◌-◌, ◌%◌, ◌^◌, ◌≤◌, ◌<◌}
use mathlib.Core.Path.{◌≡◌, refl, sym, ◌∙◌}
use mathlib.Core.Bool.{Bool, true, false, not, cond, ◌&&◌, ◌||◌, and-eq-true_iff, false≢true}
use mathlib.Core.List.{List, [], ◌∷◌, ◌++◌, append_assoc}
use native.Mathlib.Omega.{arith}
use lib.Dec.{eqb}
use lib.ListN.{length, get_or, take, drop, length-take, length-drop}
use lib.Seq.{take-add, take_all, take-suc, get_or-take, get_or-drop}
use borrow.Author.Tests.{eqb-true, not-true, eqb-false}
use Rattle.records.specs.Dates.{real_date}
use Rattle.records.specs.Limits.{most_contracts}
use Rattle.records.specs.Legs.{in_range, terms_in_range}
use Rattle.records.specs.Lists.{all_of}
use Rattle.records.specs.Within.{within}
use Rattle.records.proofs.TableLaws.{within_true}
use Rattle.records.specs.Text.{newline, digit, value_of}
use Rattle.symbols.specs.Digits.{blank, is_digit, last_digits, places_of}
use Rattle.symbols.specs.Lines.{root_in, date_in, strike_in, contracts_in, is_right, is_side, right_char, right_said, side_char, side_said, well_formed, line_says, line_in_range, line_leg, symbol_text, line_text}
use Rattle.symbols.specs.Roots.{good_name, good_terms}
use Rattle.symbols.specs.declared.roots.Terms.{Terms}
use Rattle.symbols.proofs.DigitLaws.{digits_back, value_below, places_back}

-- what is known of a line that is well formed
record Formed (xs : List ℕ) : Type 0 where
  pub lengths : (26 ≤ length xs) × (length xs ≤ 31)
  pub root : good_name (root_in xs) ≡ true
  pub date : all_of is_digit (date_in xs) ≡ true
  pub right : is_right (get_or xs 12 0) ≡ true
  pub strike : all_of is_digit (strike_in xs) ≡ true
  pub blank_1 : get_or xs 21 0 ≡ blank
  pub side : is_side (get_or xs 22 0) ≡ true
  pub blank_2 : get_or xs 23 0 ≡ blank
  pub first : get_or xs 24 0 ≡ digit 0 → ⊥
  pub contracts : all_of is_digit (contracts_in xs) ≡ true
  pub last : get_or xs (length xs - 1) 0 ≡ newline

formed_parts : (xs : List ℕ) → well_formed xs ≡ true → Formed xs
unfolding well_formed
formed_parts xs e =
    let a = good_name (root_in xs) in
    let b = all_of is_digit (date_in xs) in
    let c = is_right (get_or xs 12 0) in
    let d = all_of is_digit (strike_in xs) in
    let f = eqb (get_or xs 21 0) blank in
    let g = is_side (get_or xs 22 0) in
    let h = eqb (get_or xs 23 0) blank in
    let i = not (eqb (get_or xs 24 0) (digit 0)) in
    let j = all_of is_digit (contracts_in xs) in
    let k = eqb (get_or xs (length xs - 1) 0) newline in
    let p0 = (and-eq-true_iff (within 26 31 (length xs)) (a && b && c && d && f && g && h && i && j && k)).0 e in
    let p9 = (and-eq-true_iff (a && b && c && d && f && g && h && i && j) k).0 p0.1 in
    let p8 = (and-eq-true_iff (a && b && c && d && f && g && h && i) j).0 p9.0 in
    let p7 = (and-eq-true_iff (a && b && c && d && f && g && h) i).0 p8.0 in
    let p6 = (and-eq-true_iff (a && b && c && d && f && g) h).0 p7.0 in
    let p5 = (and-eq-true_iff (a && b && c && d && f) g).0 p6.0 in
    let p4 = (and-eq-true_iff (a && b && c && d) f).0 p5.0 in
    let p3 = (and-eq-true_iff (a && b && c) d).0 p4.0 in
    let p2 = (and-eq-true_iff (a && b) c).0 p3.0 in
    let p1 = (and-eq-true_iff a b).0 p2.0 in
    record {
      lengths = within_true 26 31 (length xs) p0.0;
      root = p1.0;
      date = p1.1;
      right = p2.1;
      strike = p3.1;
      blank_1 = eqb-true (get_or xs 21 0) blank p4.1;
      side = p5.1;
      blank_2 = eqb-true (get_or xs 23 0) blank p6.1;
      first = eqb-false (get_or xs 24 0) (digit 0) (not-true (eqb (get_or xs 24 0) (digit 0)) p7.1);
      contracts = p8.1;
      last = eqb-true (get_or xs (length xs - 1) 0) newline p9.1;
    }

char_right : (c : ℕ) → is_right c ≡ true → right_char (right_said c) ≡ c
char_right c e = go (eqb c 67) refl (eqb c 80) refl e
  where
    go : (a : Bool) → eqb c 67 ≡ a → (b : Bool) → eqb c 80 ≡ b → (a || b) ≡ true → right_char (cond a 1 2) ≡ c
    go true p b q r = sym (eqb-true c 67 p)
    go false p true q r = sym (eqb-true c 80 q)
    go false p false q r = absurd (false≢true r)

char_side : (c : ℕ) → is_side c ≡ true → side_char (side_said c) ≡ c
char_side c e = go (eqb c 76) refl (eqb c 83) refl e
  where
    go : (a : Bool) → eqb c 76 ≡ a → (b : Bool) → eqb c 83 ≡ b → (a || b) ≡ true → side_char (cond a 1 2) ≡ c
    go true p b q r = sym (eqb-true c 76 p)
    go false p true q r = sym (eqb-true c 83 q)
    go false p false q r = absurd (false≢true r)

-- one part more, or one character more
and_part : (n m k : ℕ) (xs : List ℕ) → k ≡ n + m → take n xs ++ take m (drop n xs) ≡ take k xs
and_part n m k xs e = rw e (sym (take-add n m xs))

and_char : (n k : ℕ) (xs : List ℕ) → n < length xs → k ≡ suc n → take n xs ++ get_or xs n 0 ∷ [] ≡ take k xs
and_char n k xs h e = rw e (sym (take-suc xs n 0 h))

-- the parts joined are the line
joined : (xs : List ℕ) → 26 ≤ length xs
    → root_in xs ++ date_in xs ++ (get_or xs 12 0 ∷ []) ++ strike_in xs ++ (get_or xs 21 0 ∷ get_or xs 22 0 ∷ get_or xs 23 0 ∷ []) ++ contracts_in xs
    ++ (get_or xs (length xs - 1) 0 ∷ []) ≡ xs
joined xs h =
    let marks : take 21 xs ++ (get_or xs 21 0 ∷ get_or xs 22 0 ∷ get_or xs 23 0 ∷ []) ≡ take 24 xs =
    sym (append_assoc (take 21 xs) (get_or xs 21 0 ∷ []) (get_or xs 22 0 ∷ get_or xs 23 0 ∷ []))
    ∙ rw (and_char 21 22 xs (omega arith) refl) (sym (append_assoc (take 22 xs) (get_or xs 22 0 ∷ []) (get_or xs 23 0 ∷ []))
    ∙ rw (and_char 22 23 xs (omega arith) refl) (and_char 23 24 xs (omega arith) refl)) in
    rw (
      and_part 6 6 12 xs refl,
      and_char 12 13 xs (omega arith) refl,
      and_part 13 8 21 xs refl,
      marks,
      and_part 24 (length xs - 25) (length xs - 1) xs (omega arith),
      and_char (length xs - 1) (length xs) xs (omega arith) (omega arith),
    )
    (take_all (length xs) xs (omega arith))

contracts_back : (cs : List ℕ) → 1 ≤ length cs → length cs ≤ 6 → all_of is_digit cs ≡ true → (get_or cs 0 0 ≡ digit 0 → ⊥)
    → last_digits (places_of (value_of cs)) (value_of cs) ≡ cs
contracts_back [] h g e f = absurd (omega arith)
contracts_back (d ∷ ds) h g e f = places_back d ds e f (omega arith)

-- what a line says is written as that line, whatever the terms of its root
pub read_back : (xs : List ℕ) (t : Terms) → well_formed xs ≡ true → line_text (root_in xs) (line_leg t (line_says xs)) ≡ xs
unfolding line_text symbol_text line_leg line_says
read_back xs t e =
    let f = formed_parts xs e in
    let l = f.lengths in
    let v = value_of (date_in xs) in
    let six : length (date_in xs) ≡ 6 = simp (length-take, length-drop) (omega arith) in
    let eight : length (strike_in xs) ≡ 8 = simp (length-take, length-drop) (omega arith) in
    let some : length (contracts_in xs) ≡ length xs - 25 = simp (length-take, length-drop) (omega arith) in
    let below : v < 10 ^ 6 = rw six at (value_below (date_in xs) f.date) in
    let day : (20000000 + v) % 1000000 ≡ v = omega arith in
    let date : last_digits 6 v ≡ date_in xs = rw six at (digits_back (date_in xs) f.date) in
    let strike : last_digits 8 (value_of (strike_in xs)) ≡ strike_in xs = rw eight at (digits_back (strike_in xs) f.strike) in
    let start : get_or (contracts_in xs) 0 0 ≡ get_or xs 24 0 = get_or-take (length xs - 25) (drop 24 xs) 0 0 (omega arith) ∙ get_or-drop 24 xs 0 0 in
    let contracts = contracts_back (contracts_in xs) (omega arith) (omega arith) f.contracts (λ z. f.first (sym start ∙ z)) in
    rw (day, date, char_right (get_or xs 12 0) f.right, strike, char_side (get_or xs 22 0) f.side, contracts)
    (rw (f.blank_1, f.blank_2, f.last) at (joined xs l.0))

-- ---- the leg of a line is in its ranges

one_or_two : (b : Bool) → within 1 2 (cond b 1 2) ≡ true
one_or_two true = refl
one_or_two false = refl

pub leg_sound : (t : Terms) (xs : List ℕ) → good_terms t ≡ true → line_in_range (line_says xs) ≡ true → in_range 0 (line_leg t (line_says xs)) ≡ true
unfolding in_range terms_in_range line_leg good_terms line_in_range line_says
leg_sound t xs g s =
    let style = within 1 2 t.style in
    let market = within 1 2 t.market in
    let size = within 1 1000 t.size in
    let settlement = within 0 2 t.settlement in
    let date = real_date (line_says xs).expiry in
    let strike = within 1 99999999 (line_says xs).strike in
    let p4 = (and-eq-true_iff (style && market && size && settlement) (within 1 4294967295 t.underlying)).0 g in
    let p3 = (and-eq-true_iff (style && market && size) settlement).0 p4.0 in
    let p2 = (and-eq-true_iff (style && market) size).0 p3.0 in
    let p1 = (and-eq-true_iff style market).0 p2.0 in
    let q2 = (and-eq-true_iff (date && strike) (within 1 most_contracts (line_says xs).contracts)).0 s in
    let q1 = (and-eq-true_iff date strike).0 q2.0 in
    rw (
      one_or_two (eqb (get_or xs 22 0) 76),
      one_or_two (eqb (get_or xs 12 0) 67),
      p1.0,
      p1.1,
      p2.1,
      p4.1,
      q1.1,
      q1.0,
      q2.1,
      p3.1,
    )
