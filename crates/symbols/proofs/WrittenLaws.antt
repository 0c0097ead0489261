-- A leg in its ranges that is not marked as paid, written as a line with a root: the line is well formed and says that leg.
use Prim.Native.Nat.{ℕ, ◌+◌, ◌-◌, ◌%◌, ◌≤◌, ◌<◌}
use mathlib.Core.Path.{◌≡◌, refl, sym, ap, ◌∙◌}
use mathlib.Core.Bool.{true, not}
use mathlib.Core.List.{List, [], ◌∷◌, ◌++◌}
use native.Mathlib.Omega.{arith}
use lib.Dec.{eqb}
use lib.ListN.{length, get_or, drop, length-append, drop_of_length-le, get_or-append}
use lib.Seq.{take_at, get_or_at, drop-cons}
use borrow.Author.Tests.{ne_eqb, le-leb}
use Rattle.records.specs.Limits.{most_contracts}
use Rattle.records.specs.Legs.{in_range}
use Rattle.records.specs.declared.legs.Leg.{Leg}
use Rattle.records.proofs.TableLaws.{ranges}
use Rattle.records.specs.Text.{newline, digit}
use Rattle.symbols.specs.Digits.{blank, last_digits, places_of}
use Rattle.symbols.specs.Lines.{root_in, date_in, strike_in, contracts_in, right_char, side_char, well_formed, line_says, line_in_range, line_leg, symbol_text, line_text}
use Rattle.symbols.specs.Roots.{good_name, leg_terms}
use Rattle.symbols.proofs.DigitLaws.{length_digits, digits_good, value_digits, places_most, Fewest, fewest}
use Rattle.symbols.proofs.LineLaws.{length_line}
use Rattle.symbols.proofs.SplitLaws.{Ended, ended}
use Rattle.symbols.proofs.CharLaws.{real_date_lem, same_leg, name_six, name_plain, plain_append, digits_plain, right_is, side_is, right_plain, side_plain, right_back, side_back}

-- ---- the parts of the text of a line

module _ (n0 n1 n2 n3 n4 n5 : ℕ) (l : Leg) where
  abbrev name : List ℕ
  name = n0 ∷ n1 ∷ n2 ∷ n3 ∷ n4 ∷ n5 ∷ []

  abbrev said : List ℕ
  said = last_digits (places_of l.contracts.0) l.contracts.0

  root_part : root_in (line_text name l) ≡ name
  unfolding line_text symbol_text last_digits
  root_part = refl

  date_part : date_in (line_text name l) ≡ last_digits 6 (l.expiry % 1000000)
  unfolding line_text symbol_text last_digits
  date_part = refl

  right_part : get_or (line_text name l) 12 0 ≡ right_char l.right
  unfolding line_text symbol_text last_digits
  right_part = refl

  strike_part : strike_in (line_text name l) ≡ last_digits 8 l.strike
  unfolding line_text symbol_text last_digits
  strike_part = refl

  blank_part : get_or (line_text name l) 21 0 ≡ blank
  unfolding line_text symbol_text last_digits
  blank_part = refl

  side_part : get_or (line_text name l) 22 0 ≡ side_char l.side
  unfolding line_text symbol_text last_digits
  side_part = refl

  blank_part_2 : get_or (line_text name l) 23 0 ≡ blank
  unfolding line_text symbol_text last_digits
  blank_part_2 = refl

  rest_part : drop 24 (line_text name l) ≡ said ++ newline ∷ []
  unfolding line_text symbol_text last_digits
  rest_part = refl

  first_part : get_or (line_text name l) 24 0 ≡ get_or (said ++ newline ∷ []) 0 0
  unfolding line_text symbol_text last_digits
  first_part = refl

  length_part : length (line_text name l) ≡ 25 + places_of l.contracts.0
  length_part = length_line name l refl

  contracts_part : contracts_in (line_text name l) ≡ said
  contracts_part =
      let k : length (line_text name l) - 25 ≡ places_of l.contracts.0 = omega (arith, length_part) in
      rw (k, rest_part) (take_at said (newline ∷ []) (places_of l.contracts.0) (length_digits (places_of l.contracts.0) l.contracts.0))

  abbrev front : List ℕ
  front = symbol_text name l ++ (blank ∷ side_char l.side ∷ blank ∷ []) ++ said

  text_is : line_text name l ≡ front ++ newline ∷ []
  unfolding line_text
  text_is = refl

  last_part : get_or (line_text name l) (length (line_text name l) - 1) 0 ≡ newline
  last_part =
      let m : length front + 1 ≡ length (line_text name l) = sym (length-append front (newline ∷ [])) ∙ ap length (sym text_is) in
      let k : length (line_text name l) - 1 ≡ length front = omega arith in
      rw (k, text_is) (get_or_at front newline [] 0 (length front) refl)

  module _ (good : good_name name ≡ true) (r : in_range 0 l ≡ true) (unpaid : l.paid ≡ 0) where
    few : Fewest l.contracts.0
    few = let q = (ranges 0 l r).contracts in fewest l.contracts.0 q.0 (omega arith)

    first_digit : not (eqb (get_or (line_text name l) 24 0) (digit 0)) ≡ true
    first_digit =
        let k : 0 < length said = omega (arith, length_digits (places_of l.contracts.0) l.contracts.0, places_most l.contracts.0) in
        rw (first_part, get_or-append said (newline ∷ []) 0 0 k, ne_eqb (get_or said 0 0) (digit 0) few.first)

    formed : well_formed (line_text name l) ≡ true
    unfolding well_formed
    formed =
        let p = places_most l.contracts.0 in
        rw (
          le-leb 26 (length (line_text name l)) (omega (arith, length_part)),
          le-leb (length (line_text name l)) 31 (omega (arith, length_part)),
          root_part,
          good,
          date_part,
          digits_good 6 (l.expiry % 1000000),
          right_part,
          right_is l.right,
          strike_part,
          digits_good 8 l.strike,
          blank_part,
          side_part,
          side_is l.side,
          blank_part_2,
          first_digit,
          contracts_part,
          digits_good (places_of l.contracts.0) l.contracts.0,
          last_part,
        )

    says : line_says (line_text name l) ≡ record { right = l.right; expiry = l.expiry; strike = l.strike; side = l.side; contracts = l.contracts.0 }
    unfolding line_says
    says =
        let q = ranges 0 l r in
        let date : 20000000 + l.expiry % 1000000 ≡ l.expiry = omega (arith, q.expiry) in
        rw (
          right_part,
          right_back l.right q.right.0 q.right.1,
          date_part,
          value_digits 6 (l.expiry % 1000000) (omega arith),
          date,
          strike_part,
          value_digits 8 l.strike (omega (arith, q.strike)),
          side_part,
          side_back l.side q.side.0 q.side.1,
          contracts_part,
          value_digits (places_of l.contracts.0) l.contracts.0 few.reads,
        )

    range_text : line_in_range (line_says (line_text name l)) ≡ true
    unfolding line_in_range
    range_text =
        let q = ranges 0 l r in
        rw (
          says,
          real_date_lem l r,
          le-leb 1 l.strike q.strike.0,
          le-leb l.strike 99999999 q.strike.1,
          le-leb 1 l.contracts.0 q.contracts.0,
          le-leb l.contracts.0 most_contracts q.contracts.1,
        )

    leg_read : line_leg (leg_terms l) (line_says (line_text name l)) ≡ l
    unfolding line_leg leg_terms
    leg_read =
        let g : l.group ≡ 0 = omega (arith, (ranges 0 l r).group) in
        rw says (same_leg l 0 0 g unpaid)

    ends : Ended (line_text name l)
    unfolding symbol_text
    ends =
        let date = last_digits 6 (l.expiry % 1000000) in
        let strike = last_digits 8 l.strike in
        let right = right_char l.right ∷ [] in
        let p1 = plain_append name date (name_plain name good) (digits_plain date (digits_good 6 (l.expiry % 1000000))) in
        let p2 = plain_append (name ++ date) right p1 (right_plain l.right) in
        let p3 = plain_append (name ++ date ++ right) strike p2 (digits_plain strike (digits_good 8 l.strike)) in
        let p4 = plain_append (name ++ date ++ right ++ strike) (blank ∷ side_char l.side ∷ blank ∷ []) p3 (side_plain l.side) in
        let p5 = plain_append (name ++ date ++ right ++ strike ++ (blank ∷ side_char l.side ∷ blank ∷ [])) said p4
        (digits_plain said (digits_good (places_of l.contracts.0) l.contracts.0)) in
        rw text_is (ended front p5)

-- ---- a leg written and read

name_parts : (name : List ℕ) → length name ≡ 6
    → name ≡ get_or name 0 0 ∷ get_or name 1 0 ∷ get_or name 2 0 ∷ get_or name 3 0 ∷ get_or name 4 0 ∷ get_or name 5 0 ∷ []
name_parts name h =
    let six : length name ≤ 6 = omega arith in
    let none : drop 6 name ≡ [] = drop_of_length-le name six in
    drop-cons name 0 0 (omega arith)
    ∙ rw (
      drop-cons name 1 0 (omega arith),
      drop-cons name 2 0 (omega arith),
      drop-cons name 3 0 (omega arith),
      drop-cons name 4 0 (omega arith),
      drop-cons name 5 0 (omega arith),
      none,
    )

-- the line of a leg in its ranges that is not marked as paid, with a root: it is well formed and says the leg
pub record Written (name : List ℕ) (l : Leg) : Type 0 where
  pub formed : well_formed (line_text name l) ≡ true
  pub said : line_in_range (line_says (line_text name l)) ≡ true
  pub root : root_in (line_text name l) ≡ name
  pub leg : line_leg (leg_terms l) (line_says (line_text name l)) ≡ l
  pub ends : Ended (line_text name l)

pub written : (name : List ℕ) (l : Leg) → good_name name ≡ true → in_range 0 l ≡ true → l.paid ≡ 0 → Written name l
written name l g r p =
    let e = name_parts name (name_six name g) in
    let h = rw e at g in
    let n : ℕ → ℕ = λ i. get_or name i 0 in
    rw e (record {
      formed = formed (n 0) (n 1) (n 2) (n 3) (n 4) (n 5) l h r p;
      said = range_text (n 0) (n 1) (n 2) (n 3) (n 4) (n 5) l h r p;
      root = root_part (n 0) (n 1) (n 2) (n 3) (n 4) (n 5) l;
      leg = leg_read (n 0) (n 1) (n 2) (n 3) (n 4) (n 5) l h r p;
      ends = ends (n 0) (n 1) (n 2) (n 3) (n 4) (n 5) l h r p;
    })
