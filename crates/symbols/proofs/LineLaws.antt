-- A line as text: how long it is, and how it is written piece by piece; and what is known of one that is well formed.
use Prim.Native.Nat.{ℕ, ◌+◌, ◌≤◌, ◌%◌}
use mathlib.Core.Path.{◌≡◌}
use mathlib.Core.List.{List, [], ◌∷◌, ◌++◌}
use native.Mathlib.Omega.{arith}
use lib.ListN.{length, set, length-append}
use mathlib.Core.Bool.{true, and-eq-true_iff}
use Rattle.records.specs.Within.{within}
use Rattle.records.specs.Written.{put_at}
use Rattle.records.proofs.TableLaws.{within_true}
use Rattle.records.specs.declared.legs.Leg.{Leg}
use Rattle.records.specs.Text.{newline}
use Rattle.symbols.specs.Digits.{blank, last_digits, places_of}
use Rattle.symbols.specs.Lines.{right_char, side_char, well_formed, symbol_text, line_text}
use Rattle.symbols.proofs.DigitLaws.{length_digits, places_most}
use Rattle.symbols.proofs.WriteLaws.{put_byte, put_then}

module _ (name : List ℕ) (l : Leg) (h : length name ≡ 6) where
  pub length_symbol : length (symbol_text name l) ≡ 21
  unfolding symbol_text
  length_symbol = simp (length-append, length_digits, h)

  pub length_line : length (line_text name l) ≡ 25 + places_of l.contracts.0
  unfolding line_text
  length_line = simp (length-append, length_digits, length_symbol) (omega arith)

  pub line_short : length (line_text name l) ≤ 31
  line_short = rw length_line (omega (arith, places_most l.contracts.0))

  -- ---- written piece by piece

  module _ (o0 o1 o2 o4 : List ℕ) (at c : ℕ) (r : at + 21 ≤ length o0) (k : length o2 ≡ length o0) where
    pub symbol_put : o1 ≡ put_at o0 at name → o2 ≡ put_at o1 (at + 6) (last_digits 6 (l.expiry % 1000000)) → c ≡ right_char l.right
        → o4 ≡ put_at (set o2 (at + 12) c) (at + 13) (last_digits 8 l.strike) → o4 ≡ put_at o0 at (symbol_text name l)
    unfolding symbol_text
    symbol_put e1 e2 e3 e4 =
        let date = last_digits 6 (l.expiry % 1000000) in
        let s1 = put_then o0 o1 o2 at (at + 6) name date (omega arith) e1 (rw h) e2 in
        let s2 = put_then o0 o2 (set o2 (at + 12) c) at (at + 12) (name ++ date) (c ∷ []) (omega arith) s1
        (simp (length-append, length_digits, h)) (put_byte o2 (at + 12) c (omega arith)) in
        rw e3 at (put_then o0 (set o2 (at + 12) c) o4 at (at + 13) (name ++ date ++ (c ∷ [])) (last_digits 8 l.strike) (omega arith) s2
        (simp (length-append, length_digits, h)) e4)

  module _ (o0 o1 o2 o3 : List ℕ) (at c n places : ℕ) (r : at + 31 ≤ length o0) (k : length o3 ≡ length o0) where
    pub line_put : o1 ≡ put_at o0 at (symbol_text name l) → c ≡ side_char l.side → o2 ≡ put_at o1 (at + 21) (blank ∷ c ∷ blank ∷ []) → n ≡ l.contracts.0
        → places ≡ places_of n → o3 ≡ put_at o2 (at + 24) (last_digits places n) → set o3 (at + 24 + places) newline ≡ put_at o0 at (line_text name l)
    unfolding line_text
    line_put e1 e2 e3 e4 e5 e6 =
        let q = places_most n in
        let s = symbol_text name l in
        let m = blank ∷ c ∷ blank ∷ [] in
        let s1 = put_then o0 o1 o2 at (at + 21) s m (omega arith) e1 (rw length_symbol) e3 in
        let s2 = put_then o0 o2 o3 at (at + 24) (s ++ m) (last_digits places n) (omega arith) s1 (simp (length-append, length_symbol)) e6 in
        let s3 = put_then o0 o3 (set o3 (at + 24 + places) newline) at (at + 24 + places) (s ++ m ++ last_digits places n) (newline ∷ []) (omega arith) s2
        (simp (length-append, length_digits, length_symbol) (omega arith)) (put_byte o3 (at + 24 + places) newline (omega arith)) in
        let d : last_digits places n ≡ last_digits (places_of l.contracts.0) l.contracts.0 = rw (e5, e4) in
        rw (e2, d) at s3

-- ---- read

pub formed_length : (xs : List ℕ) → well_formed xs ≡ true → (26 ≤ length xs) × (length xs ≤ 31)
unfolding well_formed
formed_length xs e = within_true 26 31 (length xs) ((and-eq-true_iff (within 26 31 (length xs)) _).0 e).0
