-- What is read back from a printed table is the table.
use mathlib.Core.Path.{◌≡◌, refl, ap, ◌∙◌}
use mathlib.Core.Bool.{false}
use mathlib.Core.List.{List, [], ◌∷◌, ◌++◌, append_assoc, append-nil}
use Prim.Native.Nat.{ℕ, suc, ◌≤◌}
use native.Mathlib.Omega.{arith}
use lib.Dec.{eqb}
use lib.IntN.{ℤ, pos, negsuc}
use lib.ListN.{length}
use borrow.Author.Tests.{eq-eqb, ne_eqb}
use Rattle.records.specs.Lists.{All}
use Rattle.records.proofs.ListLaws.{all_map, all_append}
use Rattle.verdicts.specs.Printed.{space, newline, line, decimal_of, amount_of}
use Rattle.verdicts.specs.TableText.{Shown, group_word, group_line, strike_line, strike_lines, group_text, shown_text}
use Rattle.verdicts.specs.ReadBack.{value_of, amount_in, parts_by, Below, lines_read, table_in}
use Rattle.verdicts.proofs.DecimalLaws.{IsDigit, decimal_value, decimal_digits_lem, decimal_some}

-- ---- parts

abbrev Other : ℕ → List ℕ → Type 0
Other end w = All (λ x. eqb x end ≡ false) w

parts_ended : (end : ℕ) (w rest : List ℕ) → Other end w → parts_by end (w ++ end ∷ rest) ≡ w ∷ parts_by end rest
unfolding parts_by
parts_ended end [] rest a = rw (eq-eqb end end refl)
parts_ended end (x ∷ w) rest a = rw (a.0, parts_ended end w rest a.1)

parts_last : (end x : ℕ) (w : List ℕ) → Other end (x ∷ w) → parts_by end (x ∷ w) ≡ (x ∷ w) ∷ []
unfolding parts_by
parts_last end x [] a = rw a.0
parts_last end x (y ∷ w) a = rw (a.0, parts_last end y w a.1)

-- a word: one character at least, none of them a space or a newline
pub record Word (w : List ℕ) : Type 0 where
  pub some : 1 ≤ length w
  pub plain : All (λ c. 33 ≤ c) w

plain_other : (end : ℕ) (w : List ℕ) → end ≤ 32 → All (λ c. 33 ≤ c) w → Other end w
plain_other end w h a = all_map w (λ c p. ne_eqb c end (λ e. omega arith)) a

word_last : (w : List ℕ) → Word w → parts_by space w ≡ w ∷ []
word_last [] p = absurd (omega (arith, p.some))
word_last (x ∷ w) p = parts_last space x w (plain_other space (x ∷ w) (omega arith) p.plain)

module _ (x : List ℕ) (w : Word x) where
  word_ends : Other newline x
  word_ends = plain_other newline x (omega arith) w.plain

  -- and what stands behind it
  module _ (rest : List ℕ) where
    word_then : parts_by space (x ++ space ∷ rest) ≡ x ∷ parts_by space rest
    word_then = parts_ended space x rest (plain_other space x (omega arith) w.plain)

    line_goes_on : Other newline rest → Other newline (x ++ space ∷ rest)
    line_goes_on a = all_append _ x (space ∷ rest) word_ends (refl, a)

-- ---- lines of two, three and four words

module _ (x y : List ℕ) (wx : Word x) (wy : Word y) where
  two_words : parts_by space (x ++ space ∷ y) ≡ x ∷ y ∷ []
  two_words = word_then x wx y ∙ ap (λ (l : List (List ℕ)). x ∷ l) (word_last y wy)

  two_on_line : Other newline (x ++ space ∷ y)
  two_on_line = line_goes_on x wx y (word_ends y wy)

  two_line : (rest : List ℕ) → parts_by newline (line (x ∷ y ∷ []) ++ rest) ≡ (x ++ space ∷ y) ∷ parts_by newline rest
  two_line rest =
      let e : line (x ∷ y ∷ []) ++ rest ≡ (x ++ space ∷ y) ++ newline ∷ rest = simp append_assoc in
      rw e (parts_ended newline (x ++ space ∷ y) rest two_on_line)

  module _ (z : List ℕ) (wz : Word z) where
    three_words : parts_by space (z ++ space ∷ (x ++ space ∷ y)) ≡ z ∷ x ∷ y ∷ []
    three_words = word_then z wz (x ++ space ∷ y) ∙ ap (λ (l : List (List ℕ)). z ∷ l) two_words

    three_on_line : Other newline (z ++ space ∷ (x ++ space ∷ y))
    three_on_line = line_goes_on z wz (x ++ space ∷ y) two_on_line

    three_line : (rest : List ℕ) → parts_by newline (line (z ∷ x ∷ y ∷ []) ++ rest) ≡ (z ++ space ∷ (x ++ space ∷ y)) ∷ parts_by newline rest
    three_line rest =
        let e : line (z ∷ x ∷ y ∷ []) ++ rest ≡ (z ++ space ∷ (x ++ space ∷ y)) ++ newline ∷ rest = simp append_assoc in
        rw e (parts_ended newline (z ++ space ∷ (x ++ space ∷ y)) rest three_on_line)

-- ---- the words that are printed

decimal_word : (n : ℕ) → Word (decimal_of n)
decimal_word n = record { some = decimal_some n; plain = all_map (decimal_of n) (λ c d. omega arith) (decimal_digits_lem n) }

amount_word : (z : ℤ) → Word (amount_of z)
amount_word (pos n) = decimal_word n
amount_word (negsuc n) = record { some = omega arith; plain = (omega arith, (decimal_word (suc n)).plain) }

digits_amount : (ds : List ℕ) → 1 ≤ length ds → All IsDigit ds → amount_in ds ≡ pos (value_of ds)
unfolding amount_in
digits_amount [] h a = absurd (omega arith)
digits_amount (d ∷ ds) h a = rw (ne_eqb d 45 (λ e. omega (arith, a.0)))

-- an amount printed reads back
pub amount_value : (z : ℤ) → amount_in (amount_of z) ≡ z
unfolding amount_in
amount_value (pos n) = digits_amount (decimal_of n) (decimal_some n) (decimal_digits_lem n) ∙ ap pos (decimal_value n)
amount_value (negsuc n) = rw (decimal_value (suc n))

-- ---- the table, from the last line up

-- what is read from a text's lines
abbrev below : List ℕ → Below
below text = lines_read (parts_by newline text)

strike_read : (strike : ℕ) (net : ℤ) (rest : List ℕ)
    → below (strike_line strike net ++ rest)
    ≡ record { strikes = strike ∷ (below rest).strikes; nets = net ∷ (below rest).nets; groups = (below rest).groups }
unfolding lines_read
strike_read strike net rest =
    let s = decimal_word strike in
    let n = amount_word net in
    rw (two_line (decimal_of strike) (amount_of net) s n rest, two_words (decimal_of strike) (amount_of net) s n, decimal_value strike, amount_value net)

strikes_read : (strikes : List ℕ) (nets : List ℤ) (rest : List ℕ) → length nets ≡ length strikes
    → below (strike_lines strikes nets ++ rest)
    ≡ record { strikes = strikes ++ (below rest).strikes; nets = nets ++ (below rest).nets; groups = (below rest).groups }
unfolding strike_lines
strikes_read [] [] rest h = refl
strikes_read [] (n ∷ ns) rest h = absurd (omega arith)
strikes_read (s ∷ ss) [] rest h = absurd (omega arith)
strikes_read (s ∷ ss) (n ∷ ns) rest h =
    ap below (append_assoc (strike_line s n) (strike_lines ss ns) rest)
    ∙ strike_read s n (strike_lines ss ns ++ rest)
    ∙ rw (strikes_read ss ns rest (omega arith))

group_word_lem : Word group_word
group_word_lem = record { some = omega arith; plain = (omega arith, (omega arith, (omega arith, (omega arith, (omega arith, tt))))) }

group_read : (g margin : ℕ) (rest : List ℕ)
    → below (group_line g margin ++ rest)
    ≡ record {
      strikes = [];
      nets = [];
      groups = record { group = g; margin = margin; strikes = (below rest).strikes; nets = (below rest).nets } ∷ (below rest).groups;
    }
unfolding lines_read
group_read g margin rest =
    let a = decimal_word g in
    let m = decimal_word margin in
    rw (
      three_line (decimal_of g) (decimal_of margin) a m group_word group_word_lem rest,
      three_words (decimal_of g) (decimal_of margin) a m group_word group_word_lem,
      decimal_value g,
      decimal_value margin,
    )

shown_read : (shown : List Shown) → All (λ s. length s.nets ≡ length s.strikes) shown
    → below (shown_text shown) ≡ record { strikes = []; nets = []; groups = shown }
unfolding shown_text group_text lines_read parts_by
shown_read [] a = refl
shown_read (s ∷ rest) a =
    ap below (append_assoc (group_line s.group s.margin) (strike_lines s.strikes s.nets) (shown_text rest))
    ∙ group_read s.group s.margin (strike_lines s.strikes s.nets ++ shown_text rest)
    ∙ rw (strikes_read s.strikes s.nets (shown_text rest) a.0, shown_read rest a.1, append-nil s.strikes, append-nil s.nets)

pub table_read : (shown : List Shown) → All (λ s. length s.nets ≡ length s.strikes) shown → table_in (shown_text shown) ≡ shown
table_read shown a = ap (λ (b : Below). b.groups) (shown_read shown a)
