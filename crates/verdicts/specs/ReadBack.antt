-- A printed table read back from its bytes, line by line and word by word: what the demands on the table speak of.
use Rattle.std.specs.Prelude.{ℕ, cond, List, [], ◌∷◌, eqb, ℤ, pos, neg_ℤ}
unfoldable pub use Rattle.records.specs.Text.{value_from}
pub use Rattle.records.specs.Text.{value_of, onto}
use Rattle.verdicts.specs.Printed.{space, newline, minus_sign}
use Rattle.verdicts.specs.TableText.{Shown}

-- ---- numbers

-- digits with a minus sign before them, or without
unfoldable pub amount_in : List ℕ → ℤ
amount_in [] = pos 0
amount_in (c ∷ cs) = cond (eqb c minus_sign) (neg_ℤ (pos (value_of cs))) (pos (value_of (c ∷ cs)))

-- ---- lines and words

-- the parts of a text that a byte ends, the last one also where the text ends
unfoldable pub parts_by : ℕ → List ℕ → List (List ℕ)
parts_by end [] = []
parts_by end (x ∷ xs) = cond (eqb x end) ([] ∷ parts_by end xs) (onto x (parts_by end xs))

-- ---- groups, from the last line up

-- the strikes and nets that stand above the next group's line, and the groups from there on
pub record Below : Type 0 where
  pub strikes : List ℕ
  pub nets : List ℤ
  pub groups : List Shown

-- two words are a strike and a net, three are a group's line; a line of any other number of words says nothing
abbrev pub with_line : List (List ℕ) → Below → Below
with_line [] b = b
with_line (word ∷ []) b = b
with_line (strike ∷ net ∷ []) b =
    record { strikes = value_of strike ∷ b.strikes; nets = amount_in net ∷ b.nets; groups = b.groups }
with_line (word ∷ g ∷ margin ∷ []) b =
    record {
      strikes = [];
      nets = [];
      groups = record { group = value_of g; margin = value_of margin; strikes = b.strikes; nets = b.nets } ∷ b.groups;
    }
with_line (word ∷ x ∷ y ∷ z ∷ more) b = b

unfoldable pub lines_read : List (List ℕ) → Below
lines_read [] = record { strikes = []; nets = []; groups = [] }
lines_read (l ∷ ls) = with_line (parts_by space l) (lines_read ls)

abbrev pub table_in : List ℕ → List Shown
table_in text = (lines_read (parts_by newline text)).groups
