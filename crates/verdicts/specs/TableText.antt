-- Document 02, [1]: 'prints for each group a line `GROUP g margin`, then a line `strike net` for each distinct strike, ascending,
-- in mills, single spaces, a newline after each. A refused sheet prints only its REFUSE line.'
use Rattle.std.specs.Prelude.{ℕ, zero, suc, List, [], ◌∷◌, ◌++◌, ℤ, Result, Ok, Err}
use Rattle.records.specs.Tables.{legs_of}
use Rattle.records.specs.declared.legs.Leg.{Leg}
use Rattle.blocks.specs.File.{tables_in}
use Rattle.spreads.specs.Spreads.{group_of}
use Rattle.spreads.specs.Strikes.{strikes_of, nets_of}
use Rattle.spreads.specs.Boxes.{margin_of}
use Rattle.verdicts.specs.FileVerdicts.{file_verdict}
use Rattle.verdicts.specs.Printed.{decimal_of, amount_of, line, refuse_line}
use Rattle.records.specs.declared.refusals.Refusal.{Refusal}
use Rattle.sheets.specs.declared.sheet.Accepted.{Accepted}

-- ---- what is shown

-- a group's number, its margin, its distinct strikes and the net at each
pub record Shown : Type 0 where
  pub group : ℕ
  pub margin : ℕ
  pub strikes : List ℕ
  pub nets : List ℤ

abbrev pub shown_of : ℕ → List Leg → Shown
shown_of g legs = record { group = g; margin = margin_of legs; strikes = strikes_of legs; nets = nets_of legs }

-- 'for each group': groups 1 to n of a placement
unfoldable pub shown_in : ℕ → List Leg → List Shown
shown_in zero placement = []
shown_in (suc n) placement = shown_in n placement ++ (shown_of (suc n) (group_of (suc n) placement) ∷ [])

-- ---- as text

-- GROUP
abbrev pub group_word : List ℕ
group_word = 71 ∷ 82 ∷ 79 ∷ 85 ∷ 80 ∷ []

-- 'a line `GROUP g margin`'
abbrev pub group_line : ℕ → ℕ → List ℕ
group_line g margin = line (group_word ∷ decimal_of g ∷ decimal_of margin ∷ [])

-- 'a line `strike net`'
abbrev pub strike_line : ℕ → ℤ → List ℕ
strike_line strike net = line (decimal_of strike ∷ amount_of net ∷ [])

-- 'for each distinct strike': one line for each strike and its net
unfoldable pub strike_lines : List ℕ → List ℤ → List ℕ
strike_lines [] nets = []
strike_lines (strike ∷ strikes) [] = []
strike_lines (strike ∷ strikes) (net ∷ nets) = strike_line strike net ++ strike_lines strikes nets

unfoldable pub group_text : Shown → List ℕ
group_text s = group_line s.group s.margin ++ strike_lines s.strikes s.nets

unfoldable pub shown_text : List Shown → List ℕ
shown_text [] = []
shown_text (s ∷ rest) = group_text s ++ shown_text rest

-- the table of an accepted sheet, or 'only its REFUSE line'
abbrev pub text_of : Result Accepted Refusal → List Leg → List ℕ
text_of (Ok a) placement = shown_text (shown_in a.groups placement)
text_of (Err r) placement = refuse_line r

unfoldable pub table_text : List ℕ → List ℕ
table_text file = text_of (file_verdict file) (legs_of (tables_in file).placement)
