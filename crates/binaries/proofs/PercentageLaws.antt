-- The two percentage tables: each law is a test that is computed once over the whole table.
use Prim.Native.Nat.{ℕ, zero, suc, ◌*◌, ◌≤◌, ◌<◌}
use mathlib.Core.Path.{◌≡◌, refl, ap, ◌∙◌}
use mathlib.Core.Bool.{Bool, true, ◌&&◌, and-eq-true_iff}
use mathlib.Core.List.{List, [], map}
use native.Mathlib.Decide.{ℕ_discrete}
use native.Mathlib.Omega.{arith}
use lib.Dec.{leb, ltb}
use lib.ListN.{get_or, get_or-map}
use borrow.Author.Tests.{leb-true, lt-ltb, ltb-true}
use Rattle.binaries.specs.Percentages.{long_tenths, short_tenths, tenths_of, cell_in, tenths_at, row_of}
use Rattle.binaries.specs.Demands.{ShortTwice}
use Rattle.binaries.specs.declared.percentages.Side.{Side}
use Rattle.binaries.specs.declared.percentages.Side.TheVariants.{Long, Short}
use Rattle.binaries.proofs.CondLaws.{cond_most, cond_least, step_grows}

-- ---- short is twice long

abbrev twice : ℕ → ℕ
twice n = 2 * n

-- in every cell of any table
cell_twice : (table : List (List ℕ)) (row column : ℕ) → cell_in (map (map twice) table) row column ≡ 2 * cell_in table row column
unfolding cell_in
cell_twice table row column =
    ap (λ (l : List ℕ). get_or l column 0) (get_or-map (map twice) table row []) ∙ get_or-map twice (get_or table row []) column 0

table_twice : short_tenths ≡ map (map twice) long_tenths
table_twice = refl

pub short_twice : ShortTwice
short_twice row column = cell_twice long_tenths row column

-- ---- the percentage grows with the row and with the column

-- the test passes at each number below n
all_below : ℕ → (ℕ → Bool) → Bool
all_below zero t = true
all_below (suc n) t = t n && all_below n t

below : (n : ℕ) (t : ℕ → Bool) → all_below n t ≡ true → (k : ℕ) → k < n → t k ≡ true
unfolding all_below
below zero t e k h = absurd (omega arith)
below (suc n) t e k h =
    let p = (and-eq-true_iff (t n) (all_below n t)).0 e in
    elim (ℕ_discrete k n) [ yes q ↦ rw q p.0 | no q ↦ below n t p.1 k (omega arith) ]

-- no cell is above one that stands no higher and no further left
cells_grow : List (List ℕ) → Bool
cells_grow table =
    all_below 5 (λ row. all_below (suc row) (λ up. all_below 4 (λ column. all_below (suc column) (λ left. leb (cell_in table up left) (cell_in table row column)))))

grows_in : (table : List (List ℕ)) → cells_grow table ≡ true → (up row left column : ℕ) → up ≤ row → row < 5 → left ≤ column → column < 4
    → cell_in table up left ≤ cell_in table row column
unfolding cells_grow
grows_in table e up row left column h i j k =
    leb-true _ _
    (below (suc column) _ (below 4 _ (below (suc row) _ (below 5 _ e row i) up (omega arith)) column k) left (omega arith))

tables_grow : (side : Side) → cells_grow (tenths_of side) ≡ true
unfolding cells_grow all_below cell_in
tables_grow Long = refl
tables_grow Short = refl

pub tenths_grow : (side : Side) (up row left column : ℕ) → up ≤ row → row < 5 → left ≤ column → column < 4
    → tenths_at side up left ≤ tenths_at side row column
tenths_grow side = grows_in (tenths_of side) (tables_grow side)

-- ---- rows

pub row_few : (spread : ℕ) → row_of spread ≤ 4
unfolding row_of
row_few spread =
    let more = cond_most (ltb spread 500) 4 2 _ (omega arith) (cond_most (ltb spread 700) 4 3 4 (omega arith) (omega arith)) in
    cond_most (ltb spread 100) 4 0 _ (omega arith) (cond_most (ltb spread 300) 4 1 _ (omega arith) more)

edge : (a b top : ℕ) → a ≤ b → ltb b top ≡ true → ltb a top ≡ true
edge a b top h e = let k = ltb-true b top e in lt-ltb a top (omega arith)

pub row_grows : (a b : ℕ) → a ≤ b → row_of a ≤ row_of b
unfolding row_of
row_grows a b h =
    let fourth = step_grows (ltb a 700) (ltb b 700) 3 4 4 (edge a b 700 h) (omega arith) (omega arith) in
    let last = cond_least (ltb b 700) 2 3 4 (omega arith) (omega arith) in
    let third = step_grows (ltb a 500) (ltb b 500) 2 _ _ (edge a b 500 h) last fourth in
    let later = cond_least (ltb b 500) 1 2 _ (omega arith) (cond_least (ltb b 700) 1 3 4 (omega arith) (omega arith)) in
    let second = step_grows (ltb a 300) (ltb b 300) 1 _ _ (edge a b 300 h) later third in
    step_grows (ltb a 100) (ltb b 100) 0 _ _ (edge a b 100 h) (omega arith) second

-- ---- limits

-- the greatest percentage of each table, in its last cell
abbrev pub most_tenths : Side → ℕ
most_tenths side = tenths_at side 4 3
