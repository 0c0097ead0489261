-- The starting rows, record by record: what is held in them is what the records have of each line and side.
use Rattle.std.specs.Prelude.{Ok, Err}
use Prim.Native.Nat.{ℕ, suc, ◌+◌, ◌/◌, ◌≤◌, ◌<◌}
use mathlib.Core.Path.{◌≡◌, refl, sym, ap, ◌∙◌}
use mathlib.Core.Bool.{Bool, true, false, cond, ◌&&◌, false≢true}
use mathlib.Core.List.{List, [], ◌∷◌, ◌++◌, append_assoc, append-nil}
use native.Mathlib.Decide.{dec_le}
use native.Mathlib.Omega.{arith}
use lib.Dec.{eqb, leb}
use lib.ListN.{length}
use borrow.Author.Tests.{le-leb, lt-leb}
use Rattle.records.specs.Chunks.{chunk_at}
use Rattle.records.specs.Legs.{contracts_from, with_contracts}
use Rattle.records.specs.Lines.{same_line_side, contracts_of}
use Rattle.records.specs.Lists.{only, sum_of}
use Rattle.records.specs.Order.{first_of, refuse}
use Rattle.records.specs.Limits.{most_legs, most_contracts}
use Rattle.records.specs.declared.legs.Leg.{Leg}
use Rattle.records.proofs.ChunkLaws.{rows_from, rows_all, rows_next, rows_none}
use Rattle.records.proofs.LineLaws.{line_sym, line_swap, line_with}
use Rattle.fills.specs.Calls.{ask_past}
use Rattle.fills.specs.Played.{open_number}
use Rattle.fills.specs.Rows.{held_of, more, opened, merged_into, merged_rows, unmarked, starting_legs}

-- ---- what is held after an opening

-- x's line and side over row z and the rows after it, y being opened
opened_here : (x y z : Leg) (zs : List Leg) → same_line_side y z ≡ true → held_of x (more z y ∷ zs) ≡ held_of x (z ∷ zs) + only (same_line_side x y) y.contracts.0
unfolding held_of with_contracts
opened_here x y z zs e =
    rw (line_with x z (contracts_from (z.contracts.0 + y.contracts.0)), line_swap x y z e) (go (same_line_side x z))
  where
    go : (b : Bool) → cond b (z.contracts.0 + y.contracts.0) (held_of x zs) ≡ cond b z.contracts.0 (held_of x zs) + only b y.contracts.0
    go true = refl
    go false = omega arith

opened_later : (x y z : Leg) (zs rest : List Leg) → same_line_side y z ≡ false
    → held_of x rest ≡ held_of x zs + only (same_line_side x y) y.contracts.0
    → held_of x (z ∷ rest) ≡ held_of x (z ∷ zs) + only (same_line_side x y) y.contracts.0
unfolding held_of
opened_later x y z zs rest e r = go (same_line_side x z) (same_line_side x y) refl refl
  where
    go : (a b : Bool) → same_line_side x z ≡ a → same_line_side x y ≡ b
        → cond (same_line_side x z) z.contracts.0 (held_of x rest) ≡ cond (same_line_side x z) z.contracts.0 (held_of x zs) + only (same_line_side x y) y.contracts.0
    go true true p q = absurd (false≢true (sym e ∙ sym (line_swap y x z p) ∙ (line_sym y x ∙ q)))
    go true false p q = rw (p, q) (omega arith)
    go false b p q = rw p r

pub held_opened : (x y : Leg) (rows : List Leg) → held_of x (opened y rows) ≡ held_of x rows + only (same_line_side x y) y.contracts.0
unfolding held_of opened
held_opened x y [] = go (same_line_side x y)
  where
    go : (b : Bool) → cond b y.contracts.0 0 ≡ 0 + only b y.contracts.0
    go true = omega arith
    go false = refl
held_opened x y (z ∷ zs) = go (same_line_side y z) refl (held_opened x y zs)
  where
    go : (b : Bool) → same_line_side y z ≡ b → held_of x (opened y zs) ≡ held_of x zs + only (same_line_side x y) y.contracts.0
        → held_of x (cond (same_line_side y z) (more z y ∷ zs) (z ∷ opened y zs)) ≡ held_of x (z ∷ zs) + only (same_line_side x y) y.contracts.0
    go true e r = rw e (opened_here x y z zs e)
    go false e r = rw e (opened_later x y z zs (opened y zs) e r)

held_into : (x : Leg) (rows legs : List Leg) → held_of x (merged_into rows legs) ≡ held_of x rows + contracts_of x legs
unfolding merged_into contracts_of sum_of
held_into x rows [] = omega arith
held_into x rows (y ∷ ys) = omega (arith, held_into x (opened y rows) ys, held_opened x y rows)

pub held_merged : (x : Leg) (legs : List Leg) → held_of x (merged_rows legs) ≡ contracts_of x legs
unfolding held_of
held_merged x legs = held_into x [] legs ∙ omega arith

-- ---- one record more

into_snoc : (rows legs : List Leg) (x : Leg) → merged_into rows (legs ++ x ∷ []) ≡ opened x (merged_into rows legs)
unfolding merged_into
into_snoc rows [] x = refl
into_snoc rows (y ∷ ys) x = into_snoc (opened y rows) ys x

pub merged_snoc : (legs : List Leg) (x : Leg) → merged_rows (legs ++ x ∷ []) ≡ opened x (merged_rows legs)
merged_snoc legs x = into_snoc [] legs x

pub length_opened : (x : Leg) (rows : List Leg) → length (opened x rows) ≤ length rows + 1
unfolding opened
length_opened x [] = omega arith
length_opened x (y ∷ ys) = go (same_line_side x y) (length_opened x ys)
  where
    go : (b : Bool) → length (opened x ys) ≤ length ys + 1 → length (cond b (more y x ∷ ys) (y ∷ opened x ys)) ≤ suc (length ys) + 1
    go true h = omega arith
    go false h = omega arith

-- ---- the loop: the records before i are merged

pub starting_all : (xs : List ℕ) → rows_from unmarked xs 0 ≡ starting_legs xs
unfolding starting_legs
starting_all xs = rows_all unmarked xs

pub record Merging (xs : List ℕ) (rows : List Leg) (i : ℕ) : Type 0 where
  pub before : List Leg
  pub whole : before ++ rows_from unmarked xs i ≡ starting_legs xs
  pub are : rows ≡ merged_rows before
  pub few : length rows ≤ i
  pub asked : first_of (ask_past [] 0 (starting_legs xs)) ≡ first_of (ask_past before i (rows_from unmarked xs i))

pub merging_none : (xs : List ℕ) → Merging xs [] 0
unfolding merged_into
merging_none xs =
    record {
      before = [];
      whole = starting_all xs;
      are = refl;
      few = omega arith;
      asked = rw (starting_all xs);
    }

past_good : (before ls l : List Leg) (i : ℕ) (x : Leg) → l ≡ x ∷ ls → contracts_of x before + x.contracts.0 ≤ most_contracts
    → first_of (ask_past before i l) ≡ first_of (ask_past (before ++ x ∷ []) (i + 1) ls)
unfolding ask_past first_of
past_good before ls l i x e h = rw (e, le-leb _ _ h)

past_bad : (before ls l : List Leg) (i : ℕ) (x : Leg) → l ≡ x ∷ ls → most_contracts < contracts_of x before + x.contracts.0
    → first_of (ask_past before i l) ≡ Err (refuse 19 1 i)
unfolding ask_past first_of
past_bad before ls l i x e h = rw (e, lt-leb _ _ h)

past_none : (before l : List Leg) (i : ℕ) → l ≡ [] → first_of (ask_past before i l) ≡ Ok tt
unfolding ask_past first_of
past_none before l i e = rw e

-- what an opening's number says where there is room
number_room : (held lines n : ℕ) → lines < most_legs → open_number held lines n ≡ cond (leb (held + n) most_contracts) 0 19
number_room held lines n h = rw (lt-leb most_legs lines h) (go (eqb held 0))
  where
    go : (b : Bool) → ◌≡◌ {A = ℕ} (cond (b && false) 19 (cond (leb (held + n) most_contracts) 0 19)) (cond (leb (held + n) most_contracts) 0 19)
    go true = refl
    go false = refl

number_fits : (held lines n : ℕ) → lines < most_legs → open_number held lines n ≡ 0 → held + n ≤ most_contracts
number_fits held lines n h e =
    elim (dec_le (held + n) most_contracts) [
      | yes k ↦ k
      | no k ↦ let q : open_number held lines n ≡ 19 = number_room held lines n h ∙ rw (lt-leb (held + n) most_contracts (omega arith)) in absurd (omega (arith, e, q))
    ]

number_past : (held lines n : ℕ) → lines < most_legs → (open_number held lines n ≡ 0 → ⊥) → most_contracts < held + n
number_past held lines n h e =
    elim (dec_le (held + n) most_contracts) [
      | yes k ↦ let q : open_number held lines n ≡ 0 = number_room held lines n h ∙ rw (le-leb (held + n) most_contracts k) in absurd (e q)
      | no k ↦ omega arith
    ]

module _ {xs : List ℕ} {rows : List Leg} {i : ℕ} (m : Merging xs rows i) (h : i < length xs / 32) (k : i < most_legs) (x : Leg) (is : x ≡ unmarked (chunk_at 32 xs i)) where
  abbrev number : ℕ
  number = open_number (held_of x rows) (length rows) x.contracts.0

  next : rows_from unmarked xs i ≡ x ∷ rows_from unmarked xs (i + 1)
  next = rows_next unmarked xs i x h is

  now_held : held_of x rows ≡ contracts_of x m.before
  now_held = ap (held_of x) m.are ∙ held_merged x m.before

  pub merging_more : number ≡ 0 → Merging xs (opened x rows) (i + 1)
  merging_more z =
      let f : held_of x rows + x.contracts.0 ≤ most_contracts = number_fits _ (length rows) _ (omega (arith, m.few)) z in
      record {
        before = m.before ++ x ∷ [];
        whole = append_assoc m.before (x ∷ []) (rows_from unmarked xs (i + 1)) ∙ ap (λ (l : List Leg). m.before ++ l) (sym next) ∙ m.whole;
        are = ap (opened x) m.are ∙ sym (merged_snoc m.before x);
        few = omega (arith, length_opened x rows, m.few);
        asked = m.asked ∙ past_good m.before (rows_from unmarked xs (i + 1)) (rows_from unmarked xs i) i x next (omega (arith, now_held));
      }

  pub merging_stop : (number ≡ 0 → ⊥) → Err (refuse 19 1 i) ≡ first_of (ask_past [] 0 (starting_legs xs))
  merging_stop z =
      let f : most_contracts < held_of x rows + x.contracts.0 = number_past _ (length rows) _ (omega (arith, m.few)) z in
      rw (m.asked ∙ past_bad m.before (rows_from unmarked xs (i + 1)) (rows_from unmarked xs i) i x next (omega (arith, now_held)))

module _ {xs : List ℕ} {rows : List Leg} {i : ℕ} (m : Merging xs rows i) (h : length xs / 32 ≤ i) where
  none : rows_from unmarked xs i ≡ []
  none = rows_none unmarked xs i h

  all : m.before ≡ starting_legs xs
  all = sym (append-nil m.before) ∙ ap (λ (l : List Leg). m.before ++ l) (sym none) ∙ m.whole

  pub merging_all : rows ≡ merged_rows (starting_legs xs)
  merging_all = rw (← all) m.are

  pub merging_over : Ok tt ≡ first_of (ask_past [] 0 (starting_legs xs))
  merging_over = rw (m.asked ∙ past_none m.before (rows_from unmarked xs i) i none)
