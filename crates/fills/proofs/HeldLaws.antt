-- Rows as records of which so many contracts are held: the rows of a part of the records, and a change of what is held of one.
use Prim.Native.Nat.{ℕ, zero, suc, ◌+◌, ◌-◌, ◌≤◌, ◌<◌}
use mathlib.Core.Path.{◌≡◌, refl, sym, ap, ◌∙◌}
use mathlib.Core.Bool.{Bool, true, false, cond}
use mathlib.Core.List.{List, [], ◌∷◌, ◌++◌, append_assoc, append-nil}
use native.Mathlib.Decide.{ℕ_discrete}
use native.Mathlib.Omega.{arith}
use lib.Dec.{eqb}
use lib.ListN.{length, get_or, set, length-append}
use lib.Seq.{get_or-set_same, get_or-set_other}
use borrow.Author.Tests.{eq-eqb, ne_eqb, eqb-false}
use Rattle.records.specs.Legs.{contracts_from, with_contracts}
use Rattle.records.specs.Lines.{same_line_side}
use Rattle.records.specs.Lists.{All}
use Rattle.records.specs.declared.legs.Leg.{Leg}
use Rattle.records.proofs.LineLaws.{line_with}
use Rattle.records.proofs.ListLaws.{all_append}
use Rattle.fills.specs.Rows.{held_of, opened, closed}
use Rattle.fills.specs.Steps.Standing.{row_at, rows_of, rows_to, Live}
use Rattle.fills.proofs.PlaceLaws.{Others, held_at, opened_at, closed_at}

-- ---- parts

module _ (leg : ℕ → Leg) where
  -- t records from k on are m of them, and n from s on
  pub rows_add : (held : List ℕ) (m n t k s : ℕ) → t ≡ m + n → s ≡ k + m → rows_of leg held k t ≡ rows_of leg held k m ++ rows_of leg held s n
  unfolding rows_of
  rows_add held zero n t k s a b =
      let p : t ≡ n = omega arith in
      let q : s ≡ k = omega arith in
      rw (p, q)
  rows_add held (suc m) n zero k s a b = absurd (omega arith)
  rows_add held (suc m) n (suc t) k s a b =
      ap (λ (l : List Leg). row_at leg held k ++ l) (rows_add held m n t (k + 1) s (omega arith) (omega arith))
      ∙ sym (append_assoc (row_at leg held k) (rows_of leg held (k + 1) m) (rows_of leg held s n))

  pub rows_more : (held : List ℕ) (k : ℕ) → rows_to leg held (k + 1) ≡ rows_to leg held k ++ row_at leg held k
  unfolding rows_of
  rows_more held k =
      rows_add held k 1 (k + 1) 0 k (omega arith) (omega arith) ∙ ap (λ (l : List Leg). rows_of leg held 0 k ++ l) (append-nil (row_at leg held k))

  -- the next of them, as a loop takes it
  pub rows_next : (held : List ℕ) (n k : ℕ) → k < n → rows_of leg held k (n - k) ≡ row_at leg held k ++ rows_of leg held (k + 1) (n - (k + 1))
  unfolding rows_of
  rows_next held n k h = let q : n - k ≡ suc (n - (k + 1)) = omega arith in rw q

  pub rows_same : (held after : List ℕ) (n k : ℕ) → ((j : ℕ) → k ≤ j → j < k + n → get_or after j 0 ≡ get_or held j 0) → rows_of leg after k n ≡ rows_of leg held k n
  unfolding rows_of
  rows_same held after zero k f = refl
  rows_same held after (suc n) k f =
      rw (f k (omega arith) (omega arith), rows_same held after n (k + 1) (λ j a b. f j (omega arith) (omega arith)))

  pub rows_each : (P : Leg → Type 0) (held : List ℕ) (n k : ℕ)
      → ((j : ℕ) → k ≤ j → j < k + n → Live held j → P (with_contracts (leg j) (contracts_from (get_or held j 0)))) → All P (rows_of leg held k n)
  unfolding rows_of
  rows_each P held zero k f = tt
  rows_each P held (suc n) k f =
      all_append P (row_at leg held k) (rows_of leg held (k + 1) n) (go (eqb (get_or held k 0) 0) refl)
      (rows_each P held n (k + 1) (λ j a b. f j (omega arith) (omega arith)))
    where
      go : (b : Bool) → eqb (get_or held k 0) 0 ≡ b → All P (cond b [] (with_contracts (leg k) (contracts_from (get_or held k 0)) ∷ []))
      go true e = tt
      go false e = (f k (omega arith) (omega arith) (eqb-false (get_or held k 0) 0 e), tt)

  -- no row of x's line and side
  pub rows_others : (x : Leg) (held : List ℕ) (n : ℕ) → ((j : ℕ) → j < n → Live held j → same_line_side x (leg j) ≡ false) → Others x (rows_to leg held n)
  rows_others x held n f =
      rows_each (λ y. same_line_side x y ≡ false) held n 0 (λ j a b l. line_with x (leg j) (contracts_from (get_or held j 0)) ∙ f j (omega arith) l)

-- what is left of a lot is none just where all of it is taken
left_none : (a c : ℕ) → c ≤ a → eqb (a - c) 0 ≡ eqb a c
left_none a c h =
    elim (ℕ_discrete a c) [
      | yes e ↦ rw (eq-eqb a c e, eq-eqb (a - c) 0 (omega arith))
      | no n ↦ rw (ne_eqb a c n, ne_eqb (a - c) 0 (λ z. n (omega arith)))
    ]

-- ---- what is held of record j, one of the first k, is v now

module _ (leg : ℕ → Leg) (held : List ℕ) (k j : ℕ) (h : j < k) (room : j < length held) (live : Live held j) where
  abbrev front : List Leg
  front = rows_of leg held 0 j

  abbrev back : List Leg
  back = rows_of leg held (j + 1) (k - suc j)

  abbrev row_of : ℕ → Leg
  row_of v = with_contracts (leg j) (contracts_from v)

  parted : (after : List ℕ) → ((i : ℕ) → (i ≡ j → ⊥) → get_or after i 0 ≡ get_or held i 0) → rows_to leg after k ≡ front ++ (row_at leg after j ++ back)
  unfolding rows_of
  parted after f =
      rows_add leg after j (suc (k - suc j)) k 0 j (omega arith) (omega arith)
      ∙ ap (λ (l : List Leg). l ++ (row_at leg after j ++ rows_of leg after (j + 1) (k - suc j))) (rows_same leg held after j 0 (λ i a b. f i (λ e. omega arith)))
      ∙ ap (λ (l : List Leg). front ++ (row_at leg after j ++ l)) (rows_same leg held after (k - suc j) (j + 1) (λ i a b. f i (λ e. omega arith)))

  whole : rows_to leg held k ≡ front ++ row_of (get_or held j 0) ∷ back
  whole = parted held (λ i n. refl) ∙ rw (ne_eqb (get_or held j 0) 0 live)

  now_parted : (v : ℕ) → rows_to leg (set held j v) k ≡ front ++ (cond (eqb v 0) [] (row_of v ∷ []) ++ back)
  now_parted v = parted (set held j v) (λ i n. get_or-set_other held j i v 0 n) ∙ rw (get_or-set_same held j v 0 room)

  pub length_kept : (v : ℕ) → (v ≡ 0 → ⊥) → length (rows_to leg (set held j v) k) ≡ length (rows_to leg held k)
  length_kept v n =
      rw (now_parted v, whole, ne_eqb v 0 n) (length-append front (row_of v ∷ back) ∙ sym (length-append front (row_of (get_or held j 0) ∷ back)))

  pub length_gone : length (rows_to leg (set held j 0) k) + 1 ≡ length (rows_to leg held k)
  length_gone = rw (now_parted 0, whole) (omega (arith, length-append front back, length-append front (row_of (get_or held j 0) ∷ back)))

  module _ (x : Leg) (same : same_line_side x (leg j) ≡ true) (others : (i : ℕ) → (i ≡ j → ⊥) → Live held i → same_line_side x (leg i) ≡ false) where
    before : Others x front
    before = rows_others leg x held j (λ i b l. others i (λ e. omega arith) l)

    same_row : same_line_side x (row_of (get_or held j 0)) ≡ true
    same_row = line_with x (leg j) (contracts_from (get_or held j 0)) ∙ same

    pub lot_held : held_of x (rows_to leg held k) ≡ get_or held j 0
    unfolding with_contracts
    lot_held = rw whole (held_at x (row_of (get_or held j 0)) back same_row front before)

    pub lot_opened : (v : ℕ) → v ≡ get_or held j 0 + x.contracts.0 → opened x (rows_to leg held k) ≡ rows_to leg (set held j v) k
    unfolding with_contracts
    lot_opened v e =
        rw (whole, now_parted v, ne_eqb v 0 (λ z. live (omega arith)), e) (opened_at x (row_of (get_or held j 0)) back same_row front before)

    pub lot_closed : (v : ℕ) → v ≡ get_or held j 0 - x.contracts.0 → x.contracts.0 ≤ get_or held j 0 → closed x (rows_to leg held k) ≡ rows_to leg (set held j v) k
    unfolding with_contracts
    lot_closed v e m =
        rw (whole, now_parted v, e, left_none (get_or held j 0) x.contracts.0 m) (closed_at x (row_of (get_or held j 0)) back same_row front before)
