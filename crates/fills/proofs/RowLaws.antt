-- What opening and closing do to rows: what is held, how many there are, and what holds of each.
use Prim.Native.Nat.{ℕ, suc, ◌+◌, ◌-◌, ◌≤◌}
use mathlib.Core.Path.{◌≡◌, refl, sym, ◌∙◌}
use mathlib.Core.Bool.{Bool, true, false, cond, false≢true}
use mathlib.Core.List.{List, [], ◌∷◌, ◌++◌}
use native.Mathlib.Decide.{dec_le}
use native.Mathlib.Omega.{arith}
use lib.Dec.{eqb}
use lib.ListN.{length}
use borrow.Author.Tests.{ne_eqb, eqb-true, eqb-false}
use Rattle.records.specs.Legs.{contracts_from, with_contracts}
use Rattle.records.specs.Lines.{same_line_side}
use Rattle.records.specs.Lists.{All}
use Rattle.records.specs.declared.legs.Leg.{Leg}
use Rattle.records.proofs.LineLaws.{line_swap, line_sym, swap_line, line_with, with_line_lem}
use Rattle.records.proofs.ListLaws.{all_map}
use Rattle.fills.specs.Rows.{held_of, more, fewer, stays, opened, closed}
use Rattle.fills.specs.Ledger.{counts, Apart, Filled}

-- ---- what is held

-- one line and side, one count
pub held_like : (x y : Leg) (rows : List Leg) → same_line_side x y ≡ true → held_of x rows ≡ held_of y rows
unfolding held_of
held_like x y [] e = refl
held_like x y (z ∷ zs) e = rw (swap_line x y z e, held_like x y zs e)

-- none in rows that are apart from a row of it
held_none : (y z : Leg) (zs : List Leg) → same_line_side y z ≡ true → All (λ w. same_line_side z w ≡ false) zs → held_of y zs ≡ 0
unfolding held_of
held_none y z [] e a = refl
held_none y z (w ∷ ws) e a = rw (swap_line y z w e, a.0) (held_none y z ws e a.1)

closed_here : (x y z : Leg) (zs : List Leg) → same_line_side x z ≡ true → All (λ w. same_line_side z w ≡ false) zs
    → held_of y (stays z x ++ zs) ≡ cond (same_line_side x y) (z.contracts.0 - x.contracts.0) (held_of y (z ∷ zs))
unfolding held_of with_contracts
closed_here x y z zs e a = rw q (go (eqb z.contracts.0 x.contracts.0) refl (same_line_side x y) refl)
  where
    q : same_line_side y z ≡ same_line_side x y
    q = sym (line_swap y x z e) ∙ line_sym y x

    gone : (s : Bool) → same_line_side x y ≡ s → z.contracts.0 ≡ x.contracts.0
        → held_of y zs ≡ cond s (z.contracts.0 - x.contracts.0) (cond s z.contracts.0 (held_of y zs))
    gone true p k = held_none y z zs (q ∙ p) a ∙ omega arith
    gone false p k = refl

    kept : (s : Bool) → same_line_side x y ≡ s
        → held_of y (fewer z x ∷ zs) ≡ cond s (z.contracts.0 - x.contracts.0) (cond s z.contracts.0 (held_of y zs))
    kept true p = rw (line_with y z (contracts_from (z.contracts.0 - x.contracts.0)), q ∙ p)
    kept false p = rw (line_with y z (contracts_from (z.contracts.0 - x.contracts.0)), q ∙ p)

    go : (b : Bool) → eqb z.contracts.0 x.contracts.0 ≡ b → (s : Bool) → same_line_side x y ≡ s
        → held_of y (cond b [] (fewer z x ∷ []) ++ zs) ≡ cond s (z.contracts.0 - x.contracts.0) (cond s z.contracts.0 (held_of y zs))
    go true k s p = gone s p (eqb-true z.contracts.0 x.contracts.0 k)
    go false k s p = kept s p

closed_later : (x y z : Leg) (zs rest : List Leg) (n : ℕ) → same_line_side x z ≡ false → held_of y rest ≡ cond (same_line_side x y) n (held_of y zs)
    → held_of y (z ∷ rest) ≡ cond (same_line_side x y) n (held_of y (z ∷ zs))
unfolding held_of
closed_later x y z zs rest n e r = go (same_line_side y z) (same_line_side x y) refl refl r
  where
    go : (a b : Bool) → same_line_side y z ≡ a → same_line_side x y ≡ b → held_of y rest ≡ cond (same_line_side x y) n (held_of y zs)
        → cond (same_line_side y z) z.contracts.0 (held_of y rest) ≡ cond (same_line_side x y) n (cond (same_line_side y z) z.contracts.0 (held_of y zs))
    go true true p q r = absurd (false≢true (sym e ∙ sym (line_swap x y z p) ∙ q))
    go true false p q r = rw (p, q)
    go false b p q r = rw p r

pub held_closed : (x y : Leg) (rows : List Leg) → Apart rows
    → held_of y (closed x rows) ≡ cond (same_line_side x y) (held_of x rows - x.contracts.0) (held_of y rows)
unfolding held_of closed
held_closed x y [] a = go (same_line_side x y)
  where
    go : (b : Bool) → 0 ≡ cond b (0 - x.contracts.0) 0
    go true = omega arith
    go false = refl
held_closed x y (z ∷ zs) a = go (same_line_side x z) refl (held_closed x y zs a.1)
  where
    go : (b : Bool) → same_line_side x z ≡ b → held_of y (closed x zs) ≡ cond (same_line_side x y) (held_of x zs - x.contracts.0) (held_of y zs)
        → held_of y (cond (same_line_side x z) (stays z x ++ zs) (z ∷ closed x zs))
        ≡ cond (same_line_side x y) (cond (same_line_side x z) z.contracts.0 (held_of x zs) - x.contracts.0) (held_of y (z ∷ zs))
    go true e r = rw e (closed_here x y z zs e a.0)
    go false e r = rw e (closed_later x y z zs (closed x zs) (held_of x zs - x.contracts.0) e r)

-- ---- what holds of each row

pub all_opened : (P : Leg → Type 0) (x : Leg) (rows : List Leg) → ((y : Leg) → P y → y.contracts.0 ≡ held_of x rows → P (more y x)) → P x → All P rows → All P (opened x rows)
unfolding held_of opened
all_opened P x [] f p a = (p, tt)
all_opened P x (y ∷ ys) f p a = go (same_line_side x y) refl (all_opened P x ys)
  where
    go : (b : Bool) → same_line_side x y ≡ b
        → (((z : Leg) → P z → z.contracts.0 ≡ held_of x ys → P (more z x)) → P x → All P ys → All P (opened x ys))
        → All P (cond (same_line_side x y) (more y x ∷ ys) (y ∷ opened x ys))
    go true e r = rw e (f y a.0 (rw e), a.1)
    go false e r = rw e (a.0, r (λ z q h. f z q (rw e h)) p a.1)

pub all_closed : (P : Leg → Type 0) (x : Leg) (rows : List Leg)
    → ((y : Leg) → P y → y.contracts.0 ≡ held_of x rows → (y.contracts.0 ≡ x.contracts.0 → ⊥) → P (fewer y x)) → All P rows → All P (closed x rows)
unfolding held_of closed
all_closed P x [] f a = tt
all_closed P x (y ∷ ys) f a = go (same_line_side x y) refl (all_closed P x ys)
  where
    stay : (b : Bool) → eqb y.contracts.0 x.contracts.0 ≡ b → same_line_side x y ≡ true → All P (cond b [] (fewer y x ∷ []) ++ ys)
    stay true k e = a.1
    stay false k e = (f y a.0 (rw e) (eqb-false y.contracts.0 x.contracts.0 k), a.1)

    go : (b : Bool) → same_line_side x y ≡ b
        → (((z : Leg) → P z → z.contracts.0 ≡ held_of x ys → (z.contracts.0 ≡ x.contracts.0 → ⊥) → P (fewer z x)) → All P ys → All P (closed x ys))
        → All P (cond (same_line_side x y) (stays y x ++ ys) (y ∷ closed x ys))
    go true e r = rw e (stay (eqb y.contracts.0 x.contracts.0) refl e)
    go false e r = rw e (a.0, r (λ z q h n. f z q (rw e h) n) a.1)

-- ---- rows apart stay apart

pub apart_opened : (x : Leg) (rows : List Leg) → Apart rows → Apart (opened x rows)
unfolding opened
apart_opened x [] a = (tt, tt)
apart_opened x (y ∷ ys) a = go (same_line_side x y) refl (apart_opened x ys a.1)
  where
    go : (b : Bool) → same_line_side x y ≡ b → Apart (opened x ys) → Apart (cond (same_line_side x y) (more y x ∷ ys) (y ∷ opened x ys))
    go true e r = rw e (all_map ys (λ z h. with_line_lem y z (contracts_from (y.contracts.0 + x.contracts.0)) ∙ h) a.0, a.1)
    go false e r =
        rw e
        (all_opened (λ w. same_line_side y w ≡ false) x ys (λ z h k. line_with y z (contracts_from (z.contracts.0 + x.contracts.0)) ∙ h) (line_sym y x ∙ e) a.0, r)

pub apart_closed : (x : Leg) (rows : List Leg) → Apart rows → Apart (closed x rows)
unfolding closed
apart_closed x [] a = tt
apart_closed x (y ∷ ys) a = go (same_line_side x y) refl (apart_closed x ys a.1)
  where
    stay : (b : Bool) → Apart (cond b [] (fewer y x ∷ []) ++ ys)
    stay true = a.1
    stay false = (all_map ys (λ z h. with_line_lem y z (contracts_from (y.contracts.0 - x.contracts.0)) ∙ h) a.0, a.1)

    go : (b : Bool) → same_line_side x y ≡ b → Apart (closed x ys) → Apart (cond (same_line_side x y) (stays y x ++ ys) (y ∷ closed x ys))
    go true e r = rw e (stay (eqb y.contracts.0 x.contracts.0))
    go false e r =
        rw e (all_closed (λ w. same_line_side y w ≡ false) x ys (λ z h k n. line_with y z (contracts_from (z.contracts.0 - x.contracts.0)) ∙ h) a.0, r)

-- ---- at least one contract in each

pub some_opened : (x : Leg) (rows : List Leg) → 1 ≤ x.contracts.0 → Filled rows → Filled (opened x rows)
unfolding with_contracts
some_opened x rows h a = all_opened (λ l. 1 ≤ l.contracts.0) x rows (λ y k e. omega arith) h a

pub left_some : (a b : ℕ) → b ≤ a → (a ≡ b → ⊥) → 1 ≤ a - b
left_some a b h n =
    elim (dec_le a b) [
      | yes k ↦ absurd (n (omega arith))
      | no k ↦ omega arith
    ]

pub some_closed : (x : Leg) (rows : List Leg) → x.contracts.0 ≤ held_of x rows → Filled rows → Filled (closed x rows)
unfolding with_contracts
some_closed x rows h a = all_closed (λ l. 1 ≤ l.contracts.0) x rows (λ y k e n. left_some y.contracts.0 x.contracts.0 (omega arith) n) a

-- ---- how many rows there are

pub length_opened_is : (x : Leg) (rows : List Leg) → Filled rows → length (opened x rows) ≡ length rows + (1 - counts (held_of x rows))
unfolding held_of opened
length_opened_is x [] a = refl
length_opened_is x (y ∷ ys) a = go (same_line_side x y) (length_opened_is x ys a.1)
  where
    go : (b : Bool) → length (opened x ys) ≡ length ys + (1 - counts (held_of x ys))
        → length (cond b (more y x ∷ ys) (y ∷ opened x ys)) ≡ suc (length ys) + (1 - counts (cond b y.contracts.0 (held_of x ys)))
    go true r = rw (ne_eqb y.contracts.0 0 (λ e. omega (arith, a.0))) (omega arith)
    go false r = omega arith

pub length_closed_is : (x : Leg) (rows : List Leg) → 1 ≤ x.contracts.0 → x.contracts.0 ≤ held_of x rows
    → length (closed x rows) + 1 ≡ length rows + counts (held_of x rows - x.contracts.0)
unfolding held_of closed
length_closed_is x [] h k = absurd (omega arith)
length_closed_is x (y ∷ ys) h k = go (same_line_side x y) refl (length_closed_is x ys h) k
  where
    stay : (b : Bool) → eqb y.contracts.0 x.contracts.0 ≡ b → x.contracts.0 ≤ y.contracts.0
        → length (cond b [] (fewer y x ∷ []) ++ ys) + 1 ≡ suc (length ys) + counts (y.contracts.0 - x.contracts.0)
    stay true e m =
        let q : y.contracts.0 - x.contracts.0 ≡ 0 = omega (arith, eqb-true y.contracts.0 x.contracts.0 e) in
        rw q (omega arith)
    stay false e m = rw (ne_eqb (y.contracts.0 - x.contracts.0) 0 (λ z. eqb-false y.contracts.0 x.contracts.0 e (omega arith))) (omega arith)

    go : (b : Bool) → same_line_side x y ≡ b
        → (x.contracts.0 ≤ held_of x ys → length (closed x ys) + 1 ≡ length ys + counts (held_of x ys - x.contracts.0))
        → x.contracts.0 ≤ cond (same_line_side x y) y.contracts.0 (held_of x ys)
        → length (cond (same_line_side x y) (stays y x ++ ys) (y ∷ closed x ys)) + 1
        ≡ suc (length ys) + counts (cond (same_line_side x y) y.contracts.0 (held_of x ys) - x.contracts.0)
    go true e r m = rw e (stay (eqb y.contracts.0 x.contracts.0) refl (rw e at m))
    go false e r m = rw e (omega (arith, r (rw e at m)))

-- where something is held, there is a row
pub rows_some : (x : Leg) (rows : List Leg) → 1 ≤ held_of x rows → 1 ≤ length rows
unfolding held_of
rows_some x [] h = h
rows_some x (y ∷ ys) h = omega arith
