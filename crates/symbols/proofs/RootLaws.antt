-- The table of roots: cut into its entries, looked up, checked, and what a table that passed its check has.
use Rattle.std.specs.Prelude.{Result, Ok, Err, Some, None}
use Rattle.std.specs.List.{find}
use Rattle.std.specs.Simd.{first_chunks}
use Prim.Native.Nat.{ℕ, zero, suc, ◌+◌, ◌/◌, ◌%◌, ◌≤◌, ◌<◌}
use mathlib.Core.Path.{◌≡◌, refl}
use mathlib.Core.Bool.{Bool, true, false, not, cond, ◌&&◌, and-eq-true_iff, and-true, and-false, and_assoc}
use mathlib.Core.List.{List, [], ◌∷◌, ◌++◌, append_assoc, append-nil}
use native.Mathlib.Numerals.{add-one}
use native.Mathlib.Omega.{arith}
use lib.Dec.{eqb, ltb}
use lib.ListN.{length, get_or, take, drop, length-take, length-drop, drop_of_length-le}
use lib.Seq.{take-suc, drop-cons}
use borrow.Author.Tests.{eqb-true, eq-eqb, ne_eqb, not-true, lt-ltb, le-ltb, ltb-true, ltb-false}
use Rattle.records.specs.Lists.{same, all_of}
use Rattle.records.specs.Order.{ask, refuse, first_of}
use Rattle.records.specs.Within.{within}
use Rattle.records.proofs.ChunkLaws.{length_chunks, get_or_chunks}
use Rattle.records.proofs.PassLaws.{Pass, clear}
use Rattle.records.proofs.TableLaws.{within_true}
use Rattle.symbols.proofs.RunLaws.{parts_cut}
use Rattle.symbols.specs.Roots.{roots_of, same_terms, good_root, fresh, ask_roots, whole_roots, root_checks, place_where}
use Rattle.symbols.specs.declared.roots.Terms.{Terms}
use Rattle.records.specs.declared.refusals.Refusal.{Refusal}

-- ---- the entries

module _ (t : List ℕ) where
  pub length_roots : length (roots_of t) ≡ length t / 16
  unfolding roots_of
  length_roots = length_chunks 16 (length t / 16) t

  -- as code cuts them
  pub roots_cut : first_chunks 16 (length t / 16) t ≡ roots_of t
  unfolding roots_of
  roots_cut = parts_cut 16 (length t / 16) t

  -- an entry has 16 bytes
  pub root_size : (i : ℕ) → i < length (roots_of t) → length (get_or (roots_of t) i []) ≡ 16
  unfolding roots_of
  root_size i h =
      let k : i < length t / 16 = omega (arith, length_roots) in
      rw (get_or_chunks 16 (length t / 16) i t k) (simp (length-take, length-drop) (omega arith))

-- ---- looked up

module _ (t : List ℕ → Bool) where
  -- an entry that is found stands at that place, and where none is found the place is past the last
  pub find_some : (l : List (List ℕ)) (x : List ℕ) → find t l ≡ Some x → (ltb (place_where t l) (length l) ≡ true) × (get_or l (place_where t l) [] ≡ x)
  unfolding place_where
  find_some [] x e = let z : ◌≡◌ {A = ℕ} 0 1 = cc in absurd (omega arith)
  find_some (y ∷ l) x e = go (t y) e (find_some l x)
    where
      go : (b : Bool) → cond b (Some y) (find t l) ≡ Some x
          → (find t l ≡ Some x → (ltb (place_where t l) (length l) ≡ true) × (get_or l (place_where t l) [] ≡ x))
          → (ltb (cond b 0 (place_where t l + 1)) (suc (length l)) ≡ true) × (get_or (y ∷ l) (cond b 0 (place_where t l + 1)) [] ≡ x)
      go true e f = (lt-ltb 0 (suc (length l)) (omega arith), cc)
      go false e f =
          let h = f e in
          (lt-ltb (place_where t l + 1) (suc (length l)) (omega (arith, ltb-true (place_where t l) (length l) h.0)), rw (add-one (place_where t l)) h.1)

  pub find_none : (l : List (List ℕ)) → find t l ≡ None → ltb (place_where t l) (length l) ≡ false
  unfolding place_where
  find_none [] e = le-ltb 0 0 (omega arith)
  find_none (y ∷ l) e = go (t y) e (find_none l)
    where
      go : (b : Bool) → cond b (Some y) (find t l) ≡ None → (find t l ≡ None → ltb (place_where t l) (length l) ≡ false)
          → ltb (cond b 0 (place_where t l + 1)) (suc (length l)) ≡ false
      go true e f = let z : ◌≡◌ {A = ℕ} 0 1 = cc in absurd (omega arith)
      go false e f = le-ltb (place_where t l + 1) (suc (length l)) (omega (arith, ltb-false (place_where t l) (length l) (f e)))

  -- what is found passes the test
  pub place_found : (l : List (List ℕ)) → place_where t l < length l → t (get_or l (place_where t l) []) ≡ true
  unfolding place_where
  place_found [] h = absurd (omega arith)
  place_found (e ∷ l) h = go (t e) refl h (place_found l)
    where
      go : (b : Bool) → t e ≡ b → cond b 0 (place_where t l + 1) < suc (length l)
          → (place_where t l < length l → t (get_or l (place_where t l) []) ≡ true) → t (get_or (e ∷ l) (cond b 0 (place_where t l + 1)) []) ≡ true
      go true q g f = q
      go false q g f = rw (add-one (place_where t l)) (f (omega arith))

  -- the place of the one that passes, where none before it does
  pub place_at : (l : List (List ℕ)) (p : ℕ) → p < length l → t (get_or l p []) ≡ true → all_of (λ e. not (t e)) (take p l) ≡ true → place_where t l ≡ p
  unfolding place_where all_of
  place_at [] p h q a = absurd (omega arith)
  place_at (e ∷ l) zero h q a = rw q
  place_at (e ∷ l) (suc p) h q a =
      let b = (and-eq-true_iff (not (t e)) (all_of (λ e. not (t e)) (take p l))).0 a in
      rw (not-true (t e) b.0, place_at l p (omega arith) q b.1) (omega arith)

-- ---- a table that passed its check

ask_good : (before es : List (List ℕ)) (i : ℕ) → Pass (ask_roots before i es) → (p : ℕ) → p < length es
    → (good_root (get_or es p []) ≡ true) × (fresh (before ++ take p es) (get_or es p []) ≡ true)
unfolding ask_roots
ask_good before [] i a p h = absurd (omega arith)
ask_good before (e ∷ es) i a zero h =
    let b = (and-eq-true_iff (good_root e) (fresh before e)).0 a.0 in
    (b.0, rw (append-nil before) b.1)
ask_good before (e ∷ es) i a (suc p) h =
    let r = ask_good (before ++ e ∷ []) es (i + 1) a.1 p (omega arith) in
    (r.0, rw (append_assoc before (e ∷ []) (take p es)) at r.1)

pub record GoodRoots (t : List ℕ) : Type 0 where
  pub whole : (length t % 16 ≡ 0) × (1 ≤ length t / 16) × (length t / 16 ≤ 256)
  pub good : (p : ℕ) → p < length (roots_of t) → good_root (get_or (roots_of t) p []) ≡ true
  pub apart : (p : ℕ) → p < length (roots_of t) → fresh (take p (roots_of t)) (get_or (roots_of t) p []) ≡ true

pub roots_good : (t : List ℕ) → first_of (root_checks t) ≡ Ok tt → GoodRoots t
unfolding root_checks
roots_good t e =
    let a = clear (ask (whole_roots (length t)) 23 5 0 ∷ ask_roots [] 0 (roots_of t)) e in
    let w = (and-eq-true_iff (eqb (length t % 16) 0) (within 1 256 (length t / 16))).0 a.0 in
    let m = within_true 1 256 (length t / 16) w.1 in
    record {
      whole = (eqb-true (length t % 16) 0 w.0, m.0, m.1);
      good = λ p h. (ask_good [] (roots_of t) 0 a.1 p h).0;
      apart = λ p h. (ask_good [] (roots_of t) 0 a.1 p h).1;
    }

-- ---- the check of a table, entry by entry

module _ (roots : List (List ℕ)) (i : ℕ) where
  -- what is left to be asked from entry i on
  unfoldable pub asked_from : Result Unit Refusal
  asked_from = first_of (ask_roots (take i roots) i (drop i roots))

module _ (roots : List (List ℕ)) where
  pub ask_all : first_of (ask_roots [] 0 roots) ≡ asked_from roots 0
  unfolding asked_from
  ask_all = refl

  module _ (i : ℕ) where
    -- what is asked of entry i
    abbrev asked : Bool
    asked = good_root (get_or roots i []) && fresh (take i roots) (get_or roots i [])

    pub ask_next : i < length roots → asked ≡ true → asked_from roots i ≡ asked_from roots (i + 1)
    unfolding asked_from ask_roots first_of
    ask_next h e = rw (drop-cons roots i [] h, e, add-one i, take-suc roots i [] h)

    pub ask_stop : i < length roots → asked ≡ false → asked_from roots i ≡ Err (refuse 23 5 i)
    unfolding asked_from ask_roots first_of
    ask_stop h e = rw (drop-cons roots i [] h, e)

    pub ask_over : length roots ≤ i → asked_from roots i ≡ Ok tt
    unfolding asked_from ask_roots first_of
    ask_over h = rw (drop_of_length-le roots h)

-- ---- two terms compared, the underlying first

pub terms_rest : (a b : Terms) → a.underlying ≡ b.underlying
    → (((eqb a.style b.style && eqb a.market b.market) && eqb a.size b.size) && eqb a.settlement b.settlement) ≡ same_terms a b
unfolding same_terms same
terms_rest a b h = simp (eq-eqb a.underlying b.underlying h, and-true, and_assoc)

pub terms_apart : (a b : Terms) → (a.underlying ≡ b.underlying → ⊥) → false ≡ same_terms a b
unfolding same_terms same
terms_apart a b h = rw (ne_eqb a.underlying b.underlying h) (simp and-false)
