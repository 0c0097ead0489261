-- A search through the places of a table's records, as its loop knows it; and what lists of checks it answers.
use Rattle.std.specs.Prelude.{Ok, Err}
use Prim.Native.Nat.{ℕ, zero, suc, ◌+◌, ◌-◌, ◌/◌, ◌≤◌, ◌<◌}
use mathlib.Core.Path.{◌≡◌, refl, sym, ap, ◌∙◌}
use mathlib.Core.Bool.{Bool, true, false}
use mathlib.Core.List.{List, [], ◌∷◌, ◌++◌}
use native.Mathlib.Nat.{sub-zero}
use native.Mathlib.Omega.{arith}
use lib.Dec.{eqb}
use lib.ListN.{length}
use Rattle.records.specs.Chunks.{chunk_at}
use Rattle.records.specs.Claims.{claim_of}
use Rattle.records.specs.Order.{Check, ask, refuse, first_of, ask_each, groups}
use Rattle.records.specs.Tables.{legs_of, claims_of}
use Rattle.records.specs.Legs.{leg_of}
use Rattle.records.specs.declared.legs.Leg.{Leg}
use Rattle.records.proofs.ChunkLaws.{rows_from, rows_next, rows_none}
use Rattle.records.proofs.TableLaws.{legs_all, claims_all}
use Rattle.sheets.specs.Sheets.{ask_numbered}
use Rattle.sheets.specs.Steps.Places.{ask_places}

-- ---- the loop

module _ (good : ℕ → Bool) (number table i end : ℕ) where
  pub places_good : i < end → good i ≡ true
      → first_of (ask_places good number table i (end - i)) ≡ first_of (ask_places good number table (i + 1) (end - (i + 1)))
  unfolding first_of ask_places
  places_good h g = let e : end - i ≡ suc (end - (i + 1)) = omega arith in rw (e, g)

  pub places_bad : i < end → good i ≡ false → first_of (ask_places good number table i (end - i)) ≡ Err (refuse number table i)
  unfolding first_of ask_places
  places_bad h g = let e : end - i ≡ suc (end - (i + 1)) = omega arith in rw (e, g)

  pub places_over : end ≤ i → first_of (ask_places good number table i (end - i)) ≡ Ok tt
  unfolding first_of ask_places
  places_over h = let e : end - i ≡ 0 = omega arith in rw e

-- ---- the legs of a table, asked each at its place

module _ (good : Leg → Bool) (number table : ℕ) (xs : List ℕ) where
  legs_from : (m i : ℕ) → length xs / 32 ≡ i + m
      → ask_each good number table i (rows_from leg_of xs i) ≡ ask_places (λ j. good (leg_of (chunk_at 32 xs j))) number table i m
  unfolding ask_each ask_places
  legs_from zero i e = rw (rows_none leg_of xs i (omega arith))
  legs_from (suc m) i e =
      rw (rows_next leg_of xs i (leg_of (chunk_at 32 xs i)) (omega arith) refl)
      (ap (λ (cs : List Check). ask (good (leg_of (chunk_at 32 xs i))) number table i ∷ cs) (legs_from m (i + 1) (omega arith)))

  pub legs_places : first_of (ask_places (λ j. good (leg_of (chunk_at 32 xs j))) number table 0 (length xs / 32 - 0)) ≡ first_of (ask_each good number table 0 (legs_of xs))
  legs_places = rw (sub-zero, ← (legs_all xs)) (ap first_of (sym (legs_from (length xs / 32) 0 (omega arith))))

-- ---- claims, each by its number

module _ (xs : List ℕ) where
  claims_from : (m i : ℕ) → length xs / 32 ≡ i + m
      → ask_numbered i (rows_from claim_of xs i) ≡ ask_places (λ j. eqb (claim_of (chunk_at 32 xs j)).group (j + 1)) 5 3 i m
  unfolding ask_numbered ask_places
  claims_from zero i e = rw (rows_none claim_of xs i (omega arith))
  claims_from (suc m) i e =
      rw (rows_next claim_of xs i (claim_of (chunk_at 32 xs i)) (omega arith) refl)
      (ap (λ (cs : List Check). ask (eqb (claim_of (chunk_at 32 xs i)).group (i + 1)) 5 3 i ∷ cs) (claims_from m (i + 1) (omega arith)))

  pub claims_places : first_of (ask_places (λ j. eqb (claim_of (chunk_at 32 xs j)).group (j + 1)) 5 3 0 (length xs / 32 - 0)) ≡ first_of (ask_numbered 0 (claims_of xs))
  claims_places = rw (sub-zero, ← (claims_all xs)) (ap first_of (sym (claims_from (length xs / 32) 0 (omega arith))))

-- ---- groups from 1 on, each asked one thing

module _ (good : ℕ → Bool) (number table : ℕ) where
  -- one place more behind the others
  places_more : (n i : ℕ) → ask_places good number table i (suc n) ≡ ask_places good number table i n ++ ask (good (i + n)) number table (i + n) ∷ []
  unfolding ask_places
  places_more zero i = let e : i + 0 ≡ i = omega arith in rw e
  places_more (suc n) i =
      let e : i + suc n ≡ i + 1 + n = omega arith in
      rw e (ap (λ (cs : List Check). ask (good i) number table i ∷ cs) (places_more n (i + 1)))

  groups_from : (n : ℕ) → ask_places good number table 1 n ≡ groups n (λ g. ask (good g) number table g ∷ [])
  unfolding groups ask_places
  groups_from zero = refl
  groups_from (suc n) =
      let e : 1 + n ≡ suc n = omega arith in
      places_more n 1 ∙ rw (e, groups_from n)

  pub groups_places : (n : ℕ) → first_of (ask_places good number table 1 (n + 1 - 1)) ≡ first_of (groups n (λ g. ask (good g) number table g ∷ []))
  groups_places n = let e : n + 1 - 1 ≡ n = omega arith in rw e (ap first_of (groups_from n))
