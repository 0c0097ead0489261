-- One claim in place of two: the claims stay numbered, each is for its group, and what becomes of their total.
use mathlib.Core.Path.{◌≡◌, refl, sym, ap, ◌∙◌}
use mathlib.Core.Bool.{Bool, true, false, cond}
use mathlib.Core.List.{List, [], ◌∷◌, map}
use mathlib.Core.Logic.{◌≢◌}
use Prim.Native.Nat.{ℕ, zero, suc, ◌+◌, ◌-◌, ◌≤◌, ◌<◌}
use native.Mathlib.Nat.{not-suc-le-zero, le_of_suc-le-suc}
use native.Mathlib.Numerals.{add-one}
use native.Mathlib.Omega.{arith}
use lib.Dec.{eqb}
use lib.ListN.{length, get_or, take, length-map, length-take, get_or-map}
use lib.Seq.{get_or-take}
use borrow.Author.Tests.{eqb-true, eq-eqb, ne_eqb}
use Rattle.records.specs.declared.claims.Claim.{Claim}
use Rattle.spreads.specs.Work.{total}
use Rattle.sheets.specs.Joined.{restated, joined_claims}
use Rattle.sheets.specs.Sheets.{Numbered, claim_for, total_of}
use Rattle.sheets.proofs.Groups.{total_claims, total_but}

numbered_take : (n k : ℕ) (cs : List Claim) → Numbered k cs → Numbered k (take n cs)
numbered_take zero k cs a = tt
numbered_take (suc n) k [] a = tt
numbered_take (suc n) k (c ∷ cs) a = (a.0, numbered_take n (k + 1) cs a.1)

abbrev none : Claim
none = record { group = 0; margin = 0 }

margin_take : (n : ℕ) (cs : List Claim) (i : ℕ) → i < n → get_or (map (λ c. c.margin) (take n cs)) i 0 ≡ get_or (map (λ c. c.margin) cs) i 0
margin_take n cs i h =
    get_or-map (λ c. c.margin) (take n cs) i none
    ∙ ap (λ (c : Claim). c.margin) (get_or-take n cs i none h)
    ∙ sym (get_or-map (λ c. c.margin) cs i none)

module _ (g mills : ℕ) where
  restated_group : (c : Claim) → (restated g mills c).group ≡ c.group
  unfolding restated
  restated_group c = go (eqb c.group g) refl
    where
      go : (b : Bool) → eqb c.group g ≡ b → (cond b (record { group = g; margin = mills }) c).group ≡ c.group
      go true e = sym (eqb-true c.group g e)
      go false e = refl

  restated_margin : (c : Claim) → (restated g mills c).margin ≡ cond (eqb c.group g) mills c.margin
  unfolding restated
  restated_margin c = go (eqb c.group g)
    where
      go : (b : Bool) → (cond b (record { group = g; margin = mills }) c).margin ≡ cond b mills c.margin
      go true = refl
      go false = refl

  restated_numbered : (k : ℕ) (cs : List Claim) → Numbered k cs → Numbered k (map (restated g mills) cs)
  restated_numbered k [] a = tt
  restated_numbered k (c ∷ cs) a = (restated_group c ∙ a.0, restated_numbered (k + 1) cs a.1)

  restated_at : (k : ℕ) (cs : List Claim) → Numbered k cs → (i : ℕ) → i < length cs
      → get_or (map (λ c. c.margin) (map (restated g mills) cs)) i 0 ≡ cond (eqb (k + i) g) mills (get_or (map (λ c. c.margin) cs) i 0)
  restated_at k [] a i h = absurd (not-suc-le-zero h)
  restated_at k (c ∷ cs) a zero h = let e : k + 0 ≡ c.group = omega (arith, a.0) in rw e (restated_margin c)
  restated_at k (c ∷ cs) a (suc i) h =
      let e : k + suc i ≡ k + 1 + i = omega arith in
      rw e (restated_at (k + 1) cs a.1 i (le_of_suc-le-suc h))

  module _ (n : ℕ) (c : List Claim) (count : length c ≡ n + 1) (numbered : Numbered 1 c) where
    pub joined_length : length (joined_claims n g mills c) ≡ n
    joined_length = simp (length-map, length-take) (omega arith)

    pub joined_numbered : Numbered 1 (joined_claims n g mills c)
    joined_numbered = restated_numbered 1 (take n c) (numbered_take n 1 c numbered)

    joined_for : (k : ℕ) → 1 ≤ k → k ≤ n → claim_for (joined_claims n g mills c) k ≡ cond (eqb k g) mills (claim_for c k)
    unfolding claim_for
    joined_for k a b =
        let e : 1 + (k - 1) ≡ k = omega arith in
        let at = restated_at 1 (take n c) (numbered_take n 1 c numbered) (k - 1) (simp length-take (omega arith)) in
        rw (e, margin_take n c (k - 1) (omega arith)) at at

    pub claim_joined : 1 ≤ g → g ≤ n → claim_for (joined_claims n g mills c) g ≡ mills
    claim_joined a b = joined_for g a b ∙ rw (eq-eqb g g refl)

    pub claim_stays : (k : ℕ) → 1 ≤ k → k ≤ n → k ≢ g → claim_for (joined_claims n g mills c) k ≡ claim_for c k
    claim_stays k a b o = joined_for k a b ∙ rw (ne_eqb k g o)

    pub joined_total : 1 ≤ g → g ≤ n → total_of (joined_claims n g mills c) + (claim_for c g + claim_for c (n + 1)) ≡ total_of c + mills
    unfolding total
    joined_total a b =
        let all : total_of c ≡ total n (claim_for c) + claim_for c (n + 1) = total_claims c ∙ rw (count, add-one) in
        let those : total_of (joined_claims n g mills c) ≡ total n (claim_for (joined_claims n g mills c)) =
        total_claims (joined_claims n g mills c) ∙ rw joined_length in
        omega (
          arith,
          all,
          those,
          claim_joined a b,
          total_but n (claim_for (joined_claims n g mills c)) (claim_for c) g a b (λ k low high o. claim_stays k low high o),
        )
