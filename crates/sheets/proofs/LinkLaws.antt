-- The search from link to link finds a record of the leg's line and side where there is one.
use Prim.Native.Nat.{ℕ, suc, ◌+◌, ◌*◌, ◌<◌}
use mathlib.Core.Path.{◌≡◌, refl, sym, ap, ◌∙◌}
use mathlib.Core.Bool.{Bool, true, false, false≢true}
use mathlib.Core.List.{List}
use native.Mathlib.Nat.{not-suc-le-zero}
use native.Mathlib.Omega.{arith}
use lib.Dec.{eqb}
use lib.ListN.{length, get_or, set}
use lib.Seq.{get_or-set_same, get_or-set_other}
use borrow.Author.Tests.{eqb-true, eqb-false}
use borrow.Author.Count.{below_more}
use Rattle.records.specs.Lines.{same_line_side}
use Rattle.records.specs.declared.legs.Leg.{Leg}
use Rattle.records.proofs.LineLaws.{same?, line_sym, line_swap}
use Rattle.sheets.specs.Steps.Pooled.{alike, LineNumbered}
use Rattle.sheets.specs.Steps.Links.{bucket_of, digits_of, rest_of, link_below, Unlinked, Rising, Ends}
use Rattle.sheets.specs.Steps.Links as links-of
use Rattle.sheets.specs.declared.links.Digits.{Digits}
use Rattle.sheets.proofs.WordLaws.{same_digits}
use Rattle.sheets.proofs.NumberLaws.{numbered_none, numbered_new, numbered_old}

-- legs of one line and side have the same bucket
same_bucket : (x y : Leg) → same_line_side x y ≡ true → bucket_of x ≡ bucket_of y
unfolding bucket_of
same_bucket x y e = let l = (same? x y).0 e in cc

bucket_small : (k : ℕ) (x : Leg) → bucket_of x < 509 + 8 * k
unfolding bucket_of
bucket_small k x = omega arith

below_small : (k j : ℕ) (d : Digits) → j < k → link_below j d < 509 + 8 * k
unfolding link_below
below_small k j d h = omega arith

alike_same : (leg : ℕ → Leg) (x y : Leg) → same_line_side x y ≡ true → (j : ℕ) → alike leg y j ≡ alike leg x j
alike_same leg x y q j = line_sym y (leg j) ∙ sym (line_swap (leg j) x y q) ∙ line_sym (leg j) x

-- ---- where a search ends

module _ {leg : ℕ → Leg} {links : List ℕ} {x : Leg} where
  pub ends_small : {d : Digits} {l e : ℕ} (k : ℕ) → Rising k links → l < 509 + 8 * k → Ends leg links x d l e → e < 509 + 8 * k
  ends_small k rising h (links-of.free q z) = omega arith
  ends_small k rising h (links-of.met j q s a) = omega arith
  ends_small {d} {l} k rising h (links-of.on j s a rest) = ends_small k rising (below_small k j d (rising l j s).0) rest

  pub ends_met : {d : Digits} {l e : ℕ} (j : ℕ) → Ends leg links x d l e → get_or links e 0 ≡ suc j → alike leg x j ≡ true
  ends_met j (links-of.free q z) s = absurd (omega (arith, ap (λ (m : ℕ). get_or links m 0) q))
  ends_met j (links-of.met i q t a) s =
      let e : i ≡ j = omega (arith, ap (λ (m : ℕ). get_or links m 0) q) in
      rw e at a
  ends_met j (links-of.on i t a rest) s = ends_met j rest s

  ends_alike : {d : Digits} {l e : ℕ} (y : Leg) → same_line_side x y ≡ true → Ends leg links x d l e → Ends leg links y d l e
  ends_alike y q (links-of.free p z) = links-of.free p z
  ends_alike y q (links-of.met j p s a) = links-of.met j p s (alike_same leg x y q j ∙ a)
  ends_alike y q (links-of.on j s a rest) = links-of.on j s (alike_same leg x y q j ∙ a) (ends_alike y q rest)

-- the search for x ends at a free link
pub record Missed (leg : ℕ → Leg) (links : List ℕ) (x : Leg) (d : Digits) (l : ℕ) : Type 0 where
  pub end : ℕ
  pub ends : Ends leg links x d l end
  pub none : get_or links end 0 ≡ 0

-- ---- record k linked at a free link

module _ (leg : ℕ → Leg) (links : List ℕ) (k at : ℕ) (none : get_or links at 0 ≡ 0) (room : at < length links) where
  abbrev next : List ℕ
  next = set links at (suc k)

  here : (l : ℕ) → l ≡ at → get_or next l 0 ≡ suc k
  here l e = ap (λ (m : ℕ). get_or next m 0) e ∙ get_or-set_same links at (suc k) 0 room

  other : (l : ℕ) → (l ≡ at → ⊥) → get_or next l 0 ≡ get_or links l 0
  other l ne = get_or-set_other links at l (suc k) 0 ne

  not_here : (l : ℕ) → get_or next l 0 ≡ 0 → l ≡ at → ⊥
  not_here l z e = omega (arith, here l e)

  linked_elsewhere : (l j : ℕ) → get_or links l 0 ≡ suc j → l ≡ at → ⊥
  linked_elsewhere l j s e = omega (arith, ap (λ (m : ℕ). get_or links m 0) e)

  on_before : (x : Leg) (d : Digits) (l j : ℕ) → get_or next l 0 ≡ suc j → alike leg x j ≡ false
      → Missed leg links x (rest_of d) (link_below j d) → (t : Bool) → eqb l at ≡ t → Missed leg links x d l
  on_before x d l j s a m true q = record { end = at; ends = links-of.free (sym (eqb-true l at q)) (ap (λ (i : ℕ). get_or links i 0) (eqb-true l at q) ∙ none); none = none }
  on_before x d l j s a m false q = record { end = m.end; ends = links-of.on j (sym (other l (eqb-false l at q)) ∙ s) a m.ends; none = m.none }

  -- what is missed now was missed before
  missed_before : (x : Leg) {d : Digits} {l e : ℕ} → Ends leg next x d l e → get_or next e 0 ≡ 0 → Missed leg links x d l
  missed_before x {d} {l} {e} (links-of.free q z) g =
      let s = sym (other l (not_here l z)) ∙ z in
      record { end = l; ends = links-of.free refl s; none = s }
  missed_before x {d} {l} {e} (links-of.met j q s a) g = absurd (omega (arith, ap (λ (m : ℕ). get_or next m 0) q))
  missed_before x {d} {l} {e} (links-of.on j s a rest) g = on_before x d l j s a (missed_before x rest g) (eqb l at) refl

  -- record k is not missed
  not_missed : (y : Leg) {d : Digits} {l e : ℕ} → Ends leg links y d l at → alike leg y k ≡ true → Ends leg next y d l e → get_or next e 0 ≡ 0 → ⊥
  not_missed y {d} {l} {e} (links-of.free p z) b (links-of.free q w) g = not_here l w (sym p)
  not_missed y {d} {l} {e} (links-of.free p z) b (links-of.met j q s a) g = not_here e g (q ∙ sym p)
  not_missed y {d} {l} {e} (links-of.free p z) b (links-of.on j s a rest) g =
      let i : j ≡ k = omega (arith, here l (sym p)) in
      false≢true (sym a ∙ ap (alike leg y) i ∙ b)
  not_missed y {d} {l} {e} (links-of.met j p s a) b second g = linked_elsewhere l j s (sym p)
  not_missed y {d} {l} {e} (links-of.on j s a rest) b (links-of.free q w) g = omega (arith, other l (linked_elsewhere l j s))
  not_missed y {d} {l} {e} (links-of.on j s a rest) b (links-of.met i q t c) g = omega (arith, ap (λ (m : ℕ). get_or next m 0) q)
  not_missed y {d} {l} {e} (links-of.on j s a rest) b (links-of.on i t c rest2) g =
      let same : i ≡ j = omega (arith, other l (linked_elsewhere l j s)) in
      not_missed y rest b (rw same at rest2) g

  rising_at : (l j : ℕ) → at < 509 + 8 * k → Rising k links → get_or next l 0 ≡ suc j → (t : Bool) → eqb l at ≡ t → (j < k + 1) × (l < 509 + 8 * j)
  rising_at l j small rising s true q =
      let e = eqb-true l at q in
      let i : j ≡ k = omega (arith, here l e) in
      (omega arith, omega arith)
  rising_at l j small rising s false q =
      let r = rising l j (sym (other l (eqb-false l at q)) ∙ s) in
      (omega (arith, r.0), r.1)

  rising_new : at < 509 + 8 * k → Rising k links → Rising (k + 1) next
  rising_new small rising l j s = rising_at l j small rising s (eqb l at) refl

-- ---- all that is known of the first k records: none of them is missed

pub record Linked (leg : ℕ → Leg) (k : ℕ) (numbers links : List ℕ) : Type 0 where
  pub numbered : LineNumbered leg k numbers
  pub rising : Rising k links
  pub found : (x : Leg) (j : ℕ) → j < k → alike leg x j ≡ true → Missed leg links x (digits_of x) (bucket_of x) → ⊥

pub linked_none : (leg : ℕ → Leg) (numbers links : List ℕ) → Unlinked links → Linked leg 0 numbers links
linked_none leg numbers links none =
    record {
      numbered = numbered_none leg numbers;
      rising = λ l j s. absurd (omega (arith, none l));
      found = λ x j h. absurd (not-suc-le-zero h);
    }

false_where : (b : Bool) → (b ≡ true → ⊥) → b ≡ false
false_where true f = absurd (f refl)
false_where false f = refl

module _ (leg : ℕ → Leg) (k : ℕ) (numbers links : List ℕ) (so_far : Linked leg k numbers links) (room : k < length numbers)
    (x : Leg) (e : x ≡ leg k) (at : ℕ) (ends : Ends leg links x (digits_of x) (bucket_of x) at) where
  pub link_small : at < 509 + 8 * k
  link_small = ends_small k so_far.rising (bucket_small k x) ends

  ends_here : Ends leg links (leg k) (digits_of (leg k)) (bucket_of (leg k)) at
  ends_here = rw e at ends

  pub linked_old : (j v : ℕ) → get_or links at 0 ≡ suc j → v ≡ get_or numbers j 0 → Linked leg (k + 1) (set numbers k v) links
  linked_old j v s q =
      let h = (so_far.rising at j s).0 in
      let a = ends_met j ends_here s in
      record {
        numbered = numbered_old leg k numbers so_far.numbered room v j h a q;
        rising = λ l i t. (let r = so_far.rising l i t in (omega (arith, r.0), r.1));
        found =
            λ y. below_more (λ i. alike leg y i ≡ true → Missed leg links y (digits_of y) (bucket_of y) → ⊥) k
            (λ i g b m. so_far.found y i g b m)
            (λ b m. so_far.found y j h (sym (line_swap y (leg k) (leg j) a) ∙ b) m);
      }

  pub linked_new : (v w : ℕ) → at < length links → get_or links at 0 ≡ 0 → v ≡ k → w ≡ suc k → Linked leg (k + 1) (set numbers k v) (set links at w)
  linked_new v w fits none q r =
      rw r
      record {
        numbered =
            numbered_new leg k numbers so_far.numbered room v q
            (λ i h. false_where _ (λ a. so_far.found (leg k) i h a (record { end = at; ends = ends_here; none = none })));
        rising = rising_new leg links k at none fits link_small so_far.rising;
        found =
            λ y. below_more (λ i. alike leg y i ≡ true → Missed leg (set links at (suc k)) y (digits_of y) (bucket_of y) → ⊥) k
            (λ i g b m. so_far.found y i g b (missed_before leg links k at none fits y m.ends m.none))
            (λ b m. not_missed leg links k at none fits y (ends_for y b) b m.ends m.none);
      }
    where
      ends_for : (y : Leg) → alike leg y k ≡ true → Ends leg links y (digits_of y) (bucket_of y) at
      ends_for y b = rw (same_digits y (leg k) b, same_bucket y (leg k) b) (ends_alike y (line_sym (leg k) y ∙ b) ends_here)
