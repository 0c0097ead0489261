-- Lines and sides whose fields have room in their two words are the same just where the words are.
use Prim.Native.Nat.{ℕ, suc, ◌+◌, ◌-◌, ◌*◌, ◌/◌, ◌≤◌, ◌<◌}
use mathlib.Core.Path.{◌≡◌, refl, sym, ap, ◌∙◌}
use mathlib.Core.Bool.{Bool, true, false, and-eq-true_iff}
use mathlib.Core.List.{List}
use native.Mathlib.Decide.{dec_lt}
use native.Mathlib.Omega.{arith}
use lib.Dec.{eqb}
use lib.ListN.{length, get_or, set}
use lib.Seq.{get_or-set_same, get_or-set_other}
use borrow.Author.Tests.{eqb-true, eqb-false, eq-eqb, lt-ltb, le-ltb}
use Rattle.records.specs.Chunks.{chunk_at}
use Rattle.records.specs.Lines.{leg_line_side, same_line_side}
use Rattle.records.specs.declared.legs.Leg.{Leg}
use Rattle.records.specs.declared.tables.Kind.TheVariants.{Holdings, Placement}
use Rattle.records.proofs.LineLaws.{same?}
use Rattle.records.proofs.SameLaws.{bool_eq}
use Rattle.records.proofs.TableLaws.{Ranges, good_ranges, record_good}
use Rattle.sheets.specs.Steps.Pooled.{pooled_leg, pooled_records, alike, FieldsGood}
use Rattle.sheets.specs.Steps.Links.{sorts_of, digits_of, same_words, words_at, Rising, Packed, Worded, AllWorded}
use Rattle.sheets.specs.declared.links.Digits.{Digits}

pub same_digits : (x y : Leg) → same_line_side x y ≡ true → digits_of x ≡ digits_of y
unfolding digits_of
same_digits x y e = let l = (same? x y).0 e in cc

-- ---- the lowest part of a word, and what is left above it

low_word : (a b c d : ℕ) → a < 4294967296 → c < 4294967296 → a + 4294967296 * b ≡ c + 4294967296 * d → (a ≡ c) × (b ≡ d)
low_word a b c d p q e = (omega arith, omega arith)

low_size : (a b c d : ℕ) → a < 1024 → c < 1024 → a + 1024 * b ≡ c + 1024 * d → (a ≡ c) × (b ≡ d)
low_size a b c d p q e = (omega arith, omega arith)

low_sort : (a b c d : ℕ) → (1 ≤ a) × (a ≤ 2) → (1 ≤ c) × (c ≤ 2) → a + 2 * b ≡ c + 2 * d → (a ≡ c) × (b ≡ d)
low_sort a b c d p q e = (omega (arith, p, q), omega (arith, p, q))

module _ (x y : Leg) (px : Packed x) (py : Packed y) where
  -- field by field from the lowest part of each word up
  words_line : (digits_of x).low ≡ (digits_of y).low → (digits_of x).high ≡ (digits_of y).high → leg_line_side x ≡ leg_line_side y
  unfolding digits_of
  words_line low high =
      let strike : x.strike ≡ y.strike = omega (arith, low, px.strike, py.strike) in
      let expiry : x.expiry ≡ y.expiry = omega (arith, low, strike) in
      let (underlying, above) = low_word x.underlying (x.size + 1024 * sorts_of x) y.underlying (y.size + 1024 * sorts_of y)
      px.underlying py.underlying (omega (arith, high)) in
      let (size, sorts) = low_size x.size (sorts_of x) y.size (sorts_of y) px.size py.size above in
      let (side, after) = low_sort x.side (x.right + 2 * (x.style + 2 * (x.market + 2 * x.settlement)))
      y.side (y.right + 2 * (y.style + 2 * (y.market + 2 * y.settlement))) px.side py.side (omega (arith, sorts)) in
      let (right, after₂) = low_sort x.right (x.style + 2 * (x.market + 2 * x.settlement))
      y.right (y.style + 2 * (y.market + 2 * y.settlement)) px.right py.right after in
      let (style, after₃) = low_sort x.style (x.market + 2 * x.settlement) y.style (y.market + 2 * y.settlement) px.style py.style after₂ in
      let (market, settlement) = low_sort x.market x.settlement y.market y.settlement px.market py.market after₃ in
      cc

  -- words that are y's, held against x's
  pub words_same : (words : Digits) → words ≡ digits_of y → same_words words (digits_of x) ≡ same_line_side x y
  words_same words w =
      let low : words.low ≡ (digits_of y).low = ap (λ (t : Digits). t.low) w in
      let high : words.high ≡ (digits_of y).high = ap (λ (t : Digits). t.high) w in
      bool_eq _ _
      (λ e.
      let b = (and-eq-true_iff (eqb words.low (digits_of x).low) (eqb words.high (digits_of x).high)).0 e in
      (same? x y).1 (words_line (sym (eqb-true words.low (digits_of x).low b.0) ∙ low) (sym (eqb-true words.high (digits_of x).high b.1) ∙ high)))
      (λ e.
      let d = same_digits x y e in
      (and-eq-true_iff (eqb words.low (digits_of x).low) (eqb words.high (digits_of x).high)).1 (
        eq-eqb words.low (digits_of x).low (low ∙ sym (ap (λ (t : Digits). t.low) d)),
        eq-eqb words.high (digits_of x).high (high ∙ sym (ap (λ (t : Digits). t.high) d)),
      ))

-- what the test of the words says of the record that a link leads to
module _ (words : List Digits) (links : List ℕ) (l j : ℕ) (leads : get_or links l 0 ≡ suc j) (whole : Digits) (b : Bool)
    (e : same_words (words_at words j) whole ≡ b) where
  pub tested : (leg : ℕ → Leg) → AllWorded leg words links → (x : Leg) → Packed x → whole ≡ digits_of x → alike leg x j ≡ b
  tested leg known x packed q =
      let v = known l j leads in
      sym (words_same x (leg j) packed v.packed (words_at words j) v.digits) ∙ rw (sym q) e

-- ---- the fields of records that have passed 4 have that room

ranges_packed : (top : ℕ) (l : Leg) → Ranges top l → Packed l
ranges_packed top l r =
    record {
      side = r.side;
      right = r.right;
      style = r.style;
      market = r.market;
      size = omega (arith, r.size.1);
      underlying = omega (arith, r.underlying.1);
      strike = omega (arith, r.strike.1);
    }

pub leg_packed : (h p : List ℕ) → FieldsGood h p → (k : ℕ) → k < pooled_records h p → Packed (pooled_leg h p k)
unfolding pooled_leg
leg_packed h p good k l =
    elim (dec_lt k (length h / 32)) [
      | yes q ↦ rw (lt-ltb k (length h / 32) q) (ranges_packed 0 _ (good_ranges 0 (chunk_at 32 h k) (record_good Holdings h k good.0 q)))
      | no q ↦
          rw (le-ltb k (length h / 32) (omega arith))
          (ranges_packed 32 _ (good_ranges 32 (chunk_at 32 p (k - length h / 32)) (record_good Placement p (k - length h / 32) good.1 (omega arith))))
    ]

-- ---- record k linked at a free link, with its words

module _ (leg : ℕ → Leg) (words : List Digits) (links : List ℕ) (known : AllWorded leg words links) (k at : ℕ) (digits : Digits) where
  pub worded_new : Rising k links → at < length links → k < length words → Packed (leg k) → digits ≡ digits_of (leg k)
      → AllWorded leg (set words k digits) (set links at (suc k))
  worded_new rising room in-words packed e l j s = go (eqb l at) refl
    where
      go : (t : Bool) → eqb l at ≡ t → Worded leg (set words k digits) j
      go true q =
          let here : get_or (set links at (suc k)) l 0 ≡ suc k = ap (λ (m : ℕ). get_or (set links at (suc k)) m 0) (eqb-true l at q) ∙ get_or-set_same links at (suc k) 0 room in
          let same : k ≡ j = omega (arith, here, s) in
          rw (← same)
          record {
            packed = packed;
            digits = get_or-set_same words k digits _ in-words ∙ e;
          }
      go false q =
          let old = sym (get_or-set_other links at l (suc k) 0 (eqb-false l at q)) ∙ s in
          let w = known l j old in
          let r = (rising l j old).0 in
          let other : j ≡ k → ⊥ = λ e. omega (arith, r, e) in
          record {
            packed = w.packed;
            digits = get_or-set_other words k j digits _ other ∙ w.digits;
          }
