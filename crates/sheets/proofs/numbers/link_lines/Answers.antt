use Rattle.std.proofs.Common.{ℕ, List, suc, ◌≡◌, ◌-◌, ◌+◌, ◌*◌, ◌<◌, refl, sym, ◌∙◌, add-one, length, get_or, arith}
use Rattle.records.specs.declared.legs.Leg.{Leg}
use Rattle.sheets.specs.Steps.Pooled.{pooled_leg, pooled_records, FieldsGood}
use Rattle.sheets.specs.Steps.Links.{bucket_of, digits_of, Ends, Packed, AllWorded, EndsFor}
use Rattle.sheets.specs.declared.links.Digits.{Digits}
use Rattle.sheets.proofs.LinkLaws.{Linked, linked_none, link_small, linked_old, linked_new}
use Rattle.sheets.proofs.WordLaws.{leg_packed, worded_new}
use Rattle.sheets.proofs.numbers.link_lines.Goals.{then-found-eq0, else-found-eq0}
use Rattle.sheets.proofs.numbers.link_lines.Goals as goal

-- where the search for record k ends
module _ (h p : List ℕ) (good : FieldsGood h p) (k : ℕ) (room : k < pooled_records h p) (numbers links : List ℕ) (words : List Digits)
    (linked : Linked (pooled_leg h p) k numbers links) (known : AllWorded (pooled_leg h p) words links) (fits : k < length numbers)
    (leg : Leg) (e : leg ≡ pooled_leg h p k) (digits : Digits) (d : digits ≡ digits_of leg) (bucket link : ℕ) (b : bucket ≡ bucket_of leg)
    (ends : EndsFor words links bucket digits link) where
  packed : Packed leg
  packed = rw e (leg_packed h p good k room)

  there : Ends (pooled_leg h p) links leg (digits_of leg) (bucket_of leg) link
  there = ends (pooled_leg h p) known leg packed d b

  small : link < 509 + 8 * k
  small = link_small (pooled_leg h p) k numbers links linked fits leg e link there

  module _ (n : ℕ) (at : n ≡ get_or links link 0) where
    found : (n ≡ 0 → ⊥) → (get_or links link 0 ≡ suc (n - 1)) × (n - 1 < k)
    found ne =
        let g : get_or links link 0 ≡ suc (n - 1) = omega arith in
        (g, (linked.rising link (n - 1) g).0)

pub loop-k-init : goal.loop-k-init
loop-k-init c =
    let none = c.requires.unlinked in
    (linked_none _ _ _ none, λ l j e. absurd (omega (arith, none l)))

pub link_of-link-requires-clause-rising : goal.link_of-link-requires-clause-rising
link_of-link-requires-clause-rising c i j e =
    let r = c.loop-k.invariant.0.rising i j e in
    (omega (arith, r.0), r.1)

pub offset_bounds-links-link : goal.offset_bounds-links-link
offset_bounds-links-link c =
    omega (arith, small c.args.tables.now.holdings.now c.args.tables.now.placement.now c.args.tables.now.good c.loop-k.k (omega arith) _ _ _ c.loop-k.invariant.0 c.loop-k.invariant.1 (omega arith) _ c.leg-leg.ensures _ c.of-digits.ensures _ _ c.bucket_of.ensures.0 c.link_of-link.ensures)

pub bounds-links-link : goal.bounds-links-link
bounds-links-link c =
    omega (arith, small c.args.tables.now.holdings.now c.args.tables.now.placement.now c.args.tables.now.good c.loop-k.k (omega arith) _ _ _ c.loop-k.invariant.0 c.loop-k.invariant.1 (omega arith) _ c.leg-leg.ensures _ c.of-digits.ensures _ _ c.bucket_of.ensures.0 c.link_of-link.ensures)

pub offset_bounds-links-link-then-found-eq0 : goal.offset_bounds-links-link-then-found-eq0
offset_bounds-links-link-then-found-eq0 c =
    omega (arith, small c.args.tables.now.holdings.now c.args.tables.now.placement.now c.args.tables.now.good c.loop-k.k (omega arith) _ _ _ c.loop-k.invariant.0 c.loop-k.invariant.1 (omega arith) _ c.leg-leg.ensures _ c.of-digits.ensures _ _ c.bucket_of.ensures.0 c.link_of-link.ensures)

pub bounds-links-link-then-found-eq0 : goal.bounds-links-link-then-found-eq0
bounds-links-link-then-found-eq0 c =
    omega (arith, small c.args.tables.now.holdings.now c.args.tables.now.placement.now c.args.tables.now.good c.loop-k.k (omega arith) _ _ _ c.loop-k.invariant.0 c.loop-k.invariant.1 (omega arith) _ c.leg-leg.ensures _ c.of-digits.ensures _ _ c.bucket_of.ensures.0 c.link_of-link.ensures)

pub bounds-numbers-found : goal.bounds-numbers-found
bounds-numbers-found c =
    omega (arith, (found c.args.tables.now.holdings.now c.args.tables.now.placement.now c.args.tables.now.good c.loop-k.k (omega arith) _ _ _ c.loop-k.invariant.0 c.loop-k.invariant.1 (omega arith) _ c.leg-leg.ensures _ c.of-digits.ensures _ _ c.bucket_of.ensures.0 c.link_of-link.ensures _ c.from-found.ensures c.if-found-eq0.false).1)

pub loop-k-preserved : goal.loop-k-preserved
loop-k-preserved c =
    let h = c.args.tables.now.holdings.now in
    let p = c.args.tables.now.placement.now in
    let k = c.loop-k.k in
    let link = c.link_of-link.result in
    let linked = c.loop-k.invariant.0 in
    let known = c.loop-k.invariant.1 in
    let e = c.leg-leg.ensures in
    let fits : k < length c.loop-k.numbers = omega arith in
    let ends = there c.args.tables.now.holdings.now c.args.tables.now.placement.now c.args.tables.now.good c.loop-k.k (omega arith) _ _ _ c.loop-k.invariant.0 c.loop-k.invariant.1 (omega arith) _ c.leg-leg.ensures _ c.of-digits.ensures _ _ c.bucket_of.ensures.0 c.link_of-link.ensures in
    elim c.if-found-eq0.branch [
      | then-found-eq0 v ↦ (
          let room : link < length c.loop-k.links = omega (arith, small c.args.tables.now.holdings.now c.args.tables.now.placement.now c.args.tables.now.good c.loop-k.k (omega arith) _ _ _ c.loop-k.invariant.0 c.loop-k.invariant.1 (omega arith) _ c.leg-leg.ensures _ c.of-digits.ensures _ _ c.bucket_of.ensures.0 c.link_of-link.ensures) in
          let in-words : k < length c.loop-k.words = omega arith in (
            rw (v.numbers-is, v.links-is)
                (linked_new (pooled_leg h p) k _ _ linked fits _ e link ends _ _ room (sym c.from-found.ensures ∙ v.if-found-eq0.true) refl (add-one _)),
            rw (v.links-is, v.words-is, add-one)
                (worded_new (pooled_leg h p) c.loop-k.words c.loop-k.links known k link c.of-digits.result linked.rising room in-words (leg_packed h p c.args.tables.now.good k (omega arith)) (rw (← e) c.of-digits.ensures)),
          ))
      | else-found-eq0 v ↦ (
        rw (v.numbers-is, v.links-is)
            (linked_old (pooled_leg h p) k _ _ linked fits _ e link ends _ _ (found c.args.tables.now.holdings.now c.args.tables.now.placement.now c.args.tables.now.good c.loop-k.k (omega arith) _ _ _ c.loop-k.invariant.0 c.loop-k.invariant.1 (omega arith) _ c.leg-leg.ensures _ c.of-digits.ensures _ _ c.bucket_of.ensures.0 c.link_of-link.ensures _ c.from-found.ensures v.if-found-eq0.false).0 refl),
        rw (v.links-is, v.words-is) known,
      )
    ]

pub returns : goal.returns
returns c =
    let e : c.loop-k.k ≡ pooled_records c.args.tables.now.holdings.now c.args.tables.now.placement.now = omega arith in
    rw e at c.loop-k.invariant.0.numbered
