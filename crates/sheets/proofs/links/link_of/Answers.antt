use Rattle.std.proofs.Common.{ℕ, suc, ◌≡◌, ◌-◌, refl, sym, ◌∙◌, arith}
use Rattle.sheets.specs.Steps.Links as links-of
use Rattle.sheets.proofs.WordLaws.{tested}
use Rattle.sheets.proofs.links.link_of.Goals as goal

-- the record that the link leads to
leads : (n at : ℕ) → at ≡ n → (at ≡ 0 → ⊥) → n ≡ suc (at - 1)
leads n at e h = omega arith

pub loop-whole-init : goal.loop-whole-init
loop-whole-init c = (omega arith, λ legs known x packed w e q. q)

pub returns-then-at-eq0 : goal.returns-then-at-eq0
returns-then-at-eq0 c legs known x packed w b =
    let s = sym c.from-at.ensures ∙ c.if-at-eq0.true in
    rw (w, b) at (c.loop-whole.invariant.1 legs known x packed w c.loop-whole.link (links-of.free refl s))

pub bounds-words-j : goal.bounds-words-j
bounds-words-j c = (c.requires.rising c.loop-whole.link (c.from-at.result - 1) (leads _ _ c.from-at.ensures c.if-at-eq0.false)).0

pub returns-then-same : goal.returns-then-same
returns-then-same c legs known x packed w b =
    let s = leads _ _ c.from-at.ensures c.if-at-eq0.false in
    let t = tested c.args.words.now c.args.links.now c.loop-whole.link (c.from-at.result - 1) s c.args.whole _ (sym c.same.ensures ∙ c.if-same.true) in
    rw (w, b) at (c.loop-whole.invariant.1 legs known x packed w c.loop-whole.link (links-of.met (c.from-at.result - 1) refl s (t legs known x packed w)))

pub link_below-link-requires : goal.link_below-link-requires
link_below-link-requires c =
    omega (arith, (c.requires.rising c.loop-whole.link (c.from-at.result - 1) (leads _ _ c.from-at.ensures c.if-at-eq0.false)).0)

pub loop-whole-smaller : goal.loop-whole-smaller
loop-whole-smaller c =
    omega (arith, c.link_below-link.ensures, c.requires.rising c.loop-whole.link (c.from-at.result - 1) (leads _ _ c.from-at.ensures c.if-at-eq0.false))

pub loop-whole-preserved : goal.loop-whole-preserved
loop-whole-preserved c =
    let s = leads _ _ c.from-at.ensures c.if-at-eq0.false in
    let t = tested c.args.words.now c.args.links.now c.loop-whole.link (c.from-at.result - 1) s c.args.whole _ (sym c.same.ensures ∙ c.if-same.false) in (
      omega (arith, c.link_below-link.ensures, c.requires.rising c.loop-whole.link (c.from-at.result - 1) s),
      λ legs known x packed w e r.
          c.loop-whole.invariant.1 legs known x packed w e
          (links-of.on (c.from-at.result - 1) s (t legs known x packed w) (rw (sym c.link_below-link.ensures.0, sym c.rest-digits.ensures) r)),
    )
