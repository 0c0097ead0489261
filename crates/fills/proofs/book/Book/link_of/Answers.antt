use Rattle.std.proofs.Common.{ap, sym, ◌∙◌, arith}
use Rattle.fills.specs.Steps.Links.{bucket_of}
use Rattle.fills.proofs.LinkLaws.{searching_none, search_free, search_found, search_on, linked}
use Rattle.fills.proofs.book.Book.link_of.Goals as goal

pub loop-leg-init : goal.loop-leg-init
loop-leg-init c =
    let b = c.bucket_of-link.ensures in
    record { inside = omega (arith, b.1); searching = searching_none _ _ (b.0 ∙ ap bucket_of c.leg-leg.ensures) }

pub returns-then-at-eq0-clause-ended : goal.returns-then-at-eq0-clause-ended
returns-then-at-eq0-clause-ended c = search_free c.loop-leg.invariant.searching c.if-at-eq0.true

pub bounds-self-j : goal.bounds-self-j
bounds-self-j c =
    let s = c.args.self.now in
    omega (arith, s.stand.rising _ _ (linked c.loop-leg.invariant.searching c.if-at-eq0.false), s.within)

pub returns-then-self-j-clause-ended : goal.returns-then-self-j-clause-ended
returns-then-self-j-clause-ended c =
    search_found c.loop-leg.invariant.searching c.if-at-eq0.false (rw (sym c.leg-leg.ensures, sym c.leg.ensures, sym c.same_line_side.ensures) c.if-self-j.true)

pub loop-leg-smaller : goal.loop-leg-smaller
loop-leg-smaller c =
    let s = c.args.self.now in
    omega (arith, s.stand.rising _ _ (linked c.loop-leg.invariant.searching c.if-at-eq0.false), c.loop-leg.invariant.inside)

pub loop-leg-preserved : goal.loop-leg-preserved
loop-leg-preserved c =
    let s = c.args.self.now in
    record {
      inside = omega (arith, s.stand.rising _ _ (linked c.loop-leg.invariant.searching c.if-at-eq0.false), s.within);
      searching =
          search_on c.loop-leg.invariant.searching c.if-at-eq0.false (rw (sym c.leg-leg.ensures, sym c.leg.ensures, sym c.same_line_side.ensures) c.if-self-j.false);
    }
