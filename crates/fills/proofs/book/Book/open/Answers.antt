use Rattle.std.proofs.Common.{refl, ap, ◌∙◌, arith, add-one}
use Rattle.records.specs.declared.legs.Leg.{Leg}
use Rattle.fills.proofs.PostLaws.{inside, add_done, add_past, new_done, new_full, sum_is}
use Rattle.fills.proofs.StandLaws.{stand_self}
use Rattle.fills.proofs.book.Book.open.Goals as goal

pub bounds-self-j : goal.bounds-self-j
bounds-self-j c = inside c.args.self.now.stand c.requires.0 c.requires.1 _ c.link_of-link.ensures.ended c.if-at-ne0.true

pub invariant_of-self : goal.invariant_of-self
invariant_of-self c =
    let p = add_done c.args.self.now.stand c.requires.0 c.requires.1 _ c.link_of-link.ensures.ended c.if-at-ne0.true _ (sum_is {x = c.leg-leg.result} c.of.ensures c.plus.ensures c.number-sum.ensures c.leg-leg.ensures) c.if-sum-le-MOST_CONTRACTS.true in
    record { tables = c.args.self.now.tables; within = omega (arith, c.requires.0); stand = stand_self p.stand }

pub returns-then-sum-le-MOST_CONTRACTS-clause-answer : goal.returns-then-sum-le-MOST_CONTRACTS-clause-answer
returns-then-sum-le-MOST_CONTRACTS-clause-answer c =
    let p = add_done c.args.self.now.stand c.requires.0 c.requires.1 _ c.link_of-link.ensures.ended c.if-at-ne0.true _ (sum_is {x = c.leg-leg.result} c.of.ensures c.plus.ensures c.number-sum.ensures c.leg-leg.ensures) c.if-sum-le-MOST_CONTRACTS.true in
    p.answered

pub returns-then-sum-le-MOST_CONTRACTS-clause-gone_over : goal.returns-then-sum-le-MOST_CONTRACTS-clause-gone_over
returns-then-sum-le-MOST_CONTRACTS-clause-gone_over c =
    let p = add_done c.args.self.now.stand c.requires.0 c.requires.1 _ c.link_of-link.ensures.ended c.if-at-ne0.true _ (sum_is {x = c.leg-leg.result} c.of.ensures c.plus.ensures c.number-sum.ensures c.leg-leg.ensures) c.if-sum-le-MOST_CONTRACTS.true in
    record { holdings = refl; fills = refl; gone = refl; rows = p.stand.are }

pub invariant_of-self-else-sum-le-MOST_CONTRACTS : goal.invariant_of-self-else-sum-le-MOST_CONTRACTS
invariant_of-self-else-sum-le-MOST_CONTRACTS c =
    let p = add_past c.args.self.now.stand c.requires.0 c.requires.1 _ c.link_of-link.ensures.ended c.if-at-ne0.true _ (sum_is {x = c.leg-leg.result} c.of.ensures c.plus.ensures c.number-sum.ensures c.leg-leg.ensures) c.if-sum-le-MOST_CONTRACTS.false in
    record { tables = c.args.self.now.tables; within = omega (arith, c.requires.0); stand = stand_self p.stand }

pub returns-else-sum-le-MOST_CONTRACTS-clause-answer : goal.returns-else-sum-le-MOST_CONTRACTS-clause-answer
returns-else-sum-le-MOST_CONTRACTS-clause-answer c =
    let p = add_past c.args.self.now.stand c.requires.0 c.requires.1 _ c.link_of-link.ensures.ended c.if-at-ne0.true _ (sum_is {x = c.leg-leg.result} c.of.ensures c.plus.ensures c.number-sum.ensures c.leg-leg.ensures) c.if-sum-le-MOST_CONTRACTS.false in
    p.answered

pub returns-else-sum-le-MOST_CONTRACTS-clause-gone_over : goal.returns-else-sum-le-MOST_CONTRACTS-clause-gone_over
returns-else-sum-le-MOST_CONTRACTS-clause-gone_over c =
    let p = add_past c.args.self.now.stand c.requires.0 c.requires.1 _ c.link_of-link.ensures.ended c.if-at-ne0.true _ (sum_is {x = c.leg-leg.result} c.of.ensures c.plus.ensures c.number-sum.ensures c.leg-leg.ensures) c.if-sum-le-MOST_CONTRACTS.false in
    record { holdings = refl; fills = refl; gone = refl; rows = p.stand.are }

pub invariant_of-self-then-self-lt-MOST_LEGS : goal.invariant_of-self-then-self-lt-MOST_LEGS
invariant_of-self-then-self-lt-MOST_LEGS c =
    let p = new_done c.args.self.now.stand c.requires.0 c.requires.1 _ c.link_of-link.ensures.ended c.if-at-ne0.false c.if-self-lt-MOST_LEGS.true _ _ (c.number.ensures ∙ ap (λ (l : Leg). l.contracts.0) c.leg-leg.ensures) (add-one _) in
    record { tables = c.args.self.now.tables; within = omega (arith, c.requires.0); stand = stand_self p.stand }

pub returns-then-self-lt-MOST_LEGS-clause-answer : goal.returns-then-self-lt-MOST_LEGS-clause-answer
returns-then-self-lt-MOST_LEGS-clause-answer c =
    let p = new_done c.args.self.now.stand c.requires.0 c.requires.1 _ c.link_of-link.ensures.ended c.if-at-ne0.false c.if-self-lt-MOST_LEGS.true _ _ (c.number.ensures ∙ ap (λ (l : Leg). l.contracts.0) c.leg-leg.ensures) (add-one _) in
    p.answered

pub returns-then-self-lt-MOST_LEGS-clause-gone_over : goal.returns-then-self-lt-MOST_LEGS-clause-gone_over
returns-then-self-lt-MOST_LEGS-clause-gone_over c =
    let p = new_done c.args.self.now.stand c.requires.0 c.requires.1 _ c.link_of-link.ensures.ended c.if-at-ne0.false c.if-self-lt-MOST_LEGS.true _ _ (c.number.ensures ∙ ap (λ (l : Leg). l.contracts.0) c.leg-leg.ensures) (add-one _) in
    record { holdings = refl; fills = refl; gone = refl; rows = p.stand.are }

pub invariant_of-self-else-self-lt-MOST_LEGS : goal.invariant_of-self-else-self-lt-MOST_LEGS
invariant_of-self-else-self-lt-MOST_LEGS c =
    let p = new_full c.args.self.now.stand c.requires.0 c.requires.1 _ c.link_of-link.ensures.ended c.if-at-ne0.false c.if-self-lt-MOST_LEGS.false in
    record { tables = c.args.self.now.tables; within = omega (arith, c.requires.0); stand = stand_self p.stand }

pub returns-else-self-lt-MOST_LEGS-clause-answer : goal.returns-else-self-lt-MOST_LEGS-clause-answer
returns-else-self-lt-MOST_LEGS-clause-answer c =
    let p = new_full c.args.self.now.stand c.requires.0 c.requires.1 _ c.link_of-link.ensures.ended c.if-at-ne0.false c.if-self-lt-MOST_LEGS.false in
    p.answered

pub returns-else-self-lt-MOST_LEGS-clause-gone_over : goal.returns-else-self-lt-MOST_LEGS-clause-gone_over
returns-else-self-lt-MOST_LEGS-clause-gone_over c =
    let p = new_full c.args.self.now.stand c.requires.0 c.requires.1 _ c.link_of-link.ensures.ended c.if-at-ne0.false c.if-self-lt-MOST_LEGS.false in
    record { holdings = refl; fills = refl; gone = refl; rows = p.stand.are }
