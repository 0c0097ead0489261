use Rattle.std.proofs.Common.{refl, ap, ◌∙◌, arith}
use Rattle.records.specs.declared.legs.Leg.{Leg}
use Rattle.fills.proofs.PostLaws.{inside, rows_held, take_some, take_all, take_past, take_none}
use Rattle.fills.proofs.StandLaws.{stand_self}
use Rattle.fills.proofs.book.Book.close.Goals as goal

pub bounds-self-j : goal.bounds-self-j
bounds-self-j c = inside c.args.self.now.stand c.requires.0 c.requires.1 _ c.link_of-link.ensures.ended c.if-at-ne0.true

pub overflow_sub-self-then-taken-lot-2 : goal.overflow_sub-self-then-taken-lot-2
overflow_sub-self-then-taken-lot-2 c = rows_held c.args.self.now.stand c.requires.0 c.requires.1 _ c.link_of-link.ensures.ended c.if-at-ne0.true

pub invariant_of-self : goal.invariant_of-self
invariant_of-self c =
    let p = take_some c.args.self.now.stand c.requires.0 c.requires.1 _ c.link_of-link.ensures.ended c.if-at-ne0.true _ (c.number-taken.ensures ∙ ap (λ (l : Leg). l.contracts.0) c.leg-leg.ensures) c.if-taken-lot.true in
    record { tables = c.args.self.now.tables; within = omega (arith, c.requires.0); stand = stand_self p.stand }

pub returns-then-taken-lot-clause-answer : goal.returns-then-taken-lot-clause-answer
returns-then-taken-lot-clause-answer c =
    let p = take_some c.args.self.now.stand c.requires.0 c.requires.1 _ c.link_of-link.ensures.ended c.if-at-ne0.true _ (c.number-taken.ensures ∙ ap (λ (l : Leg). l.contracts.0) c.leg-leg.ensures) c.if-taken-lot.true in
    p.answered

pub returns-then-taken-lot-clause-gone_over : goal.returns-then-taken-lot-clause-gone_over
returns-then-taken-lot-clause-gone_over c =
    let p = take_some c.args.self.now.stand c.requires.0 c.requires.1 _ c.link_of-link.ensures.ended c.if-at-ne0.true _ (c.number-taken.ensures ∙ ap (λ (l : Leg). l.contracts.0) c.leg-leg.ensures) c.if-taken-lot.true in
    record { holdings = refl; fills = refl; gone = refl; rows = p.stand.are }

pub invariant_of-self-then-taken-lot-2 : goal.invariant_of-self-then-taken-lot-2
invariant_of-self-then-taken-lot-2 c =
    let p = take_all c.args.self.now.stand c.requires.0 c.requires.1 _ c.link_of-link.ensures.ended c.if-at-ne0.true _ (c.number-taken.ensures ∙ ap (λ (l : Leg). l.contracts.0) c.leg-leg.ensures) c.if-taken-lot-2.true in
    record { tables = c.args.self.now.tables; within = omega (arith, c.requires.0); stand = stand_self p.stand }

pub returns-then-taken-lot-2-clause-answer : goal.returns-then-taken-lot-2-clause-answer
returns-then-taken-lot-2-clause-answer c =
    let p = take_all c.args.self.now.stand c.requires.0 c.requires.1 _ c.link_of-link.ensures.ended c.if-at-ne0.true _ (c.number-taken.ensures ∙ ap (λ (l : Leg). l.contracts.0) c.leg-leg.ensures) c.if-taken-lot-2.true in
    p.answered

pub returns-then-taken-lot-2-clause-gone_over : goal.returns-then-taken-lot-2-clause-gone_over
returns-then-taken-lot-2-clause-gone_over c =
    let p = take_all c.args.self.now.stand c.requires.0 c.requires.1 _ c.link_of-link.ensures.ended c.if-at-ne0.true _ (c.number-taken.ensures ∙ ap (λ (l : Leg). l.contracts.0) c.leg-leg.ensures) c.if-taken-lot-2.true in
    record { holdings = refl; fills = refl; gone = refl; rows = p.stand.are }

pub invariant_of-self-else-taken-lot-2 : goal.invariant_of-self-else-taken-lot-2
invariant_of-self-else-taken-lot-2 c =
    let p = take_past c.args.self.now.stand c.requires.0 c.requires.1 _ c.link_of-link.ensures.ended c.if-at-ne0.true _ (c.number-taken.ensures ∙ ap (λ (l : Leg). l.contracts.0) c.leg-leg.ensures) c.if-taken-lot.false c.if-taken-lot-2.false in
    record { tables = c.args.self.now.tables; within = omega (arith, c.requires.0); stand = stand_self p.stand }

pub returns-else-taken-lot-2-clause-answer : goal.returns-else-taken-lot-2-clause-answer
returns-else-taken-lot-2-clause-answer c =
    let p = take_past c.args.self.now.stand c.requires.0 c.requires.1 _ c.link_of-link.ensures.ended c.if-at-ne0.true _ (c.number-taken.ensures ∙ ap (λ (l : Leg). l.contracts.0) c.leg-leg.ensures) c.if-taken-lot.false c.if-taken-lot-2.false in
    p.answered

pub returns-else-taken-lot-2-clause-gone_over : goal.returns-else-taken-lot-2-clause-gone_over
returns-else-taken-lot-2-clause-gone_over c =
    let p = take_past c.args.self.now.stand c.requires.0 c.requires.1 _ c.link_of-link.ensures.ended c.if-at-ne0.true _ (c.number-taken.ensures ∙ ap (λ (l : Leg). l.contracts.0) c.leg-leg.ensures) c.if-taken-lot.false c.if-taken-lot-2.false in
    record { holdings = refl; fills = refl; gone = refl; rows = p.stand.are }

pub invariant_of-self-else-at-ne0 : goal.invariant_of-self-else-at-ne0
invariant_of-self-else-at-ne0 c =
    let p = take_none c.args.self.now.stand c.requires.0 c.requires.1 _ c.link_of-link.ensures.ended c.if-at-ne0.false in
    record { tables = c.args.self.now.tables; within = omega (arith, c.requires.0); stand = stand_self p.stand }

pub returns-else-at-ne0-clause-answer : goal.returns-else-at-ne0-clause-answer
returns-else-at-ne0-clause-answer c =
    let p = take_none c.args.self.now.stand c.requires.0 c.requires.1 _ c.link_of-link.ensures.ended c.if-at-ne0.false in
    p.answered

pub returns-else-at-ne0-clause-gone_over : goal.returns-else-at-ne0-clause-gone_over
returns-else-at-ne0-clause-gone_over c =
    let p = take_none c.args.self.now.stand c.requires.0 c.requires.1 _ c.link_of-link.ensures.ended c.if-at-ne0.false in
    record { holdings = refl; fills = refl; gone = refl; rows = p.stand.are }
