use Rattle.std.proofs.Common.{◌≡◌, refl, sym, ap, ◌∙◌, arith}
use Rattle.records.specs.Chunks.{chunk_at}
use Rattle.records.specs.Tables.{good_unpaid}
use Rattle.fills.specs.Played.{number_over, rows_after}
use Rattle.fills.specs.Steps.Book.{standing}
use Rattle.fills.specs.Steps.Standing.{refused_with}
use Rattle.fills.proofs.BookLaws.{fill_room, fill_in_range, fill_opened, fill_closed}
use Rattle.fills.proofs.FillLaws.{bad_record, bad_action}
use Rattle.fills.proofs.StandLaws.{stand_skip, stand_self}
use Rattle.fills.proofs.book.Book.post.Goals as goal
use Rattle.fills.proofs.book.Book.post.Goals.{then-good_plain+else-action-eq-OPEN+else-action-eq-CLOSE, else-good_plain}

pub open-requires : goal.open-requires
open-requires c =
    let b = c.args.self.now in (
      fill_room b _ c.requires.0 c.requires.1,
      fill_in_range b _ c.requires.0 c.requires.1 (ap good_unpaid (sym c.plain_fill-plain.ensures) ∙ sym c.good_plain.ensures ∙ c.if-good_plain.true),
    )

pub returns-then-action-eq-OPEN-clause-answer : goal.returns-then-action-eq-OPEN-clause-answer
returns-then-action-eq-OPEN-clause-answer c =
    let p = fill_opened c.args.self.now _ c.requires.0 c.requires.1 (ap good_unpaid (sym c.plain_fill-plain.ensures) ∙ sym c.good_plain.ensures ∙ c.if-good_plain.true) (sym c.action_of-action.ensures ∙ c.if-action-eq-OPEN.true) in
    c.open.ensures.answer ∙ ap refused_with (sym p.0)

pub returns-then-action-eq-OPEN-clause-gone_over : goal.returns-then-action-eq-OPEN-clause-gone_over
returns-then-action-eq-OPEN-clause-gone_over c =
    let p = fill_opened c.args.self.now _ c.requires.0 c.requires.1 (ap good_unpaid (sym c.plain_fill-plain.ensures) ∙ sym c.good_plain.ensures ∙ c.if-good_plain.true) (sym c.action_of-action.ensures ∙ c.if-action-eq-OPEN.true) in
    rw p.1 c.open.ensures.gone_over

pub close-requires : goal.close-requires
close-requires c =
    let b = c.args.self.now in (
      fill_room b _ c.requires.0 c.requires.1,
      fill_in_range b _ c.requires.0 c.requires.1 (ap good_unpaid (sym c.plain_fill-plain.ensures) ∙ sym c.good_plain.ensures ∙ c.if-good_plain.true),
    )

pub returns-then-action-eq-CLOSE-clause-answer : goal.returns-then-action-eq-CLOSE-clause-answer
returns-then-action-eq-CLOSE-clause-answer c =
    let p = fill_closed c.args.self.now _ c.requires.0 c.requires.1 (ap good_unpaid (sym c.plain_fill-plain.ensures) ∙ sym c.good_plain.ensures ∙ c.if-good_plain.true) (sym c.action_of-action.ensures ∙ c.if-action-eq-CLOSE.true) in
    c.close.ensures.answer ∙ ap refused_with (sym p.0)

pub returns-then-action-eq-CLOSE-clause-gone_over : goal.returns-then-action-eq-CLOSE-clause-gone_over
returns-then-action-eq-CLOSE-clause-gone_over c =
    let p = fill_closed c.args.self.now _ c.requires.0 c.requires.1 (ap good_unpaid (sym c.plain_fill-plain.ensures) ∙ sym c.good_plain.ensures ∙ c.if-good_plain.true) (sym c.action_of-action.ensures ∙ c.if-action-eq-CLOSE.true) in
    rw p.1 c.close.ensures.gone_over

pub invariant_of-self : goal.invariant_of-self
invariant_of-self c =
    let b = c.args.self.now in
    record { tables = b.tables; within = omega (arith, fill_room b _ c.requires.0 c.requires.1); stand = stand_self (stand_skip b.stand) }

-- neither a good record that is opened or closed
bad : (c : goal.After-self-1) → (let b = c.args.self.now in
    let rows = standing b in
    let f = chunk_at 32 b.fills.now c.args.i in
    (number_over rows f ≡ 4) × (rows_after rows f ≡ rows))
bad c =
    let b = c.args.self.now in
    elim c.if-good_plain.branch [
      | then-good_plain+else-action-eq-OPEN+else-action-eq-CLOSE w ↦
          bad_action _ (standing b) (λ e. w.if-action-eq-OPEN.false (w.action_of-action.ensures ∙ e)) (λ e. w.if-action-eq-CLOSE.false (w.action_of-action.ensures ∙ e))
      | else-good_plain w ↦ bad_record _ (standing b) (ap good_unpaid (sym c.plain_fill-plain.ensures) ∙ sym c.good_plain.ensures ∙ w.if-good_plain.false)
    ]

pub returns-clause-answer : goal.returns-clause-answer
returns-clause-answer c = ap refused_with (sym (bad c).0)

pub returns-clause-gone_over : goal.returns-clause-gone_over
returns-clause-gone_over c = record { holdings = refl; fills = refl; gone = refl; rows = (stand_skip c.args.self.now.stand).are ∙ sym (bad c).1 }
