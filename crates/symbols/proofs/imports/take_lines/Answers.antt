use Rattle.std.proofs.Common.{◌*◌, ◌+◌, ◌≤◌, eqb, length, length-append, ap, sym, ◌∙◌, rules, arith}
use Rattle.std.proofs.lemmas.List.Sorted.{answers_always}
use Rattle.records.proofs.ErrorLaws.{handed_on}
use Rattle.records.proofs.LegLaws.{length_leg_bytes}
use Rattle.records.proofs.PutLaws.{put_room}
use Rattle.symbols.proofs.ImportLaws.{taking_none, taking_stop, taking_more, taking_over, taking_rows}
use Rattle.symbols.proofs.SplitLaws.{line_cut, emptied}
use Rattle.symbols.proofs.imports.take_lines.Goals as goal
use Rattle.symbols.proofs.imports.take_lines.Goals.{then-n-lt-MOST_LEGS, else-n-lt-MOST_LEGS}

pub loop-line-init : goal.loop-line-init
loop-line-init c = taking_none c.args.roots.now c.args.list.now c.args.rows.now c.into_iter-line-iterator.result.rest.now (cc) (omega arith)

pub returns-in_err-leg-clause-value : goal.returns-in_err-leg-clause-value
returns-in_err-leg-clause-value c =
    let s = c.in-Some.ensures.steps in
    let rest = c.loop-line.line-iterator.rest.now in
    let cut = line_cut rest c.in-Some.line.now c.next.new.self.rest.now s.0 s.1.0 s.1.1 (s.1.2 (λ b. eqb b 10) (answers_always _ _ _ (λ f a r g h. search rules))).1 s.2 in
    handed_on _ c.in_err-leg.field-0.0 c.from_residual.ensures.1
    ∙ taking_stop c.args.roots.now c.args.list.now c.args.rows.now c.loop-line.rows rest c.loop-line.n c.loop-line.invariant c.in-Some.line.now c.next.new.self.rest.now cut
    c.in_err-leg.field-0.0 (sym c.take_line.ensures ∙ c.in_err-leg.was) _

pub loop-line-preserved : goal.loop-line-preserved
loop-line-preserved c =
    let s = c.in-Some.ensures.steps in
    let rest = c.loop-line.line-iterator.rest.now in
    let rest' = c.next.new.self.rest.now in
    let line = c.in-Some.line.now in
    let cut = line_cut rest line rest' s.0 s.1.0 s.1.1 (s.1.2 (λ b. eqb b 10) (answers_always _ _ _ (λ f a r g h. search rules))).1 s.2 in
    let t = c.loop-line.invariant in
    let few : c.loop-line.n + 1 + length rest' ≤ length c.args.list.now = omega (arith, t.few, s.1.1, s.2, length-append line rest', ap length s.0) in
    let more = taking_more c.args.roots.now c.args.list.now c.args.rows.now c.loop-line.rows rest c.loop-line.n t line rest' cut c.in_ok-leg.leg (sym c.take_line.ensures ∙ c.in_ok-leg.was) few in
    elim c.if-n-lt-MOST_LEGS.branch [
      | then-n-lt-MOST_LEGS w ↦
          let room : 32 * c.loop-line.n + length w.leg_bytes.result ≤ length c.loop-line.rows = omega (arith, t.room, length_leg_bytes c.in_ok-leg.leg, ap length w.leg_bytes.ensures) in
          more c.if-n-lt-MOST_LEGS.rows (ap length w.rows-is ∙ w.copy_to.auto.to) (λ h. w.rows-is ∙ rw w.leg_bytes.ensures at (w.copy_to.ensures ∙ put_room _ (32 * c.loop-line.n) _ room))
      | else-n-lt-MOST_LEGS w ↦ more c.if-n-lt-MOST_LEGS.rows (ap length w.rows-is) (λ h. absurd (omega (arith, w.if-n-lt-MOST_LEGS.false)))
    ]

pub returns-clause-value : goal.returns-clause-value
returns-clause-value c =
    taking_over c.args.roots.now c.args.list.now c.args.rows.now c.loop-line.rows c.loop-line.line-iterator.rest.now c.loop-line.n c.loop-line.invariant (emptied _ c.in-None.ensures.steps.0)

pub returns-clause-lines_taken : goal.returns-clause-lines_taken
returns-clause-lines_taken c =
    λ q h. taking_rows c.args.roots.now c.args.list.now c.args.rows.now c.loop-line.rows c.loop-line.line-iterator.rest.now c.loop-line.n c.loop-line.invariant (emptied _ c.in-None.ensures.steps.0) h
