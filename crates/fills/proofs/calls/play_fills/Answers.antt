use Rattle.std.proofs.Common.{sym, ◌∙◌, arith}
use Rattle.fills.proofs.BookLaws.{played_none, played_more, played_refused, played_all}
use Rattle.fills.proofs.PlayLaws.{playing_count, playing_indices, playing_numbers}
use Rattle.fills.proofs.calls.play_fills.Goals as goal
use Rattle.fills.proofs.calls.play_fills.Goals.{in-Some, in_default}

pub loop-i-init : goal.loop-i-init
loop-i-init c = (omega arith, played_none _ _ _ c.requires.after_holdings)

pub loop-i-preserved : goal.loop-i-preserved
loop-i-preserved c =
    let l = c.loop-i.invariant.1 in
    elim c.match-post.branch [
      | in-Some w ↦
          let p = l.playing in (
            omega arith,
            rw (w.indices-is, w.numbers-is, w.refused-is)
                (played_refused l c.loop-i-test.true c.post.ensures.gone_over (sym w.in-Some.is ∙ c.post.ensures.answer) (omega (arith, p.few, c.requires.room.0)) (omega (arith, p.few, c.requires.room.1))),
          )
      | in_default w ↦ (
        omega arith,
        rw (w.indices-is, w.numbers-is, w.refused-is)
            (played_more l c.loop-i-test.true c.post.ensures.gone_over (sym w.in_default.is ∙ c.post.ensures.answer)),
      )
    ]

pub returns-clause-all_played : goal.returns-clause-all_played
returns-clause-all_played c = played_all c.loop-i.invariant.1 (omega arith)

pub returns-clause-refused_value : goal.returns-clause-refused_value
returns-clause-refused_value c = playing_count c.loop-i.invariant.1.playing (omega arith)

pub returns-clause-indices_after : goal.returns-clause-indices_after
returns-clause-indices_after c = playing_indices c.loop-i.invariant.1.playing (omega arith)

pub returns-clause-numbers_after : goal.returns-clause-numbers_after
returns-clause-numbers_after c = playing_numbers c.loop-i.invariant.1.playing (omega arith)
