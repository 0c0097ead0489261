use Rattle.std.proofs.Common.{◌≡◌, Ok, true, take, sym, ap, ◌∙◌}
use Rattle.std.specs.Prelude.{option_copied}
use Rattle.records.proofs.ChunkLaws.{first_record}
use Rattle.symbols.specs.Calls.{line_of_record}
use Rattle.symbols.specs.Lines.{line_text}
use Rattle.symbols.proofs.ExportLaws.{record_bad, record_unknown, record_fine, unpaid_is, terms_known, terms_unknown}
use Rattle.symbols.proofs.exports.take_record.Goals as goal

pub returns-then-not-good-clause-value : goal.returns-then-not-good-clause-value
returns-then-not-good-clause-value c =
    let part = c.args.part.now in
    let leg = rw (first_record part c.told-part) at c.leg_at-leg.ensures in
    rw (c.refused.ensures, c.table_number.ensures, record_bad c.args.roots.now c.args.i part (unpaid_is part _ _ _ leg c.good_record.ensures c.if-not-good.true))

pub returns-in-Some-clause-value : goal.returns-in-Some-clause-value
returns-in-Some-clause-value c =
    let part = c.args.part.now in
    let roots = c.args.roots.now in
    let leg = rw (first_record part c.told-part) at c.leg_at-leg.ensures in
    let good = unpaid_is part _ _ true leg c.good_record.ensures c.if-not-good.false in
    let known = terms_known roots part c.in-Some.root.now (rw (c.terms_of.ensures, leg) at (sym c.find_terms.ensures) ∙ ap option_copied c.in-Some.is) in
    let line : line_text (take 6 c.in-Some.root.now) c.leg_at-leg.result ≡ line_of_record roots part = rw leg (sym known.1) in
    rw (record_fine roots c.args.i part good known.0, ← line) (ap Ok c.put_line.ensures.value)

pub returns-in-Some-clause-text_after : goal.returns-in-Some-clause-text_after
returns-in-Some-clause-text_after c =
    let part = c.args.part.now in
    let roots = c.args.roots.now in
    let leg = rw (first_record part c.told-part) at c.leg_at-leg.ensures in
    let known = terms_known roots part c.in-Some.root.now (rw (c.terms_of.ensures, leg) at (sym c.find_terms.ensures) ∙ ap option_copied c.in-Some.is) in
    let line : line_text (take 6 c.in-Some.root.now) c.leg_at-leg.result ≡ line_of_record roots part = rw leg (sym known.1) in
    λ z. rw line at c.put_line.ensures.out_after

pub returns-in-None-clause-value : goal.returns-in-None-clause-value
returns-in-None-clause-value c =
    let part = c.args.part.now in
    let roots = c.args.roots.now in
    let leg = rw (first_record part c.told-part) at c.leg_at-leg.ensures in
    let good = unpaid_is part _ _ true leg c.good_record.ensures c.if-not-good.false in
    let unknown = terms_unknown roots part (rw (c.terms_of.ensures, leg) at (sym c.find_terms.ensures) ∙ ap option_copied c.in-None.is) in
    rw (c.refused-in-None.ensures, c.table_number-in-None.ensures, record_unknown roots c.args.i part good unknown)
