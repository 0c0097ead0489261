use Rattle.std.proofs.Common.{sym, ap, ◌∙◌, arith}
use Rattle.std.specs.Prelude.{option_copied}
use Rattle.symbols.proofs.ImportLaws.{line_malformed, line_past_range, line_unknown, line_good, root_known, root_unknown}
use Rattle.symbols.proofs.LineLaws.{formed_length}
use Rattle.symbols.proofs.imports.take_line.Goals as goal

pub returns-then-not-well_formed : goal.returns-then-not-well_formed
returns-then-not-well_formed c =
    rw (c.refused.ensures, line_malformed c.args.roots.now c.args.i c.args.line.now (sym c.well_formed-2.ensures ∙ c.if-not-well_formed.true))

pub line_says-said-requires : goal.line_says-said-requires
line_says-said-requires c = formed_length _ (sym c.well_formed-2.ensures ∙ c.if-not-well_formed.false)

pub returns-then-not-line_in_range : goal.returns-then-not-line_in_range
returns-then-not-line_in_range c =
    let formed = sym c.well_formed-2.ensures ∙ c.if-not-well_formed.false in
    let said = rw c.line_says-said.ensures at (sym c.line_in_range.ensures ∙ c.if-not-line_in_range.true) in
    rw (c.refused-then-not-line_in_range.ensures, line_past_range c.args.roots.now c.args.i c.args.line.now formed said)

pub find_name-requires : goal.find_name-requires
find_name-requires c = omega (arith, formed_length c.args.line.now (sym c.well_formed-2.ensures ∙ c.if-not-well_formed.false))

pub returns-in-Some : goal.returns-in-Some
returns-in-Some c =
    let roots = c.args.roots.now in
    let line = c.args.line.now in
    let formed = sym c.well_formed-2.ensures ∙ c.if-not-well_formed.false in
    let said = rw c.line_says-said.ensures at (sym c.line_in_range.ensures ∙ c.if-not-line_in_range.false) in
    let known = root_known roots line c.in-Some.root.now (sym c.find_name.ensures ∙ ap option_copied c.in-Some.is) in
    rw (line_good roots c.args.i line formed said known.0, known.1, c.line_leg.ensures, c.root_terms.ensures, c.line_says-said.ensures)

pub returns-in-None : goal.returns-in-None
returns-in-None c =
    let roots = c.args.roots.now in
    let line = c.args.line.now in
    let formed = sym c.well_formed-2.ensures ∙ c.if-not-well_formed.false in
    let said = rw c.line_says-said.ensures at (sym c.line_in_range.ensures ∙ c.if-not-line_in_range.false) in
    rw (c.refused-in-None.ensures, line_unknown roots c.args.i line formed said (root_unknown roots line (sym c.find_name.ensures ∙ ap option_copied c.in-None.is)))
