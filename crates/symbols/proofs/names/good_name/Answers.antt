use Rattle.std.proofs.Common.{eq-eqb, ne_eqb}
use Rattle.symbols.specs.Roots.{good_name}
use Rattle.symbols.proofs.names.good_name.Goals as goal

pub returns-then-name-ne-NAME_BYTES : goal.returns-then-name-ne-NAME_BYTES
unfolding good_name
returns-then-name-ne-NAME_BYTES c = simp (ne_eqb _ _ c.if-name-ne-NAME_BYTES.true)

pub returns : goal.returns
unfolding good_name
returns c = rw (c.is_padded.ensures, c.is_letter.ensures, eq-eqb _ _ c.if-name-ne-NAME_BYTES.false)
