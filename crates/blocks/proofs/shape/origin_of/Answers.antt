use Rattle.blocks.specs.Block.{origin_of}
use Rattle.blocks.proofs.shape.origin_of.Goals as goal

pub returns : goal.returns
unfolding origin_of
returns c = rw (c.account_of-account.ensures, c.form_of-form.ensures)
