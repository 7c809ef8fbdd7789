-- The block's parent and epoch, and its votes' test. Assumes nothing.
use Rattle.rules.specs.Columns.{row_by}
use Rattle.rules.proofs.columns.Row.of.Goals as goal

pub returns : goal.returns
unfolding row_by
returns c = rw (c.enough.ensures, c.votes.ensures)
