-- The fresh state is the plain one of local epoch 1. Assumes nothing.
use Rattle.table.specs.Rows.{fresh}
use Rattle.table.proofs.states.fresh.Goals as goal

pub returns : goal.returns
unfolding fresh
returns c = c.plain.ensures
