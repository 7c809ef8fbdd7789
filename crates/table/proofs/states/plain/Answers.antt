-- The state with no blocks: every row is the one that `blank` gives. Assumes nothing.
use Rattle.table.specs.Rows.{plain}
use Rattle.table.proofs.states.plain.Goals as goal

pub returns : goal.returns
unfolding plain
returns c = rw c.blank.ensures
