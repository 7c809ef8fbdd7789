-- The all-zero state is the plain one of zeros. Assumes nothing.
use Rattle.table.specs.Rows.{all_zero}
use Rattle.table.proofs.states.all_zero.Goals as goal

pub returns : goal.returns
unfolding all_zero
returns c = c.plain.ensures
