-- The row of zeros, field by field. Assumes nothing.
use Rattle.table.specs.Rows.{blank}
use mathlib.Core.Path.{refl}
use Rattle.table.proofs.states.blank.Goals as goal

pub returns : goal.returns
unfolding blank
returns c = refl
