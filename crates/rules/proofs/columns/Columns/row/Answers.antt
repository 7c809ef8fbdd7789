-- What stands in the place's row. Assumes nothing.
use Rattle.rules.specs.Columns.{cell}
use Rattle.table.proofs.Laws.{row_low}
use native.Mathlib.Omega.{arith}
use Rattle.rules.proofs.columns.Columns.row.Goals as goal

pub offset_bounds-self-row_of : goal.offset_bounds-self-row_of
offset_bounds-self-row_of c = omega (arith, row_low _ _ c.row_of.ensures)

pub bounds-self-row_of : goal.bounds-self-row_of
bounds-self-row_of c = omega (arith, row_low _ _ c.row_of.ensures)

pub returns : goal.returns
unfolding cell
returns c = rw c.row_of.ensures
