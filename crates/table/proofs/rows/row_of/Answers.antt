-- The row of a place in the table, else the root's. Assumes nothing.
use Rattle.std.proofs.Common.{sym}
use Rattle.table.proofs.Laws.{row_in, row-past}
use Rattle.table.proofs.rows.row_of.Goals as goal

pub returns-then-p-gt-CAPACITY : goal.returns-then-p-gt-CAPACITY
returns-then-p-gt-CAPACITY c = sym (row-past _ c.if-p-gt-CAPACITY.true)

pub returns-else-p-gt-CAPACITY : goal.returns-else-p-gt-CAPACITY
returns-else-p-gt-CAPACITY c = sym (row_in _ c.if-p-gt-CAPACITY.false)
