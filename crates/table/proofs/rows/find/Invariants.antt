-- The place of a name: no row passed has it. Assumes nothing.
use Rattle.std.proofs.Common.{ℕ, ◌<◌, ◌≡◌, false}
use Rattle.table.specs.Bytes.{same}
use Rattle.table.specs.Rows.{at, rows}
use Rattle.table.proofs.rows.find.Given as goal

abbrev pub invariant-loop-k : goal.invariant-loop-k
invariant-loop-k l = (i : ℕ) → i < l.k → same (at (rows l.s) i).name l.name ≡ false
