-- No row passed has the name of one below it, and the mark of each key passed is set. Assumes nothing.
use Prim.Native.Nat.{ℕ, ◌<◌}
use Rattle.shape.proofs.Laws.{Marked, marks}
use Rattle.shape.specs.Parts.{apart}
use Rattle.table.specs.Rows.{rows}
use lib.ListN.{length}
use mathlib.Core.Bool.{true}
use mathlib.Core.Path.{◌≡◌}
use Rattle.shape.proofs.names.names_apart.Given as goal

abbrev pub invariant-loop-p : goal.invariant-loop-p
invariant-loop-p l = Marked l.seen l.keys l.p × ((i : ℕ) → i < l.p → apart (rows l.s) i ≡ true) × (length l.seen ≡ marks)
