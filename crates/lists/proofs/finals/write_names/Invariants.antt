-- The names of a final list, the last first: those after the place that is left are written. Assumes nothing.
use Prim.Native.Nat.{◌*◌}
use Rattle.lists.proofs.Readings.{Written}
use Rattle.pala.specs.Lists.{final_names}
use Rattle.table.specs.Rows.{name_bytes, rows}
use Rattle.lists.proofs.finals.write_names.Given as goal

abbrev pub invariant-loop-k : goal.invariant-loop-k
invariant-loop-k l = Written (rows l.s) (final_names l.s) l.initial.list l.p.0 (name_bytes * l.k) l.list
