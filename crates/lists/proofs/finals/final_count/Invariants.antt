-- How many names: those counted, and those up to the place that is left; what the kept place fits is known once it is read.
-- The measure is the place. Assumes nothing.
use Rattle.std.proofs.Common.{Fits, w32}
use Prim.Native.Nat.{◌+◌, ◌<◌}
use Rattle.pala.proofs.Finals.{names_to}
use Rattle.pala.specs.Lists.{final_names}
use Rattle.table.specs.Rows.{rows}
use lib.ListN.{length}
use mathlib.Core.Path.{◌≡◌}
use Rattle.lists.proofs.finals.final_count.Given as goal

abbrev pub invariant-loop-p : goal.invariant-loop-p
invariant-loop-p l = record {
  counted : l.n + length (names_to (rows l.s) l.p.0) ≡ length (final_names l.s);
  first : l.n ≡ 0 → l.p ≡ l.s.kept;
  fits : 0 < l.n → Fits w32 l.s.kept.0;
}

abbrev pub decreases-loop-p : goal.decreases-loop-p
decreases-loop-p l = l.p.0
