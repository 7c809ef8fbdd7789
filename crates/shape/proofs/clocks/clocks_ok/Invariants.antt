-- The clocks from number n on are zero: so far each was. Assumes nothing.
use Rattle.pala.specs.Counts.{clock_of}
use Rattle.table.specs.Scan.{all_below}
use lib.Dec.{eqb, ltb}
use mathlib.Core.Bool.{◌||◌}
use mathlib.Core.Path.{◌≡◌}
use Rattle.shape.proofs.clocks.clocks_ok.Given as goal

abbrev pub invariant-loop-k : goal.invariant-loop-k
invariant-loop-k l = l.good ≡ all_below l.k (λ i. ltb i l.n || eqb (clock_of l.clocks i) 0)
