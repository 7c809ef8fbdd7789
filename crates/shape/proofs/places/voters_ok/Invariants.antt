-- No voter from number n on: so far none was. Assumes nothing.
use Rattle.table.specs.Rows.{has_voter}
use Rattle.table.specs.Scan.{all_below}
use lib.Dec.{ltb}
use mathlib.Core.Bool.{◌||◌, not}
use mathlib.Core.Path.{◌≡◌}
use Rattle.shape.proofs.places.voters_ok.Given as goal

abbrev pub invariant-loop-k : goal.invariant-loop-k
invariant-loop-k l = l.good ≡ all_below l.k (λ i. ltb i l.n || not (has_voter l.b i))
