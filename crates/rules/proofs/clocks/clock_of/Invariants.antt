-- The best of the local epoch and the clocks passed. Assumes nothing.
use Rattle.std.proofs.Common.{◌≡◌, max}
use Rattle.table.specs.Scan.{greatest}
use Rattle.pala.specs.Counts.{clock_of}
use Rattle.pala.specs.Rules.{shared}
use Rattle.rules.proofs.clocks.clock_of.Given as goal

abbrev pub invariant-loop-c : goal.invariant-loop-c
invariant-loop-c l =
    l.best.0 ≡ max l.initial.best.0 (greatest l.c-index (λ i. shared l.fn.s.n l.fn.s.clocks (clock_of l.fn.s.clocks i)) (clock_of l.fn.s.clocks))
