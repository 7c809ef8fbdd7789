-- None of the runs passed has the key. Assumes nothing.
use Rattle.std.proofs.Common.{◌≡◌, ◌*◌, eqb, false, take}
use Rattle.std.specs.List.{list_any}
use Rattle.shape.proofs.names.passed.Given as goal

abbrev pub invariant-loop-run : goal.invariant-loop-run
invariant-loop-run l = list_any (λ k. eqb k l.key) (take (8 * l.run) l.keys) ≡ false
