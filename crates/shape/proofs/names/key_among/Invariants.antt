-- The key is among those passed, where the flag stands. Assumes nothing.
use Rattle.std.proofs.Common.{◌≡◌, eqb, take}
use Rattle.std.specs.List.{list_any}
use Rattle.shape.proofs.names.key_among.Given as goal

abbrev pub invariant-loop-k : goal.invariant-loop-k
invariant-loop-k l = l.found ≡ list_any (λ k. eqb k l.key) (take l.k-index l.keys)
