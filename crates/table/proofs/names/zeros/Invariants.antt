-- No byte passed is other than zero, where the flag still stands. Assumes nothing.
use Rattle.std.proofs.Common.{◌≡◌, take}
use Rattle.table.specs.Bytes.{zeros}
use Rattle.table.proofs.names.zeros.Given as goal

abbrev pub invariant-loop-b : goal.invariant-loop-b
invariant-loop-b l = l.none ≡ zeros (take l.b-index l.bytes)
