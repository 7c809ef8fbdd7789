-- No name passed differs. Assumes nothing.
use Rattle.std.proofs.Common.{ℕ, ◌<◌, ◌≡◌, true}
use Rattle.table.specs.Bytes.{same}
use Rattle.pala.specs.Lists.{name_at}
use Rattle.lists.proofs.relations.fork.Given as goal

abbrev pub invariant-loop-k : goal.invariant-loop-k
invariant-loop-k l = (i : ℕ) → i < l.k → same (name_at l.a i) (name_at l.b i) ≡ true
