-- Its epoch and its parent's. Assumes nothing.
use Rattle.rules.specs.Columns.{normal_by}
use Rattle.std.proofs.Common.{arith}
use Rattle.std.proofs.lemmas.Bool.Decides.{nat_tests}
use Rattle.rules.proofs.columns.Columns.normal.Goals as goal

pub returns-then-lt : goal.returns-then-lt
unfolding normal_by
returns-then-lt c = grind (arith, nat_tests)

pub returns-else-lt : goal.returns-else-lt
unfolding normal_by
returns-else-lt c = grind (arith, nat_tests)
