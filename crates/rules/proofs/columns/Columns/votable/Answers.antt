-- The tests of the rule, firmness last. Assumes nothing.
use Rattle.std.proofs.Common.{arith}
use Rattle.std.proofs.lemmas.Bool.Decides.{nat_tests}
use Rattle.rules.specs.Columns.{votable_by}
use Rattle.rules.proofs.columns.Columns.votable.Goals as goal

pub returns-then-le : goal.returns-then-le
unfolding votable_by
returns-then-le c = grind (arith, nat_tests)

pub returns-else-le : goal.returns-else-le
unfolding votable_by
returns-else-le c = grind (arith, nat_tests)
