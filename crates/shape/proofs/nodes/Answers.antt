-- The own number is below n, which is 1 to 32. Assumes nothing.
use Rattle.pala.specs.Counts.{nodes}
use Rattle.std.proofs.Common.{arith}
use Rattle.std.proofs.lemmas.Bool.Decides.{nat_tests}
use Rattle.shape.proofs.nodes.Goals as goal

pub returns-then-n-le-MOST_NODES : goal.returns-then-n-le-MOST_NODES
unfolding nodes
returns-then-n-le-MOST_NODES c = grind (arith, nat_tests)

pub returns-else-n-le-MOST_NODES : goal.returns-else-n-le-MOST_NODES
unfolding nodes
returns-else-n-le-MOST_NODES c = grind (arith, nat_tests)
