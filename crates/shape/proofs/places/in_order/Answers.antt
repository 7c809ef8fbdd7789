-- A block in order: test by test. Assumes nothing.
use Rattle.std.proofs.Common.{arith}
use Rattle.std.proofs.lemmas.Bool.Decides.{nat_tests}
use Rattle.pala.specs.Counts.{block_epoch}
use Rattle.shape.specs.Parts.{in_order}
use Rattle.shape.proofs.places.in_order.Goals as goal

pub returns-then-lt-2 : goal.returns-then-lt-2
unfolding in_order block_epoch
returns-then-lt-2 c = grind (arith, nat_tests)

pub returns-else-lt-2 : goal.returns-else-lt-2
unfolding in_order block_epoch
returns-else-lt-2 c = grind (arith, nat_tests)
