-- The block at a place: its parent lower, and the rest in order. Assumes nothing.
use Rattle.std.proofs.Common.{arith}
use Rattle.std.proofs.lemmas.Bool.Decides.{nat_tests}
use Rattle.pala.specs.Rules.{epoch_at}
use Rattle.shape.specs.Parts.{row_ok}
use Rattle.shape.proofs.places.row_ok.Goals as goal

pub returns-then-lt : goal.returns-then-lt
unfolding row_ok epoch_at
returns-then-lt c = grind (arith, nat_tests)

pub returns-else-lt : goal.returns-else-lt
unfolding row_ok epoch_at
returns-else-lt c = grind (arith, nat_tests)
